-- What changes make of small node texts.
use Rattle.std.specs.Prelude.{◌≡◌, List, [], ℕ, Bool, true, false, None, codes}
use Rattle.css_tree.specs.declared.node.Field.TheVariants as F
use Rattle.css_tree.specs.declared.node.Raw.TheVariants as R
use Rattle.css_tree.specs.declared.node.Source.{Source}
use Rattle.css_tree.specs.declared.node.NodeText.{NodeText}
use Rattle.css_tree.specs.declared.node.NodeText.TheVariants.{Rule, Declaration}
use Rattle.css_tree.specs.Examples.{plain, open_ending}
use Rattle.css_tree.specs.Changes.{with_field, has_field, with_raw, has_raw, takes_field, takes_raw}

-- `b:` with this value and mark
abbrev pub marked_decl : Source → Bool → List ℕ → NodeText
marked_decl value important mark = Declaration None (codes "b") (codes ":") value important mark []

abbrev pub decl : NodeText
decl = marked_decl (plain (codes "c")) false []

abbrev pub commented : NodeText
commented = marked_decl (record { source = codes "x/*y*/"; clean = codes "x" }) false []

-- A value is kept as it is written, and is there in both forms.
abbrev pub ChangedValue : Type 0
ChangedValue = (with_field F.Value (codes "x/*y*/") decl ≡ commented)
    × (has_field F.Value (codes "x") commented ≡ true) × (has_field F.Value (codes "x/*y*/") commented ≡ true) × (has_field F.Value (codes "x/*z*/") commented ≡ false)

-- The field of a mark sets the flag, and its raw leaves it.
abbrev pub ChangedMark : Type 0
ChangedMark = (with_field F.Important (codes "!ie") decl ≡ marked_decl (plain (codes "c")) true (codes "!ie"))
    × (with_field F.Important [] (marked_decl (plain (codes "c")) true (codes "!ie")) ≡ decl)
    × (with_raw R.Important (codes "!ie") decl ≡ marked_decl (plain (codes "c")) false (codes "!ie"))
    × (has_field F.Important (codes "!ie") (marked_decl (plain (codes "c")) false (codes "!ie")) ≡ false)

abbrev pub rule : Bool → NodeText
rule semicolon = Rule None (plain (codes "a")) [] (open_ending semicolon)

-- The semicolon is there or not, whatever its text, and a raw that is absent isn't there with any text.
abbrev pub ChangedRaws : Type 0
ChangedRaws = (with_raw R.Semicolon (codes " ") (rule false) ≡ rule true) × (has_raw R.Semicolon (codes ";") (rule true) ≡ true) × (has_raw R.Semicolon [] (rule true) ≡ false)
    × (has_raw R.Before [] (rule true) ≡ false) × (has_raw R.Between [] (rule true) ≡ true)

-- A kind stays as it is under a field or raw that it lacks.
abbrev pub OtherKinds : Type 0
OtherKinds = (with_field F.Selector (codes "x") decl ≡ decl) × (has_field F.Selector (codes "x") decl ≡ true) × (takes_field F.Selector decl ≡ false) × (takes_field F.Value decl ≡ true)
    × (with_raw R.Tail (codes "x") (rule true) ≡ rule true) × (takes_raw R.Tail (rule true) ≡ false) × (takes_raw R.After (rule true) ≡ true)
