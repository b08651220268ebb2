-- The plans of calls on a small forest: the root 0 with the rules 1 and 3, and the rule 2 below 1.
use Rattle.std.specs.Prelude.{◌≡◌, [], ◌∷◌, Ok, Err, codes}
use Rattle.css_tree.specs.declared.node.Field.TheVariants as F
use Rattle.css_tree.specs.declared.node.Raw.TheVariants as R
use Rattle.node_rows.specs.Nodes.{text_of, span_of}
use Rattle.node_rows.specs.Examples.{forest}
use Rattle.node_store.specs.declared.fault.TreeFault.TheVariants.{NoSuchNode, WrongKind, IsRoot, SameNode, Cycle}
use Rattle.node_store.specs.declared.item.Edit.TheVariants.{SetRaw, New, Insert, Remove}
use Rattle.edit_calls.specs.Plans.{setting, shaping, appending, prepending, inserting_before, inserting_after, replacing, removing, cloning}

-- A node moves out of its old place first.
abbrev pub Moved : Type 0
Moved = (appending forest 1 3 ≡ Ok (Remove 3 ∷ Insert 3 1 1 ∷ []))
    × (appending forest 0 1 ≡ Ok (Remove 1 ∷ Insert 1 0 1 ∷ []))
    × (prepending forest 0 2 ≡ Ok (Remove 2 ∷ Insert 2 0 0 ∷ []))
    × (inserting_before forest 1 3 ≡ Ok (Remove 3 ∷ Insert 3 0 0 ∷ []))
    × (inserting_after forest 1 2 ≡ Ok (Remove 2 ∷ Insert 2 0 1 ∷ []))

-- The replaced node stands at the place 0 once 1 is out.
abbrev pub Replaced : Type 0
Replaced = replacing forest 3 1 ≡ Ok (Remove 1 ∷ Insert 1 0 0 ∷ Remove 3 ∷ [])

abbrev pub Refused : Type 0
Refused = (appending forest 9 1 ≡ Err NoSuchNode) × (appending forest 0 0 ≡ Err IsRoot) × (appending forest 1 1 ≡ Err SameNode) × (appending forest 2 1 ≡ Err Cycle)
    × (inserting_before forest 0 1 ≡ Err IsRoot) × (replacing forest 2 1 ≡ Err Cycle) × (removing forest 0 ≡ Err IsRoot) × (removing forest 2 ≡ Ok (Remove 2 ∷ []))

-- A text that is there already makes no edit.
abbrev pub SetTexts : Type 0
SetTexts = (setting forest 1 F.Prop (codes "a") ≡ Err WrongKind) × (shaping forest 1 R.Between (codes " ") ≡ Ok (SetRaw R.Between 1 (codes " ") ∷ [])) × (shaping forest 1 R.Between [] ≡ Ok [])

abbrev pub Cloned : Type 0
Cloned = (cloning forest 1 ≡ Ok (New 4 (text_of forest 1) (span_of forest 1) ∷ New 5 (text_of forest 2) (span_of forest 2) ∷ Insert 5 4 0 ∷ [])) × (cloning forest 0 ≡ Err IsRoot)
