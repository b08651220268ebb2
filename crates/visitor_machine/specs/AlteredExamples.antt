-- Which nodes small logs touch.
use Rattle.std.specs.Prelude.{◌≡◌, [], ◌∷◌, true, false, codes}
use Rattle.css_tree.specs.declared.node.Field.TheVariants as F
use Rattle.css_tree.specs.declared.node.Raw.TheVariants as R
use Rattle.node_store.specs.declared.item.Edit.TheVariants.{Set, SetRaw, Insert, Remove}
use Rattle.node_store.specs.declared.item.Item.TheVariants as I
use Rattle.visitor_machine.specs.Altered.{is_untouched}
use Rattle.visitor_machine.specs.Examples.{nested, beside, declared}

-- A node is touched where a field or a raw of it, or of a node below it, is set.
abbrev pub SetTouches : Type 0
SetTouches = (is_untouched beside 1 (I.Edit (Set F.Selector 1 (codes "x")) ∷ []) ≡ false)
    × (is_untouched beside 2 (I.Edit (Set F.Selector 1 (codes "x")) ∷ []) ≡ true)
    × (is_untouched declared 1 (I.Edit (SetRaw R.Between 2 (codes ": ")) ∷ []) ≡ false)

-- A node that is moved isn't touched, but the containers are that it leaves and comes to.
abbrev pub MoveTouches : Type 0
MoveTouches = (is_untouched nested 2 (I.Edit (Remove 2) ∷ I.Edit (Insert 2 0 0) ∷ []) ≡ true)
    × (is_untouched nested 1 (I.Edit (Remove 2) ∷ []) ≡ false)
    × (is_untouched beside 1 (I.Edit (Remove 2) ∷ I.Edit (Insert 2 1 0) ∷ []) ≡ false)

-- An edit of a node that stands below counts, and none of one that stands or stood above.
abbrev pub BelowTouches : Type 0
BelowTouches = (is_untouched nested 0 (I.Edit (Set F.Selector 2 (codes "x")) ∷ []) ≡ false)
    × (is_untouched nested 2 (I.Edit (Set F.Selector 1 (codes "x")) ∷ I.Edit (Remove 1) ∷ I.Edit (Set F.Selector 1 (codes "y")) ∷ I.Enter 2 ∷ []) ≡ true)
