-- What each edit call does: the edits that it makes in turn, or why it is refused.
use Rattle.std.specs.Prelude.{ℕ, ◌+◌, Bool, true, false, not, ◌||◌, nat_eq, nat_lt, List, [], ◌∷◌, ◌++◌, Option, Some, None, is_some, Result, Ok, Err, if◌then◌else◌, length, codes}
use Rattle.css_tree.specs.declared.node.Field.{Field}
use Rattle.css_tree.specs.declared.node.Raw.{Raw}
use Rattle.css_tree.specs.declared.node.Block.{Block}
use Rattle.css_tree.specs.declared.node.NodeText.{NodeText}
use Rattle.css_tree.specs.declared.node.NodeText.TheVariants.{AtRule, Rule, Declaration, Comment}
use Rattle.css_tree.specs.Parts.{block_of}
use Rattle.css_tree.specs.Changes.{takes_field, takes_raw, written}
use Rattle.node_rows.specs.Nodes.{Node, text_of, parent_of, children_of, holds, place_of}
use Rattle.node_store.specs.declared.fault.TreeFault.{TreeFault}
use Rattle.node_store.specs.declared.fault.TreeFault.TheVariants.{NoSuchNode, WrongKind, IsRoot, SameNode, Loose, Cycle, Full}
use Rattle.node_store.specs.declared.item.Edit.{Edit}
use Rattle.node_store.specs.declared.item.Edit.TheVariants.{Set, SetRaw, New, Insert, Remove}
use Rattle.node_store.specs.Edits.{changes, apply_all, is_loose}
use Rattle.node_store.specs.Copies.{copied, tree_size}

-- The first refusal whose test holds; without one what is to be done, mostly edits.
abbrev pub plan : {X : Type 0} → List (Bool × TreeFault) → X → Result X TreeFault
plan [] todo = Ok todo
plan (r ∷ rs) todo = if r.0 then Err r.1 else plan rs todo

-- the number was never given out
abbrev pub is_unknown : List Node → ℕ → Bool
is_unknown ns n = not (nat_lt n (length ns))

abbrev pub is_top : List Node → ℕ → Bool
is_top ns n = is_loose (parent_of ns n)

-- an edit that may change nothing, and isn't made then
abbrev pub where_changing : List Node → Edit → List Edit
where_changing ns e = if changes ns e then e ∷ [] else []

abbrev pub refused_field : List Node → ℕ → Field → List (Bool × TreeFault)
refused_field ns n field = (is_unknown ns n, NoSuchNode) ∷ (not (takes_field field (text_of ns n)), WrongKind) ∷ []

-- another text of a field
abbrev pub setting : List Node → ℕ → Field → List ℕ → Result (List Edit) TreeFault
setting ns n field text = plan (refused_field ns n field) (where_changing ns (Set field n text))

-- ` !important`, or nothing
abbrev pub important_text : Bool → List ℕ
important_text on = if on then codes " !important" else []

abbrev pub refused_raw : List Node → ℕ → Raw → List (Bool × TreeFault)
refused_raw ns n raw = (is_unknown ns n, NoSuchNode) ∷ (not (takes_raw raw (text_of ns n)), WrongKind) ∷ []

-- another text of a raw
abbrev pub shaping : List Node → ℕ → Raw → List ℕ → Result (List Edit) TreeFault
shaping ns n raw text = plan (refused_raw ns n raw) (where_changing ns (SetRaw raw n text))

-- a node that has a parent is taken out of it
abbrev pub removal : List Node → ℕ → List Edit
removal ns n = if is_top ns n then [] else Remove n ∷ []

-- the nodes after that
abbrev pub without : List Node → ℕ → List Node
without ns n = apply_all ns (removal ns n)

-- n moves to a place of p
abbrev pub moving : List Node → ℕ → ℕ → ℕ → List Edit
moving ns n p at = removal ns n ++ Insert n p at ∷ []

-- a node can't be put into itself, nor into what it holds; the root can't be put anywhere
abbrev pub refused_in : List Node → ℕ → ℕ → List (Bool × TreeFault)
refused_in ns p n =
    (is_unknown ns p, NoSuchNode) ∷ (is_unknown ns n, NoSuchNode) ∷ (not (is_some (block_of (text_of ns p))), WrongKind)
    ∷ (nat_eq n 0, IsRoot) ∷ (nat_eq p n, SameNode) ∷ (holds ns n p, Cycle) ∷ []

abbrev pub appending : List Node → ℕ → ℕ → Result (List Edit) TreeFault
appending ns p n = plan (refused_in ns p n) (moving ns n p (length (children_of (without ns n) p)))

abbrev pub prepending : List Node → ℕ → ℕ → Result (List Edit) TreeFault
prepending ns p n = plan (refused_in ns p n) (moving ns n p 0)

-- the same of a place beside the node a, which needs a parent
abbrev pub refused_beside : List Node → ℕ → ℕ → List (Bool × TreeFault)
refused_beside ns a n =
    (is_unknown ns a, NoSuchNode) ∷ (is_unknown ns n, NoSuchNode) ∷ (nat_eq a 0 || nat_eq n 0, IsRoot)
    ∷ (nat_eq a n, SameNode) ∷ (is_top ns a, Loose) ∷ (holds ns n a, Cycle) ∷ []

abbrev pub beside : List Node → Option ℕ → ℕ → ℕ → ℕ → List Edit
beside ns None a n behind = []
beside ns (Some p) a n behind = moving ns n p (place_of (without ns n) p a + behind)

abbrev pub inserting_before : List Node → ℕ → ℕ → Result (List Edit) TreeFault
inserting_before ns a n = plan (refused_beside ns a n) (beside ns (parent_of ns a) a n 0)

abbrev pub inserting_after : List Node → ℕ → ℕ → Result (List Edit) TreeFault
inserting_after ns a n = plan (refused_beside ns a n) (beside ns (parent_of ns a) a n 1)

-- n is put before the node a, which is then taken out
abbrev pub replacing : List Node → ℕ → ℕ → Result (List Edit) TreeFault
replacing ns a n = plan (refused_beside ns a n) (beside ns (parent_of ns a) a n 0 ++ Remove a ∷ [])

abbrev pub refused_out : List Node → ℕ → List (Bool × TreeFault)
refused_out ns n = (is_unknown ns n, NoSuchNode) ∷ (nat_eq n 0, IsRoot) ∷ (is_top ns n, Loose) ∷ []

abbrev pub removing : List Node → ℕ → Result (List Edit) TreeFault
removing ns n = plan (refused_out ns n) (Remove n ∷ [])

-- more than 5,000,000 numbers would be given out
abbrev pub is_full : List Node → ℕ → Bool
is_full ns count = nat_lt 5000000 (length ns + count)

abbrev pub refused_root : List Node → ℕ → List (Bool × TreeFault)
refused_root ns n = (is_unknown ns n, NoSuchNode) ∷ (nat_eq n 0, IsRoot) ∷ []

abbrev pub cloning : List Node → ℕ → Result (List Edit) TreeFault
cloning ns n = plan (refused_root ns n ++ (is_full ns (tree_size ns n), Full) ∷ []) (copied ns n)

abbrev pub refused_new : List Node → List (Bool × TreeFault)
refused_new ns = (is_full ns 1, Full) ∷ []

abbrev pub making : List Node → NodeText → Result (List Edit) TreeFault
making ns text = plan (refused_new ns) (New (length ns) text None ∷ [])

-- a new container's end
abbrev pub new_block : Block
new_block = record { semicolon = true; after = None }

abbrev pub space_text : List ℕ
space_text = codes " "

abbrev pub new_declaration : List ℕ → List ℕ → NodeText
new_declaration prop text = Declaration None prop (codes ": ") (written text) false [] []

abbrev pub new_rule : List ℕ → NodeText
new_rule selector = Rule None (written selector) space_text new_block

-- one space before parameters, where there are any
abbrev pub space_before : List ℕ → List ℕ
space_before [] = []
space_before (c ∷ cs) = space_text

abbrev pub new_at_rule : List ℕ → List ℕ → Bool → NodeText
new_at_rule name params block = AtRule None name (space_before params) (written params) (if block then space_text else []) (if block then Some new_block else None)

abbrev pub new_comment : List ℕ → NodeText
new_comment text = Comment None space_text text space_text
