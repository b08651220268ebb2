-- The copy of a tree, as the edits that make it.
use Rattle.std.specs.Prelude.{◌≡◌, ◌≢◌, ℕ, suc, ◌+◌, ◌<◌, ◌≤◌, List, [], ◌∷◌, ◌++◌, true, length}
use Rattle.node_rows.specs.Nodes.{Node, text_of, span_of}
use Rattle.node_rows.specs.NumberTrees.{NumberTrees, no_trees, tree, numbers, below, numbers_below}
use Rattle.node_store.specs.declared.item.Edit.{Edit}
use Rattle.node_store.specs.declared.item.Edit.TheVariants.{New, Insert}
use Rattle.node_store.specs.Forest.{Forest, IsForest}
use Rattle.node_store.specs.Edits.{all_can}

-- The edits that copy trees below the node p, the first of them at the place `at`, where `next` is the next number: in
-- document order, each new node is followed by its insertion.
abbrev pub copied_trees : List Node → NumberTrees → ℕ → ℕ → ℕ → List Edit
copied_trees ns no_trees p at next = []
copied_trees ns (tree m children rest) p at next =
    New next (text_of ns m) (span_of ns m) ∷ Insert next p at ∷ (copied_trees ns children next 0 (suc next) ++ copied_trees ns rest p (suc at) (suc next + length (numbers children)))

-- the edits that make a loose copy of the tree of n
abbrev pub copied : List Node → ℕ → List Edit
copied ns n = New (length ns) (text_of ns n) (span_of ns n) ∷ copied_trees ns (below ns n) (length ns) 0 (suc (length ns))

-- how many nodes the tree of n has
abbrev pub tree_size : List Node → ℕ → ℕ
tree_size ns n = suc (length (numbers_below ns n))

-- Each edit of a copy may be made at its turn, where the node isn't the root and the nodes stay few.
abbrev pub CopiesCan : Type 0
CopiesCan = (f : Forest) → IsForest f → (n : ℕ) → n < length f.nodes → n ≢ 0 → length f.nodes + tree_size f.nodes n ≤ 5000000 → all_can f.nodes (copied f.nodes n) ≡ true
