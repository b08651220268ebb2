-- The trees of a forest: of their numbers, and without them.
use Rattle.std.specs.Prelude.{ℕ, zero, suc, List, [], ◌∷◌, ◌++◌, length}
use Rattle.css_tree.specs.Tree.{Trees, none, node, Tree}
use Rattle.node_rows.specs.Nodes.{Node, text_of, span_of, children_of}

-- trees of numbers beside one another: the first one's number, the trees below it, and the trees behind it
pub data NumberTrees : Type 0 where
  no_trees : NumberTrees
  tree : ℕ → (children rest : NumberTrees) → NumberTrees

-- the tree of each number, where `below` gives what stands below it
abbrev pub trees_by : (ℕ → NumberTrees) → List ℕ → NumberTrees
trees_by below [] = no_trees
trees_by below (m ∷ ms) = tree m (below m) (trees_by below ms)

-- the trees of the numbers, at most k levels of them
unfoldable pub levels : List Node → ℕ → List ℕ → NumberTrees
levels ns zero ms = no_trees
levels ns (suc k) ms = trees_by (λ m. levels ns k (children_of ns m)) ms

-- The trees of the numbers. No tree has more levels than there are nodes.
unfoldable pub number_trees : List Node → List ℕ → NumberTrees
number_trees ns ms = levels ns (length ns) ms

-- the numbers in document order
abbrev pub numbers : NumberTrees → List ℕ
numbers no_trees = []
numbers (tree m children rest) = m ∷ (numbers children ++ numbers rest)

-- the same trees with each node's text and span
abbrev pub plain : List Node → NumberTrees → Trees
plain ns no_trees = none
plain ns (tree m children rest) = node (text_of ns m) (span_of ns m) (plain ns children) (plain ns rest)

-- the trees below n
abbrev pub below : List Node → ℕ → NumberTrees
below ns n = number_trees ns (children_of ns n)

-- the plain tree of node n
abbrev pub tree_at : List Node → ℕ → Tree
tree_at ns n = record { text = text_of ns n; span = span_of ns n; children = plain ns (below ns n) }

-- the numbers of the nodes below n, in document order
abbrev pub numbers_below : List Node → ℕ → List ℕ
numbers_below ns n = numbers (below ns n)
