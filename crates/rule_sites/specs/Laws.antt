-- What the definitions say together of a sheet that was just read.
use Rattle.std.specs.Prelude.{◌≡◌, ℕ, ◌<◌, List, Bool, false, length, map, filter, Option, Some, None}
use Rattle.std.specs.List.{range_with_len}
use Rattle.node_rows.specs.Nodes.{Node, text_of, span_of, parent_of}
use Rattle.node_rows.specs.Sound.{is_number}
use Rattle.node_store.specs.Forest.{Forest, IsForest, tree_of}
use Rattle.node_store.specs.Fresh.{IsFresh}
use Rattle.rule_sites.specs.Context.{contexts}
use Rattle.rule_sites.specs.ContextAt.{context_at, earlier_of}
use Rattle.rule_sites.specs.Stands.{Stands}

-- the nodes in the order of their numbers, with what stands around each, are those of the tree in document order
abbrev pub NodesInOrder : Type 0
NodesInOrder = (f : Forest) → IsForest f → IsFresh f → map (context_at f.nodes) (range_with_len 0 (length f.nodes)) ≡ contexts (tree_of f)

-- m stands in p, if p is a number
abbrev pub stands_in : List Node → Option ℕ → ℕ → Bool
stands_in ns None m = false
stands_in ns (Some p) m = is_number (parent_of ns m) p

-- the siblings before a node are the nodes of smaller numbers with its parent, in the order of their numbers
abbrev pub EarlierAreSmaller : Type 0
EarlierAreSmaller = (f : Forest) → IsForest f → IsFresh f → (n : ℕ) → n < length f.nodes → earlier_of f.nodes n ≡ filter (stands_in f.nodes (parent_of f.nodes n)) (range_with_len 0 n)

-- the number of a parent is smaller
abbrev pub ParentsAreSmaller : Type 0
ParentsAreSmaller = (f : Forest) → IsFresh f → (n p : ℕ) → parent_of f.nodes n ≡ Some p → p < n

-- each body stands where its span starts
abbrev pub EachStands : Type 0
EachStands = (f : Forest) → IsForest f → IsFresh f → (n : ℕ) → n < length f.nodes → Stands f.text (text_of f.nodes n) (span_of f.nodes n)
