-- The node of a number with what stands around it.
use Rattle.std.specs.Prelude.{ℕ, List, [], map, take, drop, Option, Some, None}
use Rattle.node_rows.specs.Nodes.{Node, parent_of, children_of, place_of, path}
use Rattle.node_rows.specs.NumberTrees.{tree_at}
use Rattle.rule_sites.specs.Context.{Context}

abbrev pub earlier_in : List Node → ℕ → Option ℕ → List ℕ
earlier_in ns n None = []
earlier_in ns n (Some p) = take (place_of ns p n) (children_of ns p)

-- the siblings before n, the first of them first
abbrev pub earlier_of : List Node → ℕ → List ℕ
earlier_of ns n = earlier_in ns n (parent_of ns n)

-- the ancestors of n, its parent first
abbrev pub ancestors_of : List Node → ℕ → List ℕ
ancestors_of ns n = drop 1 (path ns n)

-- node n with what stands around it
unfoldable pub context_at : List Node → ℕ → Context
context_at ns n = record { node = tree_at ns n; earlier = map (tree_at ns) (earlier_of ns n); ancestors = map (tree_at ns) (ancestors_of ns n) }
