-- From which node on an `@import` at the root is late.
use Rattle.std.specs.Prelude.{◌≡◌, ℕ, ◌≤◌, List, Bool, ◌&&◌, not, nat_lt, length, Some}
use Rattle.std.specs.List.{list_any, range_with_len}
use Rattle.node_rows.specs.Nodes.{Node, text_of, parent_of}
use Rattle.rule_sites.specs.Laws.{stands_in}
use Rattle.rules_tree.specs.NoInvalidPositionAtImportRule.{may_precede}

-- a child of the root that no `@import` may follow
abbrev pub is_barrier : List Node → ℕ → Bool
is_barrier ns m = stands_in ns (Some 0) m && not (may_precede (text_of ns m))

-- such a node stands before exactly those of greater numbers
abbrev pub IsFirstBarrier : List Node → ℕ → Type 0
IsFirstBarrier ns first = (n : ℕ) → n ≤ length ns → list_any (is_barrier ns) (range_with_len 0 n) ≡ nat_lt first n
