use Rattle.std.proofs.Common.{◌≡◌, ℕ, ◌≤◌, length, take}
use Rattle.std.specs.List.{list_any, range_with_len}
use Rattle.std.specs.Str.{chars}
use Rattle.node_rows.specs.Nodes.{parent_of}
use Rattle.rules_tree.specs.FirstUses.{is_before, is_named, is_use}
use Rattle.rules_tree.proofs.declaration_block_no_shorthand_property_overrides.first_of.Given as goal

abbrev pub invariant-loop-name : goal.invariant-loop-name
invariant-loop-name l =
    (j : ℕ) → j ≤ length l.work.nodes → list_any (is_use l.work.nodes (parent_of l.work.nodes l.n) (λ prop. list_any (λ s. is_named (chars s.now) prop) (take l.name-index l.names))) (range_with_len 0 j) ≡ is_before j l.first
