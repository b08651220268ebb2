use Rattle.std.proofs.Common.{◌≡◌, false}
use Rattle.std.specs.List.{list_any, range_with_len}
use Rattle.rules_tree.specs.Late.{is_barrier}
use Rattle.rules_tree.proofs.no_invalid_position_at_import_rule.first_barrier.Given as goal

abbrev pub invariant-loop-n : goal.invariant-loop-n
invariant-loop-n l = list_any (is_barrier l.work.nodes) (range_with_len 0 l.n) ≡ false
