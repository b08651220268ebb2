use Rattle.std.proofs.Common.{◌≡◌, ◌+◌, ◌≤◌, ◌<◌, length, true, MatchOption}
use Rattle.node_rows.specs.Nodes.{holds}
use Rattle.node_rows.proofs.Turns.{to_go}
use Rattle.node_store.specs.Copies.{tree_size}
use Rattle.node_store.proofs.copying.has_room.Given as goal

abbrev pub invariant-loop-at : goal.invariant-loop-at
invariant-loop-at l = record {
  counted : l.total + to_go l.rows l.fn.top l.at ≡ length l.rows + tree_size l.rows l.fn.top;
  within : MatchOption l.at (l.total ≤ 5000000) (λ m. (m < length l.rows) × (holds l.rows l.fn.top m ≡ true));
}

abbrev pub decreases-loop-at : goal.decreases-loop-at
decreases-loop-at l = to_go l.rows l.fn.top l.at
