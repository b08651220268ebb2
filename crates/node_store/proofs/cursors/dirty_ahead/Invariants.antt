use Rattle.std.proofs.Common.{◌≡◌, length, drop}
use Rattle.node_rows.specs.Nodes.{children_of, is_dirty, from_number, IsGiven}
use Rattle.node_store.specs.Cursors.{through, first_of}
use Rattle.node_store.specs.Seats.{passed_of}
use Rattle.node_store.proofs.cursors.dirty_ahead.Given as goal

abbrev pub invariant-loop-at : goal.invariant-loop-at
invariant-loop-at l = record {
  given : IsGiven l.rows l.at;
  rest : first_of (through (is_dirty l.rows) (from_number l.rows l.at)) ≡ first_of (through (is_dirty l.rows) (drop (passed_of l.rows l.fn.seat.container l.fn.seat.last) (children_of l.rows l.fn.seat.container)));
}

abbrev pub decreases-loop-at : goal.decreases-loop-at
decreases-loop-at l = length (from_number l.rows l.at)
