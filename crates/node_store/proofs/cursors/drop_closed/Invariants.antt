use Rattle.std.proofs.Common.{◌≡◌, ℕ, ◌≤◌, length, None}
use Rattle.node_store.specs.Seats.{seat_in}
use Rattle.node_store.proofs.cursors.drop_closed.Given as goal

abbrev pub invariant-loop-kept : goal.invariant-loop-kept
invariant-loop-kept l = record {
  within : l.kept ≤ length l.seats.items;
  closed : (i : ℕ) → l.kept ≤ i → seat_in l.seats.items i ≡ None;
}

abbrev pub decreases-loop-kept : goal.decreases-loop-kept
decreases-loop-kept l = l.kept
