use Rattle.std.proofs.Common.{◌≡◌, ◌++◌, take, drop, map}
use Rattle.node_store.specs.Passing.{seat_without}
use Rattle.node_store.proofs.edits.pass_back.Given as goal

abbrev pub invariant-loop-i : goal.invariant-loop-i
invariant-loop-i l = l.seats.items ≡ map (seat_without l.n l.before) (take l.i l.initial.seats.items) ++ drop l.i l.initial.seats.items
