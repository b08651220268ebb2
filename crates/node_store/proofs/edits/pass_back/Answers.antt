use Rattle.std.proofs.Common.{arith}
use Rattle.std.proofs.lemmas.List.Edits.{map_over_more}
use Rattle.node_store.specs.Passing.{seat_without}
use Rattle.node_store.proofs.edits.pass_back.Goals as goal

pub loop-i-preserved : goal.loop-i-preserved
loop-i-preserved c = rw c.without.ensures
    (map_over_more (seat_without c.args.n c.args.before) c.args.seats.now.items c.loop-i.seats.items c.loop-i.i _ (omega (arith, c.loop-i-test.true, c.len-i-end.ensures, c.args.seats.now.ok.0)) c.loop-i.invariant c.index.ensures)
