use Rattle.std.proofs.Common.{length, ap, arith}
use Rattle.node_rows.proofs.Behind.{held-self}
use Rattle.node_rows.proofs.Turns.{behind-self}
use Rattle.node_store.proofs.copying.has_room.Goals as goal

pub loop-at-init : goal.loop-at-init
loop-at-init c =
    let ns = c.args.rows.now in
    let e = ap length (behind-self ns c.facts.ensures c.args.top c.requires) in
    record {
      counted = omega (arith, e, c.len-total.ensures);
      within = (c.requires, held-self ns c.args.top c.requires);
    }
