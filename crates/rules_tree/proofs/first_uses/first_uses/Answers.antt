use Rattle.std.proofs.Common.{subst, arith}
use Rattle.rules_tree.specs.FirstUses.{AreFirstUses}
use Rattle.rules_tree.proofs.first_uses.first_uses.Goals as goal

pub returns : goal.returns
returns c = subst (AreFirstUses c.args.work.now.nodes c.loop-n.uses) (omega (arith, c.node_total-n-end.ensures, c.loop-n-test.false, c.loop-n.auto.n-end)) c.loop-n.invariant
