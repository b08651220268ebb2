use Rattle.rules_tree.specs.FirstUses.{AreFirstUses}
use Rattle.rules_tree.proofs.first_uses.first_uses.Given as goal

abbrev pub invariant-loop-n : goal.invariant-loop-n
invariant-loop-n l = AreFirstUses l.work.nodes l.uses l.n
