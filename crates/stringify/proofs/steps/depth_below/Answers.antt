use Rattle.std.proofs.Common.{arith}
use Rattle.stringify.proofs.Turns.{depth-small}
use Rattle.stringify.proofs.steps.depth_below.Goals as goal

pub overflow_add-result : goal.overflow_add-result
overflow_add-result c = omega (arith, c.requires.depth, depth-small c.args.work.now c.facts.ensures c.args.n)

pub returns-else-number-eq0-clause-few : goal.returns-else-number-eq0-clause-few
returns-else-number-eq0-clause-few c = omega (arith, c.requires.depth, depth-small c.args.work.now c.facts.ensures c.args.n)
