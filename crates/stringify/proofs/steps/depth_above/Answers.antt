use Rattle.std.proofs.Common.{arith}
use Rattle.stringify.proofs.Turns.{depth-small, depth-rise}
use Rattle.stringify.proofs.steps.depth_above.Goals as goal

pub overflow_sub-result : goal.overflow_sub-result
overflow_sub-result c =
    let k = depth-rise c.args.work.now c.facts.ensures c.args.n c.args.parent c.requires.child (omega (arith, c.if-number-eq0.false, c.number.ensures)) in
    omega (arith, c.requires.depth)

pub returns-else-number-eq0-clause-value : goal.returns-else-number-eq0-clause-value
returns-else-number-eq0-clause-value c =
    let k = depth-rise c.args.work.now c.facts.ensures c.args.n c.args.parent c.requires.child (omega (arith, c.if-number-eq0.false, c.number.ensures)) in
    omega (arith, c.requires.depth)

pub returns-else-number-eq0-clause-few : goal.returns-else-number-eq0-clause-few
returns-else-number-eq0-clause-few c = omega (arith, c.requires.depth, depth-small c.args.work.now c.facts.ensures c.args.n)
