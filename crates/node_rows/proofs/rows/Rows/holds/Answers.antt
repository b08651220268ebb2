use Rattle.std.proofs.Common.{length, ap, sym, ◌∙◌, arith}
use Rattle.node_rows.proofs.Climb.{path-step}
use Rattle.node_rows.proofs.Holds.{holds_on}
use Rattle.node_rows.proofs.rows.Rows.holds.Goals as goal

pub loop-at-smaller : goal.loop-at-smaller
loop-at-smaller c =
    let h = path-step c.args.self.now c.facts.ensures c.loop-at.at c.in-Some.p c.loop-at.invariant.0 (sym c.parent.ensures ∙ c.in-Some.is) in
    omega (arith, ap length h)

pub loop-at-preserved : goal.loop-at-preserved
loop-at-preserved c =
    let e = sym c.parent.ensures ∙ c.in-Some.is in
    (c.facts.ensures.below c.loop-at.at c.in-Some.p e, sym (holds_on c.args.self.now c.args.top c.loop-at.at c.in-Some.p c.facts.ensures c.loop-at.invariant.0 c.loop-at-test.true e) ∙ c.loop-at.invariant.1)
