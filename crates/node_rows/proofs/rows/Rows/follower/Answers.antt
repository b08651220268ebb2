use Rattle.std.proofs.Common.{length, ap, sym, ◌∙◌, arith}
use Rattle.node_rows.proofs.Climb.{path-step}
use Rattle.node_rows.proofs.Behind.{held-above}
use Rattle.node_rows.proofs.Turns.{behind-child, behind-none, beyond-sibling, beyond-climb, beyond-top}
use Rattle.node_rows.proofs.rows.Rows.follower.Goals as goal

pub returns-in-Some : goal.returns-in-Some
returns-in-Some c = behind-child c.args.self.now c.facts.ensures c.args.top c.args.m c.in-Some.first (sym c.first_child.ensures ∙ c.in-Some.is) c.requires.held

pub loop-at-init : goal.loop-at-init
loop-at-init c = record {
  given = c.requires.given;
  held = c.requires.held;
  rest = behind-none c.args.self.now c.facts.ensures c.args.top c.args.m (sym c.first_child.ensures ∙ c.in_default.is);
}

pub returns-in-Some-next_sibling : goal.returns-in-Some-next_sibling
returns-in-Some-next_sibling c =
    rw c.loop-at.invariant.rest (beyond-sibling c.args.self.now c.facts.ensures c.args.top c.loop-at.at c.in-Some-parent.parent c.in-Some-next_sibling.next (sym c.parent.ensures ∙ c.in-Some-parent.is) c.loop-at-test.true c.loop-at.invariant.held (sym c.next_sibling.ensures ∙ c.in-Some-next_sibling.is))

pub loop-at-smaller : goal.loop-at-smaller
loop-at-smaller c =
    let h = path-step c.args.self.now c.facts.ensures c.loop-at.at c.in-Some-parent.parent c.loop-at.invariant.given (sym c.parent.ensures ∙ c.in-Some-parent.is) in
    omega (arith, ap length h)

pub loop-at-preserved : goal.loop-at-preserved
loop-at-preserved c =
    let e = sym c.parent.ensures ∙ c.in-Some-parent.is in
    record {
      given = c.facts.ensures.below c.loop-at.at c.in-Some-parent.parent e;
      held = held-above c.args.self.now c.facts.ensures c.args.top c.loop-at.at c.in-Some-parent.parent e c.loop-at-test.true c.loop-at.invariant.held;
      rest = c.loop-at.invariant.rest ∙ beyond-climb c.args.self.now c.facts.ensures c.args.top c.loop-at.at c.in-Some-parent.parent e c.loop-at-test.true (sym c.next_sibling.ensures ∙ c.in-None-next_sibling.is);
    }

pub returns : goal.returns
returns c = c.loop-at.invariant.rest ∙ rw c.loop-at-test.false (beyond-top c.args.self.now c.facts.ensures c.args.top c.requires.root)
