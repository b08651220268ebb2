use Rattle.std.proofs.Common.{length, ap, sym, ◌∙◌, arith}
use Rattle.node_rows.proofs.Behind.{depth-step, depth-few}
use Rattle.node_rows.proofs.Climb.{path-step}
use Rattle.stringify.proofs.reads.depth_of.Goals as goal

pub overflow_add-depth : goal.overflow_add-depth
overflow_add-depth c =
    let ns = c.args.work.now.nodes in
    let s = c.facts.ensures.sound in
    let e = sym c.parent_of.ensures ∙ c.in-Some.is in
    omega (arith, c.loop-parent.invariant.count, c.levels_at-depth.ensures, depth-step ns s c.loop-parent.at c.in-Some.parent e, depth-few ns s c.args.n, s.few)

pub loop-parent-smaller : goal.loop-parent-smaller
loop-parent-smaller c =
    let ns = c.args.work.now.nodes in
    let e = sym c.parent_of.ensures ∙ c.in-Some.is in
    omega (arith, ap length (path-step ns c.facts.ensures.sound c.loop-parent.at c.in-Some.parent c.loop-parent.invariant.given e))

pub loop-parent-preserved : goal.loop-parent-preserved
loop-parent-preserved c =
    let ns = c.args.work.now.nodes in
    let s = c.facts.ensures.sound in
    let e = sym c.parent_of.ensures ∙ c.in-Some.is in
    record {
      given = s.below c.loop-parent.at c.in-Some.parent e;
      count = omega (arith, c.loop-parent.invariant.count, c.levels_at-depth.ensures, depth-step ns s c.loop-parent.at c.in-Some.parent e);
    }
