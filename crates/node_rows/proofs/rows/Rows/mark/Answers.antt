use Rattle.std.proofs.Common.{◌∙◌, sym, ap, true}
use Rattle.node_rows.specs.Nodes.{parent_of}
use Rattle.node_rows.specs.Marks.{marked_where, mark}
use Rattle.node_rows.proofs.SameLinks.{SameLinks-marked}
use Rattle.node_rows.proofs.Marked.{marks_on, left_falls}
use Rattle.node_rows.proofs.rows.Rows.mark.Goals as goal

pub loop-at-smaller : goal.loop-at-smaller
loop-at-smaller c =
    let ns = c.args.self.now in
    let h = rw c.in-Some.is at c.loop-at.invariant.rest in
    let more = SameLinks-marked ns c.loop-at.self c.in-Some.m true c.loop-at.invariant.same in
    rw c.in-Some.is (left_falls ns c.in-Some.m c.parent-at.result c.loop-at.invariant.sound h.0
    (sym (more.parents c.in-Some.m) ∙ (ap (λ k. parent_of k c.in-Some.m) (sym c.set_dirty.ensures) ∙ sym c.parent-at.ensures)))

pub loop-at-preserved : goal.loop-at-preserved
loop-at-preserved c =
    let ns = c.args.self.now in
    let h = rw c.in-Some.is at c.loop-at.invariant.rest in
    let more = SameLinks-marked ns c.loop-at.self c.in-Some.m true c.loop-at.invariant.same in
    record {
      sound = c.loop-at.invariant.sound;
      same = rw c.set_dirty.ensures more;
      rest = rw c.set_dirty.ensures (marks_on ns c.loop-at.self _ c.in-Some.m c.parent-at.result c.loop-at.invariant.sound h.0 h.1
          (sym (more.parents c.in-Some.m) ∙ (ap (λ k. parent_of k c.in-Some.m) (sym c.set_dirty.ensures) ∙ sym c.parent-at.ensures)));
    }

pub returns-then-is_dirty : goal.returns-then-is_dirty
unfolding mark
returns-then-is_dirty c = ap (marked_where c.args.self.now c.args.n) (sym c.if-is_dirty.true ∙ c.is_dirty.ensures)

pub returns : goal.returns
unfolding mark
returns c = (rw c.in_default.is at c.loop-at.invariant.rest) ∙ ap (marked_where c.args.self.now c.args.n) (sym c.if-is_dirty.false ∙ c.is_dirty.ensures)
