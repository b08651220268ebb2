use Rattle.std.proofs.Common.{◌∙◌, Ok, Err, ap, sym, subst, arith}
use Rattle.node_rows.specs.Sound.{IsSound}
use Rattle.visitor_walk.specs.Turns.{dirty_total}
use Rattle.visitor_walk.proofs.Leaving as Leaving
use Rattle.visitor_walk.proofs.leaves.pass_leaves.Goals as goal

pub loop-child-init : goal.loop-child-init
loop-child-init c = record {
  walked = λ hs most k os s gr a. (k, Leaving.came_first hs most _ _ k os s a);
  less = omega arith;
  texts = Leaving.kept_first _;
}

pub returns-then-not-is_bare-clause-walked : goal.returns-then-not-is_bare-clause-walked
returns-then-not-is_bare-clause-walked c = λ hs most k os s gr a. let w = c.loop-child.invariant.walked hs most k os s gr a in record { at = c.loop-child.work; j = w.0; comes = w.1; next = c.in-Some.ensures }

pub returns-then-not-is_bare-clause-less : goal.returns-then-not-is_bare-clause-less
returns-then-not-is_bare-clause-less c = let e = ap dirty_total c.in-Some.ensures.same.nodes in let i = c.loop-child.invariant.less in omega arith

pub returns-then-not-is_bare-clause-texts : goal.returns-then-not-is_bare-clause-texts
returns-then-not-is_bare-clause-texts c = Leaving.kept_same c.loop-child.invariant.texts c.in-Some.ensures.same

pub loop-child-smaller : goal.loop-child-smaller
loop-child-smaller c = let e = Leaving.less_leaf c.loop-child.work c.next_dirty.new.work c.pass_leaf.new.work c.args.visit.now.children c.in-Some.child c.in-Some.ensures c.in_ok-pass_leaf.ensures in omega arith

pub loop-child-preserved : goal.loop-child-preserved
loop-child-preserved c = record {
  walked = λ hs most k os s gr a.
      let w = c.loop-child.invariant.walked hs most k os s gr a in
      let next = c.in-Some.ensures in
      (c.args.visit.now.enter, Leaving.came_on w.1 (Leaving.left hs most c.args.hooks.now gr c.loop-child.work c.next_dirty.new.work c.pass_leaf.new.work c.args.visit.now w.0 os w.1.strolls.state c.in-Some.child w.1.here next (subst IsSound next.same.nodes c.facts.ensures.sound) (Leaving.bare_from c.next_dirty.new.work.nodes c.args.hooks.now c.in-Some.child (sym c.is_bare.ensures ∙ c.if-not-is_bare.false)) c.in_ok-pass_leaf.ensures));
  less = let e = Leaving.less_leaf c.loop-child.work c.next_dirty.new.work c.pass_leaf.new.work c.args.visit.now.children c.in-Some.child c.in-Some.ensures c.in_ok-pass_leaf.ensures in let i = c.loop-child.invariant.less in omega arith;
  texts = Leaving.kept_leaf c.in-Some.child (Ok tt) (Leaving.kept_same c.loop-child.invariant.texts c.in-Some.ensures.same) c.in_ok-pass_leaf.ensures;
}

pub returns-in_err-pass_leaf-clause-walked : goal.returns-in_err-pass_leaf-clause-walked
returns-in_err-pass_leaf-clause-walked c = λ hs most k os s gr a.
    let w = c.loop-child.invariant.walked hs most k os s gr a in
    Leaving.front hs most _ _ k os s _ c.from_residual.result c.from_residual.ensures.0 (Leaving.strolled_on w.1 (Leaving.fails hs most c.args.hooks.now gr c.loop-child.work c.next_dirty.new.work c.pass_leaf.new.work c.args.visit.now w.0 os w.1.strolls.state c.in-Some.child w.1.here c.in-Some.ensures c.in_err-pass_leaf.field-0.0 c.in_err-pass_leaf.ensures))

pub returns-in_err-pass_leaf-clause-texts : goal.returns-in_err-pass_leaf-clause-texts
returns-in_err-pass_leaf-clause-texts c = Leaving.kept_leaf c.in-Some.child (Err c.in_err-pass_leaf.field-0.0) (Leaving.kept_same c.loop-child.invariant.texts c.in-Some.ensures.same) c.in_err-pass_leaf.ensures

pub returns-clause-walked : goal.returns-clause-walked
returns-clause-walked c = λ hs most k os s gr a. let w = c.loop-child.invariant.walked hs most k os s gr a in record { at = c.loop-child.work; j = w.0; comes = w.1; next = c.in_default.ensures }

pub returns-clause-less : goal.returns-clause-less
returns-clause-less c = let e = ap dirty_total c.in_default.ensures.same.nodes in let i = c.loop-child.invariant.less in omega arith

pub returns-clause-texts : goal.returns-clause-texts
returns-clause-texts c = Leaving.kept_same c.loop-child.invariant.texts c.in_default.ensures.same
