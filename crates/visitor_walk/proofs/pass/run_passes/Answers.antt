use Rattle.std.proofs.Common.{◌∙◌, sym, reverse, arith}
use Rattle.visitor_walk.proofs.Passing as Passing
use Rattle.visitor_walk.proofs.Turning as Turning
use Rattle.visitor_walk.proofs.pass.run_passes.Goals as goal

pub pass-init : goal.pass-init
pass-init c = record { grows = omega arith; walked = λ hs most s gr p w q. Passing.at_first hs most _ _ s p w }

pub returns-in_err-due-clause-walked : goal.returns-in_err-due-clause-walked
returns-in_err-due-clause-walked c = λ hs most s gr p w q.
    let t = c.pass.invariant.walked hs most s gr p w q in
    (Passing.strolled_on hs most c.args.work.now c.pass.work c.advance.new.work (reverse c.args.stack.now.items) (reverse c.pass.stack.items) (reverse c.advance.new.stack.items) s t (c.in_err-due.ensures.walked hs most t.0.state gr t.1.1.1 t.1.0 (t.0.edits ∙ q)).0, Turning.no_ok _ _ c.from_residual.ensures.0)

pub returns-in-Some-clause-walked : goal.returns-in-Some-clause-walked
returns-in-Some-clause-walked c = λ hs most s gr p w q.
    let t = c.pass.invariant.walked hs most s gr p w q in
    let v = rw c.in-Some.is at (c.in_ok-due.ensures.walked hs most t.0.state gr t.1.1.1 t.1.0 (t.0.edits ∙ q)) in
    Passing.advanced_due hs most c.args.work.now c.pass.work c.advance.new.work (reverse c.args.stack.now.items) (reverse c.pass.stack.items) (reverse c.advance.new.stack.items) s t c.in-Some.due v

pub returns-then-not-is_root_dirty-clause-walked : goal.returns-then-not-is_root_dirty-clause-walked
returns-then-not-is_root_dirty-clause-walked c = λ hs most s gr p w q.
    let t = c.pass.invariant.walked hs most s gr p w q in
    let v = rw c.in_default.is at (c.in_ok-due.ensures.walked hs most t.0.state gr t.1.1.1 t.1.0 (t.0.edits ∙ q)) in
    let u = Passing.advanced_none hs most c.args.work.now c.pass.work c.advance.new.work (reverse c.args.stack.now.items) (reverse c.pass.stack.items) (reverse c.advance.new.stack.items) s t v in
    let e = v.1.1.1.1 in
    Passing.over hs most c.args.work.now c.advance.new.work (reverse c.args.stack.now.items) (reverse c.advance.new.stack.items) s e (sym c.is_root_dirty.ensures ∙ c.if-not-is_root_dirty.true) u

pub pass-preserved : goal.pass-preserved
pass-preserved c = record {
  grows = let a = c.advance.ensures.grows in let b = c.begin_pass.ensures.grows in let d = c.pass.invariant.grows in omega arith;
  walked = λ hs most s gr p w q.
      let t = c.pass.invariant.walked hs most s gr p w q in
      let v = rw c.in_default.is at (c.in_ok-due.ensures.walked hs most t.0.state gr t.1.1.1 t.1.0 (t.0.edits ∙ q)) in
      let u = Passing.advanced_none hs most c.args.work.now c.pass.work c.advance.new.work (reverse c.args.stack.now.items) (reverse c.pass.stack.items) (reverse c.advance.new.stack.items) s t v in
      let e = v.1.1.1.1 in
      Passing.begun hs most c.args.work.now c.advance.new.work c.begin_pass.new.work (reverse c.args.stack.now.items) (reverse c.advance.new.stack.items) (reverse c.begin_pass.new.stack.items) s e u (c.in_ok-begin_pass.ensures.walked hs most u.0.state u.1.1.1 (Passing.shows_none c.advance.new.work (reverse c.advance.new.stack.items) u.0.state e u.1.0) (sym c.is_root_dirty.ensures ∙ c.if-not-is_root_dirty.false) (Passing.reverse_nil c.advance.new.stack.items e) (u.0.edits ∙ q));
}

pub returns-in_err-begin_pass-clause-walked : goal.returns-in_err-begin_pass-clause-walked
returns-in_err-begin_pass-clause-walked c = λ hs most s gr p w q.
    let t = c.pass.invariant.walked hs most s gr p w q in
    let v = rw c.in_default.is at (c.in_ok-due.ensures.walked hs most t.0.state gr t.1.1.1 t.1.0 (t.0.edits ∙ q)) in
    let u = Passing.advanced_none hs most c.args.work.now c.pass.work c.advance.new.work (reverse c.args.stack.now.items) (reverse c.pass.stack.items) (reverse c.advance.new.stack.items) s t v in
    let e = v.1.1.1.1 in
    (Passing.begin_fails hs most c.args.work.now c.advance.new.work c.begin_pass.new.work (reverse c.args.stack.now.items) (reverse c.advance.new.stack.items) s u (c.in_err-begin_pass.ensures.walked hs most u.0.state u.1.1.1 (Passing.shows_none c.advance.new.work (reverse c.advance.new.stack.items) u.0.state e u.1.0) (sym c.is_root_dirty.ensures ∙ c.if-not-is_root_dirty.false) (Passing.reverse_nil c.advance.new.stack.items e) (u.0.edits ∙ q)).0, Turning.no_ok _ _ c.from_residual-in_err-begin_pass.ensures.0)

pub returns-in-Some-clause-calls : goal.returns-in-Some-clause-calls
returns-in-Some-clause-calls c = λ shelf all. rw c.in-Some.is at (c.in_ok-due.ensures.calls shelf all)
