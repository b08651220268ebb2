use Rattle.std.proofs.Common.{◌∙◌, ◌∷◌, ap, sym, [], reverse, append-nil, arith}
use Rattle.visitor_walk.proofs.Passing as Passing
use Rattle.visitor_walk.proofs.Turning as Turning
use Rattle.visitor_walk.proofs.pass.advance.Goals as goal

pub loop-top-init : goal.loop-top-init
loop-top-init c = record {
  walked = λ hs most s gr p w q. Passing.at_first hs most _ _ s p w;
  grows = omega arith;
  less = omega arith;
}

pub returns-in_err-due-clause-walked : goal.returns-in_err-due-clause-walked
returns-in_err-due-clause-walked c = λ hs most s gr p w q.
    let t = Passing.renamed hs most c.args.work.now c.loop-top.work (reverse c.args.stack.now.items) (reverse c.loop-top.stack.items) (c.in-Some.top ∷ reverse c.pop.new.self.items) s (sym (Turning.pushed_back c.pop.new.self.items c.loop-top.stack.items c.in-Some.top c.in-Some.ensures.items)) (c.loop-top.invariant.walked hs most s gr p w q) in
    (Passing.strolled_on hs most c.args.work.now c.loop-top.work c.take_turn.new.work (reverse c.args.stack.now.items) (c.in-Some.top ∷ reverse c.pop.new.self.items) [] s t (c.in_err-due.ensures.walked hs most t.0.state gr t.1.1.1 t.1.0 (t.0.edits ∙ q)).0, Turning.no_ok _ _ c.from_residual.ensures.0)

pub returns-in-Some-2-clause-walked : goal.returns-in-Some-2-clause-walked
returns-in-Some-2-clause-walked c = λ hs most s gr p w q.
    let t = Passing.renamed hs most c.args.work.now c.loop-top.work (reverse c.args.stack.now.items) (reverse c.loop-top.stack.items) (c.in-Some.top ∷ reverse c.pop.new.self.items) s (sym (Turning.pushed_back c.pop.new.self.items c.loop-top.stack.items c.in-Some.top c.in-Some.ensures.items)) (c.loop-top.invariant.walked hs most s gr p w q) in
    let v = rw c.in-Some-2.is at (c.in_ok-due.ensures.walked hs most t.0.state gr t.1.1.1 t.1.0 (t.0.edits ∙ q)) in
    Passing.turned_due hs most c.args.work.now c.loop-top.work c.take_turn.new.work (reverse c.args.stack.now.items) (c.in-Some.top ∷ reverse c.pop.new.self.items) (reverse c.take_turn.new.stack.items) s t c.in-Some-2.due v

pub loop-top-preserved : goal.loop-top-preserved
loop-top-preserved c = let l = rw c.in_default-2.is at c.in_ok-due.ensures.less in
    record {
      walked = λ hs most s gr p w q.
          let t = Passing.renamed hs most c.args.work.now c.loop-top.work (reverse c.args.stack.now.items) (reverse c.loop-top.stack.items) (c.in-Some.top ∷ reverse c.pop.new.self.items) s (sym (Turning.pushed_back c.pop.new.self.items c.loop-top.stack.items c.in-Some.top c.in-Some.ensures.items)) (c.loop-top.invariant.walked hs most s gr p w q) in
          let v = rw c.in_default-2.is at (c.in_ok-due.ensures.walked hs most t.0.state gr t.1.1.1 t.1.0 (t.0.edits ∙ q)) in
          Passing.turned_on hs most c.args.work.now c.loop-top.work c.take_turn.new.work (reverse c.args.stack.now.items) (c.in-Some.top ∷ reverse c.pop.new.self.items) (reverse c.take_turn.new.stack.items) s t v;
      grows = let q = c.take_turn.ensures.grows in let j = c.loop-top.invariant.grows in omega arith;
      less = let i = l.1 in let j = c.loop-top.invariant.less in omega arith;
    }

pub returns-clause-walked : goal.returns-clause-walked
returns-clause-walked c = λ hs most s gr p w q.
    let t = Passing.renamed hs most c.args.work.now c.loop-top.work (reverse c.args.stack.now.items) (reverse c.loop-top.stack.items) (reverse c.pop.new.self.items) s (sym (ap reverse (c.in_default.ensures.items ∙ append-nil c.pop.new.self.items))) (c.loop-top.invariant.walked hs most s gr p w q) in
    Passing.all_left hs most c.args.work.now c.loop-top.work (reverse c.args.stack.now.items) (reverse c.pop.new.self.items) s (ap reverse (Passing.empty_from c.pop.new.self.items (let i = c.in_default.ensures.cases.1 in let j = c.pop.new.self.ok.0 in omega arith))) t

pub returns-in-Some-2-clause-calls : goal.returns-in-Some-2-clause-calls
returns-in-Some-2-clause-calls c = λ shelf all. rw c.in-Some-2.is at (c.in_ok-due.ensures.calls shelf all)
