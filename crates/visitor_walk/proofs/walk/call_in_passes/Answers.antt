use Rattle.std.proofs.Common.{ap, length, reverse, refl, arith, subst}
use Rattle.visitor_walk.specs.Known.{CallEdits}
use Rattle.visitor_walk.specs.Turns.{AllSure}
use Rattle.visitor_walk.proofs.Closing as Closing
use Rattle.visitor_walk.proofs.Keeping as Keeping
use Rattle.visitor_walk.proofs.Walking as Walking
use Rattle.visitor_walk.proofs.walk.call_in_passes.Goals as goal

pub call-init : goal.call-init
call-init g c = record {
  calls = c.requires.calls;
  edits = c.requires.edits;
  on_shelf = c.requires.on_shelf;
  made = λ hs begin old gr s p. (rw c.new-stack.ensures.items s, p);
}

pub returns-in_err-due-clause-made : goal.returns-in_err-due-clause-made
returns-in_err-due-clause-made g c = λ hs begin old gr s p.
    let t = c.call.invariant.made hs begin old gr s p in
    let w = (c.in_err-due.ensures.walked hs c.args.limits.edits t.0.ran.state gr t.1 t.0.shows t.0.edits).0 in
    Walking.passes_broken hs c.args.limits c.run_passes.new.work _ c.call.spent c.from_residual.result c.from_residual.ensures.0 (λ e. Walking.broken_on t.0 w c.args.limits e refl c.call.invariant.calls)

pub make_call-requires-clause-on_shelf : goal.make_call-requires-clause-on_shelf
make_call-requires-clause-on_shelf g c = rw c.in-Some.is at (c.in_ok-due.ensures.calls _ c.call.invariant.on_shelf)

pub make_call-requires-clause-edits : goal.make_call-requires-clause-edits
make_call-requires-clause-edits g c = let a = c.run_passes.ensures.grows in let b = c.call.invariant.edits in omega arith

pub returns-clause-edits : goal.returns-clause-edits
returns-clause-edits g c = let a = c.run_passes.ensures.grows in let b = c.call.invariant.edits in omega arith

pub returns-in_err-end-clause-made : goal.returns-in_err-end-clause-made
returns-in_err-end-clause-made g c = λ hs begin old gr s p.
    let t = c.call.invariant.made hs begin old gr s p in
    let v = rw c.in-Some.is at (c.in_ok-due.ensures.walked hs c.args.limits.edits t.0.ran.state gr t.1 t.0.shows t.0.edits) in
    Walking.passes_broken hs c.args.limits c.make_call.new.work _ c.make_call.new.spent c.from_residual-in_err-end.result c.from_residual-in_err-end.ensures.0 (λ e. c.in_err-end.ensures.made hs begin old (reverse c.run_passes.new.stack.items) (Walking.ready t.0 v.0 (reverse c.run_passes.new.stack.items) c.in-Some.due v.1.0 v.1.1.0))

pub returns-in-Some-2-clause-made : goal.returns-in-Some-2-clause-made
returns-in-Some-2-clause-made g c = λ hs begin old gr s p.
    let os = reverse c.run_passes.new.stack.items in
    let t = c.call.invariant.made hs begin old gr s p in
    let v = rw c.in-Some.is at (c.in_ok-due.ensures.walked hs c.args.limits.edits t.0.ran.state gr t.1 t.0.shows t.0.edits) in
    let r = Walking.ready t.0 v.0 os c.in-Some.due v.1.0 v.1.1.0 in
    Closing.finished hs c.args.limits begin c.make_call.new.work c.close_all.new.work old _ os c.in-Some-2.end (rw c.in-Some-2.is at (c.in_ok-end.ensures.made hs begin old os r)) r.free c.close_all.ensures.same c.close_all.ensures.count c.close_all.ensures.kept

pub returns-in-Some-2-clause-edits : goal.returns-in-Some-2-clause-edits
returns-in-Some-2-clause-edits g c = let a = c.in_ok-end.ensures.edits in let b = ap length c.close_all.ensures.same.log in omega arith

pub keep_known-requires : goal.keep_known-requires
keep_known-requires g c =
    let ce : CallEdits c.run_passes.new.work c.make_call.new.work = rw c.in_default-2.is at c.in_ok-end.ensures.edited in
    rw c.before_call-before.ensures (Keeping.longer ce)

pub call-preserved : goal.call-preserved
call-preserved g c = record {
  calls = c.in_ok-end.ensures.calls;
  edits = c.in_ok-end.ensures.edits;
  on_shelf = Walking.still_on_shelf _ _ c.args.hooks.now c.in_ok-end.ensures.on_shelf c.call.invariant.on_shelf;
  made = λ hs begin old gr s p.
      let f = c.run_passes.new.work in
      let os = reverse c.run_passes.new.stack.items in
      let t = c.call.invariant.made hs begin old gr s p in
      let v = rw c.in-Some.is at (c.in_ok-due.ensures.walked hs c.args.limits.edits t.0.ran.state gr t.1 t.0.shows t.0.edits) in
      let r = Walking.ready t.0 v.0 os c.in-Some.due v.1.0 v.1.1.0 in
      let m = rw c.in_default-2.is at (c.in_ok-end.ensures.made hs begin old os r) in
      let ce : CallEdits f c.make_call.new.work = rw c.in_default-2.is at c.in_ok-end.ensures.edited in
      let sure = subst (λ k. AllSure f.nodes k os) r.edits r.is.sure in
      Keeping.kept_on os (reverse c.keep_known.new.stack.items) c.before_call-before.result c.in-Some.due.moment.node c.call.spent.edits c.before_call-before.ensures c.keep_known.ensures c.facts.ensures.sound c.facts.ensures.some ce sure m.0 (Walking.same_pass hs _ _ m.1 v.1.1.1);
}

pub returns-clause-made : goal.returns-clause-made
returns-clause-made g c = λ hs begin old gr s p.
    let t = c.call.invariant.made hs begin old gr s p in
    Walking.passes_over hs c.args.limits (reverse c.run_passes.new.stack.items) t.0 (rw c.in_default.is at (c.in_ok-due.ensures.walked hs c.args.limits.edits t.0.ran.state gr t.1 t.0.shows t.0.edits))
