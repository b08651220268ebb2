use Rattle.std.proofs.Common.{refl, ◌+◌, drop, []}
use Rattle.std.proofs.lemmas.Option.{slice_get_read}
use Rattle.visitor_walk.specs.Groups.{shown_hook, shown_hooks}
use Rattle.visitor_walk.proofs.Rooting as Rooting
use Rattle.visitor_walk.proofs.walk.call_each.Goals as goal

pub returns-in_err-end-clause-made : goal.returns-in_err-end-clause-made
returns-in_err-end-clause-made g c = λ hs begin old closes s e.
    let h = c.index-hooks-at.result in
    let rest = shown_hooks (drop (c.loop-at.at + 1) c.args.hooks.now) in
    let t = c.loop-at.invariant.made hs begin old closes s e in
    let at = slice_get_read c.args.hooks.now _ c.loop-at.at h refl c.loop-at-test.true c.index-hooks-at.is in
    let l = Rooting.left_at hs closes t.0.ran.state c.args.hooks.now c.loop-at.at h at t.1 in
    Rooting.each_failed hs c.args.limits c.make_call.new.work _ c.make_call.new.spent closes c.from_residual.result c.from_residual.ensures.0 (λ err. c.in_err-end.ensures.made hs begin old [] (Rooting.each_ready t.0 closes h rest c.due_at-due.result c.new.result l c.due_at-due.ensures c.new.ensures))

pub returns-in-Some-clause-made : goal.returns-in-Some-clause-made
returns-in-Some-clause-made g c = λ hs begin old closes s e.
    let h = c.index-hooks-at.result in
    let rest = shown_hooks (drop (c.loop-at.at + 1) c.args.hooks.now) in
    let t = c.loop-at.invariant.made hs begin old closes s e in
    let at = slice_get_read c.args.hooks.now _ c.loop-at.at h refl c.loop-at-test.true c.index-hooks-at.is in
    let l = Rooting.left_at hs closes t.0.ran.state c.args.hooks.now c.loop-at.at h at t.1 in
    rw c.in-Some.is at (c.in_ok-end.ensures.made hs begin old [] (Rooting.each_ready t.0 closes h rest c.due_at-due.result c.new.result l c.due_at-due.ensures c.new.ensures))

pub loop-at-preserved : goal.loop-at-preserved
loop-at-preserved g c =
    let h = c.index-hooks-at.result in
    let rest = shown_hooks (drop (c.loop-at.at + 1) c.args.hooks.now) in
    let at = slice_get_read c.args.hooks.now _ c.loop-at.at h refl c.loop-at-test.true c.index-hooks-at.is in
    record {
      calls = c.in_ok-end.ensures.calls;
      edits = c.in_ok-end.ensures.edits;
      there = λ i x e. c.in_ok-end.ensures.on_shelf x.plugin x.hook (c.loop-at.invariant.there i x e);
      kept = λ i j k. c.in_ok-end.ensures.on_shelf i j (c.loop-at.invariant.kept i j k);
      made = λ hs begin old closes s e.
          let t = c.loop-at.invariant.made hs begin old closes s e in
          let l = Rooting.left_at hs closes t.0.ran.state c.args.hooks.now c.loop-at.at h at t.1 in
          let m = rw c.in_default.is at (c.in_ok-end.ensures.made hs begin old [] (Rooting.each_ready t.0 closes h rest c.due_at-due.result c.new.result l c.due_at-due.ensures c.new.ensures)) in
          (m.0, Rooting.left_next hs closes t.0.ran.state m.0.ran.state (shown_hook h) rest l m.1);
    }

pub returns-clause-made : goal.returns-clause-made
returns-clause-made g c = λ hs begin old closes s e.
    let t = c.loop-at.invariant.made hs begin old closes s e in
    (t.0, Rooting.left_none hs closes t.0.ran.state c.args.hooks.now c.loop-at.at c.loop-at-test.false t.1)
