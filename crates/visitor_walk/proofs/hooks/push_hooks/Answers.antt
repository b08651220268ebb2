use Rattle.std.proofs.Common.{◌≡◌, ◌∙◌, ap, sym, refl}
use Rattle.std.proofs.lemmas.Option.{slice_get_read}
use Rattle.visitor_walk.specs.Groups.{in_group}
use Rattle.visitor_walk.proofs.Grouping.{wanted_is, hook_taken, hook_left}
use Rattle.visitor_walk.proofs.hooks.push_hooks.Goals.{then-is_wanted+in_ok-copy_filter+in_ok-push, else-is_wanted}
use Rattle.visitor_walk.proofs.hooks.push_hooks.Goals as goal

pub loop-place-preserved : goal.loop-place-preserved
loop-place-preserved g c =
    let at = slice_get_read c.args.hooks.now _ c.loop-place.place c.index-hooks-place.result refl c.loop-place-test.true c.index-hooks-place.is in
    let is = wanted_is c.args.event c.args.filtered (record { plugin = c.args.plugin; hook = c.loop-place.place; event = c.index-hooks-place.result.event; filter = c.index-hooks-place.result.filter }) in
    elim c.if-is_wanted.branch [
      | then-is_wanted+in_ok-copy_filter+in_ok-push w ↦
          hook_taken (in_group c.args.event c.args.filtered) c.args.plugin c.args.hooks.now _ c.loop-place.group.items c.if-is_wanted.group.items c.loop-place.place c.index-hooks-place.result _ at
          (ap (λ f. record { plugin = c.args.plugin; hook = c.loop-place.place; event = c.index-hooks-place.result.event; filter = f }) w.in_ok-copy_filter.ensures)
          (is ∙ (sym c.is_wanted.ensures ∙ w.if-is_wanted.true))
          (ap (λ v. v.items) w.group-is ∙ w.in_ok-push.ensures.items)
          c.loop-place.invariant
      | else-is_wanted w ↦
          let e : c.if-is_wanted.group.items ≡ c.loop-place.group.items = ap (λ v. v.items) w.group-is in
          rw e (hook_left (in_group c.args.event c.args.filtered) c.args.plugin c.args.hooks.now _ c.loop-place.group.items c.loop-place.place c.index-hooks-place.result at (is ∙ (sym c.is_wanted.ensures ∙ w.if-is_wanted.false)) c.loop-place.invariant)
    ]
