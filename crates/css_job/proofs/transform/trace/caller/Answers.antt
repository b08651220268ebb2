use Rattle.std.proofs.Common.{◌≡◌, ◌∙◌, sym, subst, IfOk}
use Rattle.std.proofs.lemmas.Str.{chars-nil}
use Rattle.css_job.specs.ShelfSeen.{shelf_names}
use Rattle.css_job.proofs.Calls.{caller_call, caller_other, caller_none}
use Rattle.css_job.proofs.transform.trace.caller.Goals as goal

pub loop-item-preserved : goal.loop-item-preserved
loop-item-preserved g c =
    sym (caller_other (shelf_names c.args.shelf.now.items) c.loop-item.before.now c.in-Some.rest.now c.in-Some.item.now c.in-Some.ensures.cases.0 c.in_default-item.not-Call) ∙ c.loop-item.invariant

pub returns-in-Call : goal.returns-in-Call
returns-in-Call g c =
    let e = caller_call (shelf_names c.args.shelf.now.items) c.loop-item.before.now c.in-Some.rest.now c.in-Some.item.now c.in-Call.plugin c.in-Call.hook c.in-Call.moment c.in-Some.ensures.cases.0 c.in-Call.is in
    subst (λ text. IfOk c.new.result (λ name. name ≡ text)) (c.plugin_name.ensures.characters ∙ (sym e ∙ c.loop-item.invariant)) c.new.ensures

pub returns : goal.returns
returns g c =
    let e = caller_none (shelf_names c.args.shelf.now.items) c.loop-item.before.now c.in_default.ensures.cases in
    subst (λ text. IfOk c.new-2.result (λ name. name ≡ text)) (chars-nil ∙ (sym e ∙ c.loop-item.invariant)) c.new-2.ensures
