use Rattle.std.proofs.Common.{sym, ◌∙◌}
use Rattle.plugin_api.specs.Shelf.{shelf_seen}
use Rattle.command_words.specs.Words.{Transform}
use Rattle.command_words.specs.CommandSeen.{options_seen}
use Rattle.css_job.proofs.Commands.{cut_planned, names_seen}
use Rattle.css_job.proofs.Freshly.{fresh_total}
use Rattle.css_job.proofs.Transforming.{cut_walk, cut_plan, planned_walk}
use Rattle.css_job.proofs.Unedited.{keeps_text}
use Rattle.css_job.proofs.transform.walk_sheet.Goals as goal

pub returns-in_err-end : goal.returns-in_err-end
returns-in_err-end g c =
    let total = c.node_total-nodes.ensures ∙ fresh_total c.args.work c.requires.fresh in
    let old = shelf_seen (λ b. (goal.Visitor-dyn g (b.vtable, b.value)).told b.value) (λ b. (goal.Visitor-dyn g (b.vtable, b.value)).said b.value) (λ b. (goal.Visitor-dyn g (b.vtable, b.value)).duty b.value) (λ b. (goal.Visitor-dyn g (b.vtable, b.value)).left b.value) c.args.shelf.now.items in
    let new = shelf_seen (λ b. (goal.Visitor-dyn g (b.vtable, b.value)).told b.value) (λ b. (goal.Visitor-dyn g (b.vtable, b.value)).said b.value) (λ b. (goal.Visitor-dyn g (b.vtable, b.value)).duty b.value) (λ b. (goal.Visitor-dyn g (b.vtable, b.value)).left b.value) c.walk.new.shelf.items in
    cut_planned c.from_residual.result (Transform (options_seen c.args.options)) old new c.args.work.text c.from_residual.ensures.0
    (cut_walk c.args.work c.walk.new.work c.facts.ensures c.requires.fresh old new (options_seen c.args.options) c.budget_for-budget.result c.budget_for-edit_budget.result (c.budget_for-budget.ensures c.requires.fresh.tree total) (c.budget_for-edit_budget.ensures c.requires.fresh.tree total)
    c.deref.result.now c.deref.ensures.value c.walk.result c.walk.ensures c.in_err-end.field-0.0 c.in_err-end.was)

pub walk_plan-requires : goal.walk_plan-requires
walk_plan-requires g c =
    let old = shelf_seen (λ b. (goal.Visitor-dyn g (b.vtable, b.value)).told b.value) (λ b. (goal.Visitor-dyn g (b.vtable, b.value)).said b.value) (λ b. (goal.Visitor-dyn g (b.vtable, b.value)).duty b.value) (λ b. (goal.Visitor-dyn g (b.vtable, b.value)).left b.value) c.args.shelf.now.items in
    let new = shelf_seen (λ b. (goal.Visitor-dyn g (b.vtable, b.value)).told b.value) (λ b. (goal.Visitor-dyn g (b.vtable, b.value)).said b.value) (λ b. (goal.Visitor-dyn g (b.vtable, b.value)).duty b.value) (λ b. (goal.Visitor-dyn g (b.vtable, b.value)).left b.value) c.walk.new.shelf.items in
    keeps_text c.args.work c.walk.new.work c.take_log-log.new.self c.facts.ensures c.requires.fresh old new c.deref.result.now c.budget_for-budget.result c.budget_for-edit_budget.result c.walk.result c.take_log-log.result.items c.deref-2.result.now c.walk.ensures c.take_log-log.ensures.log c.take_log-log.ensures.state c.deref-2.ensures.value

pub returns-in_err-plan : goal.returns-in_err-plan
returns-in_err-plan g c =
    let total = c.node_total-nodes.ensures ∙ fresh_total c.args.work c.requires.fresh in
    let old = shelf_seen (λ b. (goal.Visitor-dyn g (b.vtable, b.value)).told b.value) (λ b. (goal.Visitor-dyn g (b.vtable, b.value)).said b.value) (λ b. (goal.Visitor-dyn g (b.vtable, b.value)).duty b.value) (λ b. (goal.Visitor-dyn g (b.vtable, b.value)).left b.value) c.args.shelf.now.items in
    let new = shelf_seen (λ b. (goal.Visitor-dyn g (b.vtable, b.value)).told b.value) (λ b. (goal.Visitor-dyn g (b.vtable, b.value)).said b.value) (λ b. (goal.Visitor-dyn g (b.vtable, b.value)).duty b.value) (λ b. (goal.Visitor-dyn g (b.vtable, b.value)).left b.value) c.walk.new.shelf.items in
    cut_planned c.from_residual-in_err-plan.result (Transform (options_seen c.args.options)) old new c.args.work.text c.from_residual-in_err-plan.ensures.0
    (cut_plan c.args.work c.walk.new.work c.facts.ensures c.requires.fresh old new (options_seen c.args.options) c.budget_for-budget.result c.budget_for-edit_budget.result (c.budget_for-budget.ensures c.requires.fresh.tree total) (c.budget_for-edit_budget.ensures c.requires.fresh.tree total)
    c.deref.result.now c.deref.ensures.value c.walk.result c.walk.ensures c.in_ok-end.end c.in_ok-end.was)

pub returns : goal.returns
returns g c =
    let total = c.node_total-nodes.ensures ∙ fresh_total c.args.work c.requires.fresh in
    let old = shelf_seen (λ b. (goal.Visitor-dyn g (b.vtable, b.value)).told b.value) (λ b. (goal.Visitor-dyn g (b.vtable, b.value)).said b.value) (λ b. (goal.Visitor-dyn g (b.vtable, b.value)).duty b.value) (λ b. (goal.Visitor-dyn g (b.vtable, b.value)).left b.value) c.args.shelf.now.items in
    let new = shelf_seen (λ b. (goal.Visitor-dyn g (b.vtable, b.value)).told b.value) (λ b. (goal.Visitor-dyn g (b.vtable, b.value)).said b.value) (λ b. (goal.Visitor-dyn g (b.vtable, b.value)).duty b.value) (λ b. (goal.Visitor-dyn g (b.vtable, b.value)).left b.value) c.walk.new.shelf.items in
    planned_walk c.args.work c.walk.new.work c.facts.ensures c.requires.fresh old new (options_seen c.args.options) c.budget_for-budget.result c.budget_for-edit_budget.result (c.budget_for-budget.ensures c.requires.fresh.tree total) (c.budget_for-edit_budget.ensures c.requires.fresh.tree total)
    c.deref.result.now c.deref.ensures.value c.walk.result c.walk.ensures c.in_ok-end.end c.in_ok-end.was c.in_ok-plan.plan c.take_log-log.result c.take_log-log.new.self c.deref-2.result.now _ c.take_log-log.ensures.log c.take_log-log.ensures.state c.deref-2.ensures.value (sym (names_seen (λ b. (goal.Visitor-dyn g (b.vtable, b.value)).told b.value) (λ b. (goal.Visitor-dyn g (b.vtable, b.value)).said b.value) (λ b. (goal.Visitor-dyn g (b.vtable, b.value)).duty b.value) (λ b. (goal.Visitor-dyn g (b.vtable, b.value)).left b.value) c.walk.new.shelf.items)) c.in_ok-plan.ensures
