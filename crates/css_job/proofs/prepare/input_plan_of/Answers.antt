use Rattle.std.proofs.Common.{ap, sym, ◌∙◌, Some}
use Rattle.std.specs.Str.{chars}
use Rattle.css_text.specs.declared.stop.Stop.TheVariants.{Fault}
use Rattle.plugin_api.specs.Shelf.{shelf_seen}
use Rattle.command_words.specs.CommandSeen.{command_seen}
use Rattle.css_job.specs.Stages.{plan_seen}
use Rattle.css_job.proofs.Commands.{text_few, text_planned, wrong_planned, cut_none}
use Rattle.css_job.proofs.prepare.input_plan_of.Goals as goal

pub text_plan_of-requires-clause-few : goal.text_plan_of-requires-clause-few
text_plan_of-requires-clause-few g c = text_few c.args.bytes.items c.new.result c.new.ensures c.in-Ok.text c.in-Ok.is c.requires.short

pub returns-in-Ok : goal.returns-in-Ok
returns-in-Ok g c =
    let old = shelf_seen (λ b. (goal.Visitor-dyn g (b.vtable, b.value)).told b.value) (λ b. (goal.Visitor-dyn g (b.vtable, b.value)).said b.value) (λ b. (goal.Visitor-dyn g (b.vtable, b.value)).duty b.value) (λ b. (goal.Visitor-dyn g (b.vtable, b.value)).left b.value) c.args.shelf.now.items in
    let new = shelf_seen (λ b. (goal.Visitor-dyn g (b.vtable, b.value)).told b.value) (λ b. (goal.Visitor-dyn g (b.vtable, b.value)).said b.value) (λ b. (goal.Visitor-dyn g (b.vtable, b.value)).duty b.value) (λ b. (goal.Visitor-dyn g (b.vtable, b.value)).left b.value) c.text_plan_of.new.shelf.items in
    text_planned c.args.bytes.items c.new.result c.new.ensures (command_seen c.args.command) old new c.in-Ok.text c.text_plan_of.result c.in-Ok.is c.requires.short c.text_plan_of.ensures

pub returns-in-Err-Fault : goal.returns-in-Err-Fault
returns-in-Err-Fault g c =
    let old = shelf_seen (λ b. (goal.Visitor-dyn g (b.vtable, b.value)).told b.value) (λ b. (goal.Visitor-dyn g (b.vtable, b.value)).said b.value) (λ b. (goal.Visitor-dyn g (b.vtable, b.value)).duty b.value) (λ b. (goal.Visitor-dyn g (b.vtable, b.value)).left b.value) c.args.shelf.now.items in
    wrong_planned c.args.bytes.items c.new.result c.new.ensures (command_seen c.args.command) old c.in-Err-Fault.field-0 _ c.unwalked.result (plan_seen c.in_ok-plan-in-Err-Fault.plan) c.in-Err-Fault.is (c.in-Err-Fault.field-0-is ∙ ap (λ z. Fault z) (sym c.in-Err-Fault.fault-is))
    c.requires.short c.unwalked.ensures c.in_ok-plan-in-Err-Fault.ensures

pub returns : goal.returns
returns g c =
    let old = shelf_seen (λ b. (goal.Visitor-dyn g (b.vtable, b.value)).told b.value) (λ b. (goal.Visitor-dyn g (b.vtable, b.value)).said b.value) (λ b. (goal.Visitor-dyn g (b.vtable, b.value)).duty b.value) (λ b. (goal.Visitor-dyn g (b.vtable, b.value)).left b.value) c.args.shelf.now.items in
    cut_none old (Some (command_seen c.args.command)) (chars c.args.bytes.items)
