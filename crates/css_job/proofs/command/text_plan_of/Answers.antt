use Rattle.std.proofs.Common.{Some}
use Rattle.plugin_api.specs.Shelf.{shelf_seen}
use Rattle.command_words.specs.CommandSeen.{command_seen}
use Rattle.css_job.proofs.Commands.{cut_none, of_fault, fault_of}
use Rattle.css_job.proofs.command.text_plan_of.Goals as goal

pub returns-in-Err-Fault : goal.returns-in-Err-Fault
returns-in-Err-Fault g c =
    let old = shelf_seen (λ b. (goal.Visitor-dyn g (b.vtable, b.value)).told b.value) (λ b. (goal.Visitor-dyn g (b.vtable, b.value)).said b.value) (λ b. (goal.Visitor-dyn g (b.vtable, b.value)).duty b.value) (λ b. (goal.Visitor-dyn g (b.vtable, b.value)).left b.value) c.args.shelf.now.items in
    of_fault c.unread_plan.result old (command_seen c.args.command) c.args.text c.in-Err-Fault.fault (fault_of c.args.text c.parse.result c.in-Err-Fault.field-0 c.in-Err-Fault.fault c.in-Err-Fault.is c.in-Err-Fault.field-0-is c.parse.ensures.refused) c.unread_plan.ensures

pub returns-in-Err-Memory : goal.returns-in-Err-Memory
returns-in-Err-Memory g c =
    let old = shelf_seen (λ b. (goal.Visitor-dyn g (b.vtable, b.value)).told b.value) (λ b. (goal.Visitor-dyn g (b.vtable, b.value)).said b.value) (λ b. (goal.Visitor-dyn g (b.vtable, b.value)).duty b.value) (λ b. (goal.Visitor-dyn g (b.vtable, b.value)).left b.value) c.args.shelf.now.items in
    cut_none old (Some (command_seen c.args.command)) c.args.text
