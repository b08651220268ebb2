use Rattle.std.proofs.Common.{sym, ap, ◌∙◌, map}
use Rattle.std.specs.Option.{option_map}
use Rattle.plugin_api.specs.Shelf.{shelf_seen}
use Rattle.command_words.specs.Words.{word, command_of}
use Rattle.command_words.specs.CommandSeen.{command_seen}
use Rattle.css_job.specs.Stated.{asked}
use Rattle.css_job.specs.Stages.{plan_seen}
use Rattle.css_job.proofs.Commands.{names_seen}
use Rattle.css_job.proofs.Reading.{not_taken, none_read, failed_unasked, prepared_whole, prepared_unread, failed_unread, prepared_large, failed_large, unprepared_memory}
use Rattle.css_job.proofs.prepare.prepare.Goals as goal

pub returns-in-Ok-None : goal.returns-in-Ok-None
returns-in-Ok-None g c =
    let old = shelf_seen (λ b. (goal.Visitor-dyn g (b.vtable, b.value)).told b.value) (λ b. (goal.Visitor-dyn g (b.vtable, b.value)).said b.value) (λ b. (goal.Visitor-dyn g (b.vtable, b.value)).duty b.value) (λ b. (goal.Visitor-dyn g (b.vtable, b.value)).left b.value) c.args.shelf.now.items in
    let all = asked (map word c.args.words.now) old in
    let taken = ap (λ names. command_of names (map word c.args.words.now)) (names_seen (λ b. (goal.Visitor-dyn g (b.vtable, b.value)).told b.value) (λ b. (goal.Visitor-dyn g (b.vtable, b.value)).said b.value) (λ b. (goal.Visitor-dyn g (b.vtable, b.value)).duty b.value) (λ b. (goal.Visitor-dyn g (b.vtable, b.value)).left b.value) c.args.shelf.now.items) ∙ (sym c.in-Ok-None.ensures.is ∙ ap (option_map command_seen) c.in-Ok-None.field-0-is) in
    not_taken all (g.S.Source.left c.args.input.now) (g.S.Source.faults c.args.input.now) c.unwalked.result (plan_seen c.in_ok-plan-in-Ok-None.plan) taken c.unwalked.ensures c.in_ok-plan-in-Ok-None.ensures

pub returns-in_err-plan-in-Ok-None : goal.returns-in_err-plan-in-Ok-None
returns-in_err-plan-in-Ok-None g c =
    let old = shelf_seen (λ b. (goal.Visitor-dyn g (b.vtable, b.value)).told b.value) (λ b. (goal.Visitor-dyn g (b.vtable, b.value)).said b.value) (λ b. (goal.Visitor-dyn g (b.vtable, b.value)).duty b.value) (λ b. (goal.Visitor-dyn g (b.vtable, b.value)).left b.value) c.args.shelf.now.items in
    let all = asked (map word c.args.words.now) old in
    failed_unasked all (g.S.Source.left c.args.input.now) (g.S.Source.faults c.args.input.now) c.from_residual.result c.from_residual.ensures.0

pub returns-in-Err : goal.returns-in-Err
returns-in-Err g c =
    let old = shelf_seen (λ b. (goal.Visitor-dyn g (b.vtable, b.value)).told b.value) (λ b. (goal.Visitor-dyn g (b.vtable, b.value)).said b.value) (λ b. (goal.Visitor-dyn g (b.vtable, b.value)).duty b.value) (λ b. (goal.Visitor-dyn g (b.vtable, b.value)).left b.value) c.args.shelf.now.items in
    let all = asked (map word c.args.words.now) old in
    none_read all (g.S.Source.left c.args.input.now) (g.S.Source.faults c.args.input.now)

pub returns-in-Ok : goal.returns-in-Ok
returns-in-Ok g c =
    let old = shelf_seen (λ b. (goal.Visitor-dyn g (b.vtable, b.value)).told b.value) (λ b. (goal.Visitor-dyn g (b.vtable, b.value)).said b.value) (λ b. (goal.Visitor-dyn g (b.vtable, b.value)).duty b.value) (λ b. (goal.Visitor-dyn g (b.vtable, b.value)).left b.value) c.args.shelf.now.items in
    let all = asked (map word c.args.words.now) old in
    let taken = ap (λ names. command_of names (map word c.args.words.now)) (names_seen (λ b. (goal.Visitor-dyn g (b.vtable, b.value)).told b.value) (λ b. (goal.Visitor-dyn g (b.vtable, b.value)).said b.value) (λ b. (goal.Visitor-dyn g (b.vtable, b.value)).duty b.value) (λ b. (goal.Visitor-dyn g (b.vtable, b.value)).left b.value) c.args.shelf.now.items) ∙ (sym c.in-Ok-Some.ensures.is ∙ ap (option_map command_seen) c.in-Ok-Some.field-0-is) in
    let new = shelf_seen (λ b. (goal.Visitor-dyn g (b.vtable, b.value)).told b.value) (λ b. (goal.Visitor-dyn g (b.vtable, b.value)).said b.value) (λ b. (goal.Visitor-dyn g (b.vtable, b.value)).duty b.value) (λ b. (goal.Visitor-dyn g (b.vtable, b.value)).left b.value) c.input_plan_of.new.shelf.items in
    prepared_whole all (command_seen c.in-Ok-Some.command) taken (g.S.Source.left c.args.input.now) (g.S.Source.left c.read_all.new.source) (g.S.Source.faults c.args.input.now) (g.S.Source.faults c.read_all.new.source) c.read_all.result new c.in-Ok.bytes c.input_plan_of.result c.read_all.ensures c.in-Ok.is c.input_plan_of.ensures

pub returns-in_err-plan-in-Err-ReadFault : goal.returns-in_err-plan-in-Err-ReadFault
returns-in_err-plan-in-Err-ReadFault g c =
    let old = shelf_seen (λ b. (goal.Visitor-dyn g (b.vtable, b.value)).told b.value) (λ b. (goal.Visitor-dyn g (b.vtable, b.value)).said b.value) (λ b. (goal.Visitor-dyn g (b.vtable, b.value)).duty b.value) (λ b. (goal.Visitor-dyn g (b.vtable, b.value)).left b.value) c.args.shelf.now.items in
    let all = asked (map word c.args.words.now) old in
    let taken = ap (λ names. command_of names (map word c.args.words.now)) (names_seen (λ b. (goal.Visitor-dyn g (b.vtable, b.value)).told b.value) (λ b. (goal.Visitor-dyn g (b.vtable, b.value)).said b.value) (λ b. (goal.Visitor-dyn g (b.vtable, b.value)).duty b.value) (λ b. (goal.Visitor-dyn g (b.vtable, b.value)).left b.value) c.args.shelf.now.items) ∙ (sym c.in-Ok-Some.ensures.is ∙ ap (option_map command_seen) c.in-Ok-Some.field-0-is) in
    failed_unread all (command_seen c.in-Ok-Some.command) taken (g.S.Source.left c.args.input.now) (g.S.Source.left c.read_all.new.source) (g.S.Source.faults c.args.input.now) (g.S.Source.faults c.read_all.new.source) c.read_all.result c.in-Err-ReadFault.field-0 c.from_residual-in_err-plan-in-Err-ReadFault.result c.read_all.ensures c.in-Err-ReadFault.is c.in-Err-ReadFault.field-0-is c.from_residual-in_err-plan-in-Err-ReadFault.ensures.0

pub returns-in-Err-ReadFault : goal.returns-in-Err-ReadFault
returns-in-Err-ReadFault g c =
    let old = shelf_seen (λ b. (goal.Visitor-dyn g (b.vtable, b.value)).told b.value) (λ b. (goal.Visitor-dyn g (b.vtable, b.value)).said b.value) (λ b. (goal.Visitor-dyn g (b.vtable, b.value)).duty b.value) (λ b. (goal.Visitor-dyn g (b.vtable, b.value)).left b.value) c.args.shelf.now.items in
    let all = asked (map word c.args.words.now) old in
    let taken = ap (λ names. command_of names (map word c.args.words.now)) (names_seen (λ b. (goal.Visitor-dyn g (b.vtable, b.value)).told b.value) (λ b. (goal.Visitor-dyn g (b.vtable, b.value)).said b.value) (λ b. (goal.Visitor-dyn g (b.vtable, b.value)).duty b.value) (λ b. (goal.Visitor-dyn g (b.vtable, b.value)).left b.value) c.args.shelf.now.items) ∙ (sym c.in-Ok-Some.ensures.is ∙ ap (option_map command_seen) c.in-Ok-Some.field-0-is) in
    prepared_unread all (command_seen c.in-Ok-Some.command) taken (g.S.Source.left c.args.input.now) (g.S.Source.left c.read_all.new.source) (g.S.Source.faults c.args.input.now) (g.S.Source.faults c.read_all.new.source) c.read_all.result c.in-Err-ReadFault.field-0 c.unwalked-in-Err-ReadFault.result (plan_seen c.in_ok-plan-in-Err-ReadFault.plan) c.read_all.ensures c.in-Err-ReadFault.is c.in-Err-ReadFault.field-0-is c.unwalked-in-Err-ReadFault.ensures c.in_ok-plan-in-Err-ReadFault.ensures

pub returns-in_err-plan-in-Err-TooLarge : goal.returns-in_err-plan-in-Err-TooLarge
returns-in_err-plan-in-Err-TooLarge g c =
    let old = shelf_seen (λ b. (goal.Visitor-dyn g (b.vtable, b.value)).told b.value) (λ b. (goal.Visitor-dyn g (b.vtable, b.value)).said b.value) (λ b. (goal.Visitor-dyn g (b.vtable, b.value)).duty b.value) (λ b. (goal.Visitor-dyn g (b.vtable, b.value)).left b.value) c.args.shelf.now.items in
    let all = asked (map word c.args.words.now) old in
    let taken = ap (λ names. command_of names (map word c.args.words.now)) (names_seen (λ b. (goal.Visitor-dyn g (b.vtable, b.value)).told b.value) (λ b. (goal.Visitor-dyn g (b.vtable, b.value)).said b.value) (λ b. (goal.Visitor-dyn g (b.vtable, b.value)).duty b.value) (λ b. (goal.Visitor-dyn g (b.vtable, b.value)).left b.value) c.args.shelf.now.items) ∙ (sym c.in-Ok-Some.ensures.is ∙ ap (option_map command_seen) c.in-Ok-Some.field-0-is) in
    failed_large all (command_seen c.in-Ok-Some.command) taken (g.S.Source.left c.args.input.now) (g.S.Source.left c.read_all.new.source) (g.S.Source.faults c.args.input.now) (g.S.Source.faults c.read_all.new.source) c.read_all.result c.in-Err-TooLarge.field-0 c.from_residual-in_err-plan-in-Err-TooLarge.result c.read_all.ensures c.in-Err-TooLarge.is c.in-Err-TooLarge.field-0-is c.from_residual-in_err-plan-in-Err-TooLarge.ensures.0

pub returns-in-Err-TooLarge : goal.returns-in-Err-TooLarge
returns-in-Err-TooLarge g c =
    let old = shelf_seen (λ b. (goal.Visitor-dyn g (b.vtable, b.value)).told b.value) (λ b. (goal.Visitor-dyn g (b.vtable, b.value)).said b.value) (λ b. (goal.Visitor-dyn g (b.vtable, b.value)).duty b.value) (λ b. (goal.Visitor-dyn g (b.vtable, b.value)).left b.value) c.args.shelf.now.items in
    let all = asked (map word c.args.words.now) old in
    let taken = ap (λ names. command_of names (map word c.args.words.now)) (names_seen (λ b. (goal.Visitor-dyn g (b.vtable, b.value)).told b.value) (λ b. (goal.Visitor-dyn g (b.vtable, b.value)).said b.value) (λ b. (goal.Visitor-dyn g (b.vtable, b.value)).duty b.value) (λ b. (goal.Visitor-dyn g (b.vtable, b.value)).left b.value) c.args.shelf.now.items) ∙ (sym c.in-Ok-Some.ensures.is ∙ ap (option_map command_seen) c.in-Ok-Some.field-0-is) in
    prepared_large all (command_seen c.in-Ok-Some.command) taken (g.S.Source.left c.args.input.now) (g.S.Source.left c.read_all.new.source) (g.S.Source.faults c.args.input.now) (g.S.Source.faults c.read_all.new.source) c.read_all.result c.in-Err-TooLarge.field-0 c.unwalked-in-Err-TooLarge.result (plan_seen c.in_ok-plan-in-Err-TooLarge.plan) c.read_all.ensures c.in-Err-TooLarge.is c.in-Err-TooLarge.field-0-is c.unwalked-in-Err-TooLarge.ensures c.in_ok-plan-in-Err-TooLarge.ensures

pub returns : goal.returns
returns g c =
    let old = shelf_seen (λ b. (goal.Visitor-dyn g (b.vtable, b.value)).told b.value) (λ b. (goal.Visitor-dyn g (b.vtable, b.value)).said b.value) (λ b. (goal.Visitor-dyn g (b.vtable, b.value)).duty b.value) (λ b. (goal.Visitor-dyn g (b.vtable, b.value)).left b.value) c.args.shelf.now.items in
    let all = asked (map word c.args.words.now) old in
    let taken = ap (λ names. command_of names (map word c.args.words.now)) (names_seen (λ b. (goal.Visitor-dyn g (b.vtable, b.value)).told b.value) (λ b. (goal.Visitor-dyn g (b.vtable, b.value)).said b.value) (λ b. (goal.Visitor-dyn g (b.vtable, b.value)).duty b.value) (λ b. (goal.Visitor-dyn g (b.vtable, b.value)).left b.value) c.args.shelf.now.items) ∙ (sym c.in-Ok-Some.ensures.is ∙ ap (option_map command_seen) c.in-Ok-Some.field-0-is) in
    unprepared_memory all (command_seen c.in-Ok-Some.command) taken (g.S.Source.left c.args.input.now) (g.S.Source.left c.read_all.new.source) (g.S.Source.faults c.args.input.now) (g.S.Source.faults c.read_all.new.source) c.read_all.result c.in-Err-Memory.field-0 c.in-Err-Memory.error c.read_all.ensures c.in-Err-Memory.is c.in-Err-Memory.field-0-is
