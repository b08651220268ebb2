use Rattle.std.proofs.Common.{ap, map, ◌∙◌}
use Rattle.plugin_api.specs.Shelf.{shelf_seen}
use Rattle.node_store.specs.Forest.{tree_of}
use Rattle.css_job.specs.LintPlan.{reported}
use Rattle.css_job.specs.CommandPlan.{text_plan}
use Rattle.css_job.specs.Shown.{warning_seen}
use Rattle.command_words.specs.declared.commands.Command.TheVariants.{Lint}
use Rattle.css_job.proofs.Commands.{fresh_reads, of_command, of_lint}
use Rattle.css_job.proofs.command.read_plan.Goals as goal

pub empty_block_warnings-requires-clause-read : goal.empty_block_warnings-requires-clause-read
empty_block_warnings-requires-clause-read g c = fresh_reads c.args.work c.facts.ensures c.requires.fresh

pub returns-in_ok-warnings-in-Lint : goal.returns-in_ok-warnings-in-Lint
unfolding text_plan
returns-in_ok-warnings-in-Lint g c =
    let old = shelf_seen (λ b. (goal.Visitor-dyn g (b.vtable, b.value)).told b.value) (λ b. (goal.Visitor-dyn g (b.vtable, b.value)).said b.value) (λ b. (goal.Visitor-dyn g (b.vtable, b.value)).duty b.value) (λ b. (goal.Visitor-dyn g (b.vtable, b.value)).left b.value) c.args.shelf.now.items in
    of_command c.report_plan.result c.args.command Lint old old c.args.work.text c.in-Lint.is
    (of_lint c.report_plan.result old c.args.work.text (tree_of c.args.work) (reported (map warning_seen c.deref.result.now)) (fresh_reads c.args.work c.facts.ensures c.requires.fresh)
    (ap (λ z. reported (map warning_seen z)) c.deref.ensures.value ∙ ap reported c.in_ok-warnings-in-Lint.ensures) c.report_plan.ensures)
