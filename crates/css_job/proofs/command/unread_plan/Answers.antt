use Rattle.css_job.specs.Stages.{plan_seen}
use Rattle.css_job.proofs.Plans.{unread_transform, unread_lint}
use Rattle.css_job.proofs.command.unread_plan.Goals as goal
use Rattle.css_job.proofs.command.unread_plan.Goals.{in-Transform+in_ok-plan-in-Transform, in-Lint}

pub returns : goal.returns
returns c = elim c.match-command.branch [
  | in-Transform+in_ok-plan-in-Transform w ↦ unread_transform c.match-command.result w.unwalked.result _ c.args.command c.args.fault (plan_seen w.in_ok-plan-in-Transform.plan) w.result-is w.in-Transform.is w.unwalked.ensures w.in_ok-plan-in-Transform.ensures
  | in-Lint w ↦ unread_lint c.match-command.result w.report_plan.result c.args.command c.args.fault w.as_slice.result.now w.syntax.result w.result-is w.in-Lint.is w.as_slice.ensures w.syntax.ensures w.report_plan.ensures
]
