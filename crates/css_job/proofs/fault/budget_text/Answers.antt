use Rattle.css_job.proofs.Lines.{budget_line}
use Rattle.css_job.proofs.fault.budget_text.Goals as goal

pub returns : goal.returns
returns c = budget_line c.format.result c.args.calls c.number-node.result c.event_name-event.result.now c.args.next c.event_name-event.ensures c.number-node.ensures c.format.ensures.ok
