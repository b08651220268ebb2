use Rattle.css_job.proofs.Lines.{failed_line}
use Rattle.css_job.proofs.fault.failed_text.Goals as goal

pub returns : goal.returns
returns c = failed_line c.format.result c.args.plugin.now c.args.text.now c.number-node.result c.event_name-event.result.now c.as_str-text.result.now c.args.moment c.utf8.plugin c.event_name-event.ensures c.number-node.ensures c.as_str-text.ensures.bytes c.format.ensures.ok
