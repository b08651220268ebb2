use Rattle.std.proofs.Common.{◌∙◌}
use Rattle.std.proofs.lemmas.Str.{chars-nil}
use Rattle.css_job.proofs.Plans.{stopped_is}
use Rattle.css_job.proofs.plan.stop.Goals as goal

pub returns : goal.returns
returns c = stopped_is c.args.fault c.in_ok-caller.caller c.args.status c.new-2.result.items (c.in_ok-caller.ensures ∙ chars-nil) c.requires c.new-2.ensures.items
