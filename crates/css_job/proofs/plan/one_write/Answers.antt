use Rattle.std.proofs.Common.{◌∙◌}
use Rattle.std.proofs.lemmas.Str.{chars-nil}
use Rattle.css_job.proofs.Plans.{writing_is}
use Rattle.css_job.proofs.plan.one_write.Goals as goal

pub returns : goal.returns
returns c = writing_is c.args.to c.args.text c.in_ok-caller.caller c.args.status c.push.new.self.items c.new-writes.result.items (c.in_ok-caller.ensures ∙ chars-nil) c.in_ok-push.ensures.items c.new-writes.ensures.items
