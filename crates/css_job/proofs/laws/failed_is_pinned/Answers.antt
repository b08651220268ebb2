use Rattle.css_job.proofs.PinnedObject.{pinned}
use Rattle.css_job.proofs.laws.failed_is_pinned.Goals as goal

pub returns : goal.returns
returns c = pinned
