use Rattle.css_job.proofs.Brace.{follows}
use Rattle.css_job.proofs.laws.brace_follows.Goals as goal

pub returns : goal.returns
returns c = follows
