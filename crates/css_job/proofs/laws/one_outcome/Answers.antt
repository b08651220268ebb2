use Rattle.css_job.proofs.OneOutcome.{one_outcome}
use Rattle.css_job.proofs.laws.one_outcome.Goals as goal

pub returns : goal.returns
returns c = one_outcome
