use Rattle.css_job.proofs.Ordered.{in_order}
use Rattle.css_job.proofs.laws.in_order.Goals as goal

pub returns : goal.returns
returns c = in_order
