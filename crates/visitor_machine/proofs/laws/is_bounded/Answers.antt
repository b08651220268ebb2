use Rattle.visitor_machine.proofs.Bound.{bounded}
use Rattle.visitor_machine.proofs.laws.is_bounded.Goals as goal

pub returns : goal.returns
returns c = bounded
