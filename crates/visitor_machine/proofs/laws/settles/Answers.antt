use Rattle.visitor_machine.proofs.Whole.{settles}
use Rattle.visitor_machine.proofs.laws.settles.Goals as goal

pub returns : goal.returns
returns c = settles
