use Rattle.visitor_machine.proofs.Untouched.{untouched}
use Rattle.visitor_machine.proofs.laws.untouched.Goals as goal

pub returns : goal.returns
returns c = untouched
