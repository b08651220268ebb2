use Rattle.visitor_machine.proofs.OneFresh.{one_fresh}
use Rattle.visitor_machine.proofs.laws.one_fresh.Goals as goal

pub returns : goal.returns
returns c = one_fresh
