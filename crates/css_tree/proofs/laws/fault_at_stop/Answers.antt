use Rattle.css_tree.proofs.Stops.{fault_at_stop}
use Rattle.css_tree.proofs.laws.fault_at_stop.Goals as goal

pub returns : goal.returns
returns c = fault_at_stop
