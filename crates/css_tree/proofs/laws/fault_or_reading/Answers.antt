use Rattle.css_tree.proofs.Reading.{fault_or_reading}
use Rattle.css_tree.proofs.laws.fault_or_reading.Goals as goal

pub returns : goal.returns
returns c = fault_or_reading
