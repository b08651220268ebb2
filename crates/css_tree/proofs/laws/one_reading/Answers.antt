use Rattle.css_tree.proofs.Reading.{one_reading}
use Rattle.css_tree.proofs.laws.one_reading.Goals as goal

pub returns : goal.returns
returns c = one_reading
