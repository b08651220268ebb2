use Rattle.css_tree.proofs.Starts.{starts_at_spans}
use Rattle.css_tree.proofs.laws.prints_back.Goals as goal

pub returns-clause-starts : goal.returns-clause-starts
returns-clause-starts c = starts_at_spans
