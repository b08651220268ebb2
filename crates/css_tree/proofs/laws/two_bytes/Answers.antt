use Rattle.css_tree.proofs.Sizes.{two_bytes, at_most_half}
use Rattle.css_tree.proofs.laws.two_bytes.Goals as goal

pub returns-clause-spans : goal.returns-clause-spans
returns-clause-spans c = two_bytes

pub returns-clause-nodes : goal.returns-clause-nodes
returns-clause-nodes c = at_most_half
