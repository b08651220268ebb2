use Rattle.css_tree.proofs.Whole.{whole_nodes}
use Rattle.css_tree.proofs.laws.whole_nodes.Goals as goal

pub returns : goal.returns
returns c = whole_nodes
