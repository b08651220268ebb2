use Rattle.node_store.proofs.FreshTree.{fresh_tree}
use Rattle.node_store.proofs.laws.fresh_tree.Goals as goal

pub returns : goal.returns
returns c = fresh_tree
