use Rattle.node_store.proofs.SameCursors.{cursors_are_same}
use Rattle.node_store.proofs.laws.cursors_are_same.Goals as goal

pub returns : goal.returns
returns c = cursors_are_same
