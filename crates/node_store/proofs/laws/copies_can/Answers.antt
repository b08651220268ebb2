use Rattle.node_store.proofs.CopyLaw.{copies-can}
use Rattle.node_store.proofs.laws.copies_can.Goals as goal

pub returns : goal.returns
returns c = copies-can
