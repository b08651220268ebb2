use Rattle.std.proofs.Common.{subst}
use Rattle.node_store.specs.Forest.{IsForest}
use Rattle.node_store.proofs.Stored.{IsForest-stored}
use Rattle.node_store.proofs.work.Work.facts.Goals as goal

pub returns : goal.returns
returns c = subst IsForest c.self.view_is (IsForest-stored _ _ _ c.self.invariant _ _ _)
