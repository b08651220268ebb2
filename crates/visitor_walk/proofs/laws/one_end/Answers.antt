use Rattle.visitor_machine.specs.Follow.{start}
use Rattle.visitor_walk.proofs.LastItems.{ends_once}
use Rattle.visitor_walk.proofs.laws.one_end.Goals as goal

pub returns : goal.returns
returns c = λ hs budget most ns items s a b run x y. ends_once hs most (start hs ns) s items run budget a b x y
