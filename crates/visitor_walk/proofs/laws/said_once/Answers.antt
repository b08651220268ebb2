use Rattle.std.proofs.Common.{refl}
use Rattle.visitor_machine.specs.Follow.{start}
use Rattle.visitor_walk.proofs.Saying.{said_once}
use Rattle.visitor_walk.proofs.laws.said_once.Goals as goal

pub returns : goal.returns
returns c = λ hs most ns items s i j run n. said_once hs most (start hs ns) s items i j refl run n
