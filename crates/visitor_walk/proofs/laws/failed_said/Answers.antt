use Rattle.visitor_machine.specs.Follow.{start}
use Rattle.visitor_walk.proofs.Saying.{failed_said}
use Rattle.visitor_walk.proofs.laws.failed_said.Goals as goal

pub returns : goal.returns
returns c = λ hs most ns items s i j m text run e. failed_said hs most (start hs ns) s items i j m text run e
