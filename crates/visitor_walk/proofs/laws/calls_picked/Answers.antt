use Rattle.visitor_walk.proofs.Owning.{calls_picked}
use Rattle.visitor_walk.proofs.laws.calls_picked.Goals as goal

pub returns : goal.returns
returns c = calls_picked
