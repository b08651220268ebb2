use Rattle.visitor_walk.proofs.OneLog.{one_log}
use Rattle.visitor_walk.proofs.laws.one_log.Goals as goal

pub returns : goal.returns
returns c = one_log
