use Rattle.visitor_walk.proofs.Reserved.{walks_as}
use Rattle.visitor_walk.proofs.walk.walk.Goals as goal

pub returns : goal.returns
returns g c = walks_as _ _ _ _ _ _ _ _ _ c.reserve_log.ensures.rest c.walk_hooks.ensures
