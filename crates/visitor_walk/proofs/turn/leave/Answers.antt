use Rattle.visitor_walk.proofs.Closing.{left_by}
use Rattle.visitor_walk.proofs.turn.leave.Goals as goal

pub returns : goal.returns
returns c = left_by _ _ _ c.args.visit c.in_ok-note.ensures c.close.ensures
