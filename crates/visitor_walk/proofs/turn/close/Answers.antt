use Rattle.visitor_walk.proofs.Seating.{closed_by}
use Rattle.visitor_walk.proofs.turn.close.Goals as goal

pub returns-in-Some : goal.returns-in-Some
returns-in-Some c = rw c.in-Some.is (closed_by _ _ c.in-Some.cursor _ c.close.ensures)
