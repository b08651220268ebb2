use Rattle.visitor_walk.proofs.Seating.{next_passed, next_refused}
use Rattle.visitor_walk.proofs.turn.next_dirty.Goals as goal

pub returns-in-Ok : goal.returns-in-Ok
returns-in-Ok c = rw c.in-Some.is (next_passed _ _ c.in-Some.cursor c.in-Ok.child c.in-Ok.ensures.value c.in-Ok.ensures.state)

pub returns-in-Err : goal.returns-in-Err
returns-in-Err c = rw c.in-Some.is (next_refused _ _ c.in-Some.cursor _ c.in-Err.ensures.value c.in-Err.ensures.state)
