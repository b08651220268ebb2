use Rattle.visitor_walk.proofs.Seating.{opened_at, opened_none}
use Rattle.visitor_walk.proofs.turn.opened.Goals as goal

pub returns-in-Ok : goal.returns-in-Ok
returns-in-Ok c = rw c.in-None.is (opened_at _ _ c.args.node c.in-Ok.cursor c.in-Ok.ensures.1)

pub returns-in-Err-Fault : goal.returns-in-Err-Fault
returns-in-Err-Fault c = rw c.in-None.is (let e = rw c.in-Err-Fault.field-0-is at c.in-Err-Fault.ensures in opened_none _ _ c.args.node c.in-Err-Fault.field-0-0 c.facts.ensures c.requires e.0 e.1)
