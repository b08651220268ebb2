use Rattle.std.proofs.Common.{false}
use Rattle.node_store.proofs.Stores.{stored-marked}
use Rattle.node_store.proofs.work.Work.note.Goals as goal

pub invariant_of-self-in-Some : goal.invariant_of-self-in-Some
invariant_of-self-in-Some c = (stored-marked c.self.inside.text c.self.inside.rows c.self.inside.seats.items c.self.invariant c.in-Some.number false c.set_dirty.new.self c.set_dirty.ensures).0
