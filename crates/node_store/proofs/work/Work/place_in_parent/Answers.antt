use Rattle.std.proofs.Common.{arith}
use Rattle.node_rows.proofs.Short.{children-short}
use Rattle.node_store.proofs.work.Work.place_in_parent.Goals as goal

pub overflow_cast-result : goal.overflow_cast-result
overflow_cast-result c = omega (arith, c.place.ensures.inside, children-short c.self.inside.rows c.in-Some.parent c.facts.ensures, c.facts.ensures.few)
