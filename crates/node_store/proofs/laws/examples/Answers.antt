use Rattle.std.proofs.Common.{refl}
use Rattle.node_rows.specs.NumberTrees.{levels, number_trees}
use Rattle.node_rows.specs.Marks.{mark, dirtied}
use Rattle.node_store.proofs.laws.examples.Goals as goal

pub returns-clause-allowed : goal.returns-clause-allowed
unfolding mark
returns-clause-allowed c = (refl, refl, refl, refl, refl, refl, refl, refl)

pub returns-clause-next : goal.returns-clause-next
unfolding mark
returns-clause-next c = (refl, refl, refl, refl, refl)

pub returns-clause-touched : goal.returns-clause-touched
unfolding mark
returns-clause-touched c = (refl, refl, refl, refl)

pub returns-clause-marked : goal.returns-clause-marked
unfolding mark dirtied levels number_trees
returns-clause-marked c = (refl, refl, refl, refl)
