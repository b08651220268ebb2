use Rattle.std.proofs.Common.{refl}
use Rattle.node_rows.specs.Marks.{mark, dirtied}
use Rattle.node_rows.specs.NumberTrees.{levels, number_trees}
use Rattle.visitor_machine.proofs.laws.touched_examples.Goals as goal

pub returns-clause-set : goal.returns-clause-set
unfolding mark dirtied levels number_trees
returns-clause-set c = (refl, refl, refl)

pub returns-clause-moved : goal.returns-clause-moved
unfolding mark dirtied levels number_trees
returns-clause-moved c = (refl, refl, refl)

pub returns-clause-below : goal.returns-clause-below
unfolding mark dirtied levels number_trees
returns-clause-below c = (refl, refl)
