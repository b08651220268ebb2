use Rattle.std.proofs.Common.{refl}
use Rattle.node_rows.specs.NumberTrees.{levels, number_trees}
use Rattle.node_rows.proofs.laws.examples.Goals as goal

pub returns-clause-numbers : goal.returns-clause-numbers
unfolding levels number_trees
returns-clause-numbers c = (refl, refl)
