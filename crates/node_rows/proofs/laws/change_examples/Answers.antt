use Rattle.std.proofs.Common.{refl}
use Rattle.node_rows.specs.NumberTrees.{levels, number_trees}
use Rattle.node_rows.specs.Marks.{mark, dirtied}
use Rattle.node_rows.specs.Beyond.{beyond, behind}
use Rattle.node_rows.proofs.laws.change_examples.Goals as goal

pub returns-clause-marked : goal.returns-clause-marked
unfolding mark
returns-clause-marked c = (refl, refl, refl)

pub returns-clause-dirtied : goal.returns-clause-dirtied
unfolding levels number_trees dirtied
returns-clause-dirtied c = refl

pub returns-clause-behind : goal.returns-clause-behind
unfolding levels number_trees beyond behind
returns-clause-behind c = (refl, refl, refl, refl)
