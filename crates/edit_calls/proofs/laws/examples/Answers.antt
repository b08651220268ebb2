use Rattle.std.proofs.Common.{refl}
use Rattle.node_rows.specs.NumberTrees.{levels, number_trees}
use Rattle.node_rows.specs.Marks.{mark}
use Rattle.edit_calls.proofs.laws.examples.Goals as goal

pub returns-clause-moved : goal.returns-clause-moved
unfolding mark
returns-clause-moved c = (refl, refl, refl, refl, refl)

pub returns-clause-replaced : goal.returns-clause-replaced
unfolding mark
returns-clause-replaced c = refl

pub returns-clause-refused : goal.returns-clause-refused
returns-clause-refused c = (refl, refl, refl, refl, refl, refl, refl, refl)

pub returns-clause-texts : goal.returns-clause-texts
returns-clause-texts c = (refl, refl, refl)

pub returns-clause-cloned : goal.returns-clause-cloned
unfolding levels number_trees
returns-clause-cloned c = (refl, refl)
