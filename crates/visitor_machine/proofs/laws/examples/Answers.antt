use Rattle.std.proofs.Common.{refl}
use Rattle.node_rows.specs.Marks.{mark, dirtied}
use Rattle.node_rows.specs.NumberTrees.{levels, number_trees}
use Rattle.visitor_machine.proofs.laws.examples.Goals as goal

pub returns-clause-inserted_before : goal.returns-clause-inserted_before
unfolding mark dirtied levels number_trees
returns-clause-inserted_before c = refl

pub returns-clause-inserted_behind : goal.returns-clause-inserted_behind
unfolding mark dirtied levels number_trees
returns-clause-inserted_behind c = refl

pub returns-clause-exchanged : goal.returns-clause-exchanged
unfolding mark dirtied levels number_trees
returns-clause-exchanged c = refl

pub returns-clause-late_filter : goal.returns-clause-late_filter
unfolding mark dirtied levels number_trees
returns-clause-late_filter c = refl

pub returns-clause-taken_out : goal.returns-clause-taken_out
unfolding mark dirtied levels number_trees
returns-clause-taken_out c = (refl, refl)

pub returns-clause-moved : goal.returns-clause-moved
unfolding mark dirtied levels number_trees
returns-clause-moved c = (refl, refl)

pub returns-clause-too_many_edits : goal.returns-clause-too_many_edits
unfolding mark dirtied levels number_trees
returns-clause-too_many_edits c = (refl, refl)

pub returns-clause-failed_call : goal.returns-clause-failed_call
unfolding mark dirtied levels number_trees
returns-clause-failed_call c = (refl, refl)

pub returns-clause-no_edit : goal.returns-clause-no_edit
unfolding mark dirtied levels number_trees
returns-clause-no_edit c = (refl, refl)
