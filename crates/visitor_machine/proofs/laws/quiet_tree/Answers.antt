use Rattle.visitor_machine.proofs.Kept.{quiet_tree, quiet_sheet}
use Rattle.visitor_machine.proofs.laws.quiet_tree.Goals as goal

pub returns-clause-tree : goal.returns-clause-tree
returns-clause-tree c = quiet_tree

pub returns-clause-sheet : goal.returns-clause-sheet
returns-clause-sheet c = quiet_sheet
