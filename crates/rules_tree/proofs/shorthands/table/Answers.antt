use Rattle.std.proofs.Common.{refl}
use Rattle.std.specs.Str.{chars}
use Rattle.rules_tree.proofs.shorthands.table.Goals as goal

pub returns-clause-rows : goal.returns-clause-rows
unfolding chars
returns-clause-rows c = refl

pub returns-clause-lower : goal.returns-clause-lower
returns-clause-lower c = refl
