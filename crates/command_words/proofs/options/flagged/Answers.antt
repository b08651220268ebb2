use Rattle.std.proofs.lemmas.Grind.{common_steps}
use Rattle.std.proofs.Common.{arith}
use Rattle.std.proofs.lemmas.Str.{chars-nil}
use Rattle.command_words.proofs.options.flagged.Goals as goal

pub returns-else-takes_value : goal.returns-else-takes_value
returns-else-takes_value c = grind (arith, common_steps, chars-nil)
