use Rattle.std.proofs.Common.{◌∙◌}
use Rattle.command_words.proofs.SameWord.{same_words}
use Rattle.command_words.proofs.options.is_same.Goals as goal

pub returns : goal.returns
returns c = c.eq.ensures ∙ same_words c.args.a.now c.args.b.now c.utf8.a c.utf8.b
