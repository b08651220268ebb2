use Rattle.std.proofs.Common.{◌∙◌, refl}
use Rattle.std.specs.Str.{chars}
use Rattle.command_words.proofs.SameWord.{is_end_chars}
use Rattle.command_words.proofs.options.is_end.Goals as goal

pub returns : goal.returns
returns c = c.is_same.ensures ∙ is_end_chars c.args.word.now
