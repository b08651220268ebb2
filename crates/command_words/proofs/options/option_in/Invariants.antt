use Rattle.std.proofs.Common.{◌≡◌, drop}
use Rattle.std.specs.Str.{chars}
use Rattle.command_words.specs.Words.{option_in as option_named}
use Rattle.command_words.proofs.options.option_in.Given as goal

abbrev pub invariant-loop-name : goal.invariant-loop-name
invariant-loop-name l = option_named l.known (chars l.word) ≡ option_named (drop l.name-index l.known) (chars l.word)
