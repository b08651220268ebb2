use Rattle.std.proofs.Common.{◌≡◌, drop}
use Rattle.command_words.specs.Words.{value_of as value_given}
use Rattle.command_words.specs.GivenSeen.{all_seen}
use Rattle.command_words.proofs.options.value_of.Given as goal

abbrev pub invariant-loop-option : goal.invariant-loop-option
invariant-loop-option l = value_given l.name (all_seen l.given) ≡ value_given l.name (all_seen (drop l.option-index l.given))
