use Rattle.std.proofs.Common.{◌≡◌, drop, map}
use Rattle.command_words.specs.Words.{word, all_plain, behind}
use Rattle.command_words.specs.GivenSeen.{taken_seen}
use Rattle.command_words.proofs.options.take_plain.Given as goal

abbrev pub invariant-loop-word : goal.invariant-loop-word
invariant-loop-word l = behind (taken_seen l.fn.taken) (all_plain (map word l.words)) ≡ behind (taken_seen l.taken) (all_plain (map word (drop l.word-index l.words)))
