use Rattle.std.proofs.Common.{◌≡◌, length, map}
use Rattle.command_words.specs.Words.{word, taken as taken_words, behind}
use Rattle.command_words.specs.GivenSeen.{taken_seen}
use Rattle.command_words.proofs.options.taken_from.Given as goal

abbrev pub invariant-loop-word : goal.invariant-loop-word
invariant-loop-word l = taken_words l.known (map word l.fn.words) ≡ behind (taken_seen l.taken) (taken_words l.known (map word l.left))

abbrev pub decreases-loop-word : goal.decreases-loop-word
decreases-loop-word l = length l.left
