use Rattle.std.proofs.Common.{◌≡◌, ◌<◌, length}
use Rattle.std.specs.List.{All}
use Rattle.std.specs.Str.{chars}
use Rattle.command_words.specs.Words.{picked_by}
use Rattle.command_words.specs.NamesLeft.{names_left}
use Rattle.command_words.proofs.Givens.{behind}
use Rattle.command_words.proofs.Picks.{picks}
use Rattle.command_words.proofs.picked.picked.Given as goal

abbrev pub invariant-loop-left : goal.invariant-loop-left
invariant-loop-left l = record {
  is : picked_by l.known (chars l.fn.names) ≡ behind l.places.items (picks l.known l.places.items (names_left l.left));
  below : All (λ place. place < length l.known) l.places.items;
}

abbrev pub decreases-loop-left : goal.decreases-loop-left
decreases-loop-left l = length (names_left l.left)
