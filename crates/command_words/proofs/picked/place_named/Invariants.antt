use Rattle.std.proofs.Common.{◌≡◌, ◌+◌, drop}
use Rattle.std.specs.Option.{option_map}
use Rattle.std.specs.Str.{chars}
use Rattle.command_words.specs.Words.{place_of_name}
use Rattle.command_words.proofs.picked.place_named.Given as goal

abbrev pub invariant-loop-place : goal.invariant-loop-place
invariant-loop-place l = place_of_name l.known (chars l.name) ≡ option_map (λ k. l.place + k) (place_of_name (drop l.place l.known) (chars l.name))
