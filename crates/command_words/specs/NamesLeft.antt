-- The names of a text that is left, and the place of one that isn't picked yet.
use Rattle.std.specs.Prelude.{ℕ, List, [], ◌∷◌, nat_eq, Option, Some, None, if◌then◌else◌}
use Rattle.std.specs.Borrow.{Bor}
use Rattle.std.specs.List.{list_any}
use Rattle.std.specs.Str.{chars}
use Rattle.command_words.specs.Words.{between_commas, place_of_name}

-- the names of what is left, if a text is
abbrev pub names_left : Option (Bor (List ℕ)) → List (List ℕ)
names_left None = []
names_left (Some s) = between_commas (chars s.now)

abbrev pub unless_picked : List ℕ → Option ℕ → Option ℕ
unless_picked places None = None
unless_picked places (Some i) = if list_any (λ j. nat_eq j i) places then None else Some i

-- the place that a name picks, where it isn't picked yet
abbrev pub fresh_place : List (List ℕ) → List ℕ → List ℕ → Option ℕ
fresh_place names places [] = None
fresh_place names places (c ∷ cs) = unless_picked places (place_of_name names (c ∷ cs))
