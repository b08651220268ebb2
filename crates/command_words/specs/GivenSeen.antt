-- What the code was given, as the definitions see it.
use Rattle.std.specs.Prelude.{List, map, ℕ}
use Rattle.std.specs.Str.{chars}
use Rattle.command_words.specs.Words.{Given, Item, Optional, Plain, Taken}
use Rattle.command_words.specs.declared.options.Given as G
use Rattle.command_words.specs.declared.options.Item as I
use Rattle.command_words.specs.declared.options.Item.TheVariants as IV
use Rattle.command_words.specs.declared.options.Taken as T

abbrev pub given_seen : G.Given → Given
given_seen g = record { name = g.name; value = chars g.value.now }

abbrev pub all_seen : List G.Given → List Given
all_seen gs = map given_seen gs

abbrev pub item_seen : I.Item → Item
item_seen (IV.Optional g) = Optional (given_seen g)
item_seen (IV.Plain w) = Plain (chars w.now)

abbrev pub taken_seen : T.Taken → Taken
taken_seen t = record { options = all_seen t.options.items; plain = map (λ w. chars w.now) t.plain.items }
