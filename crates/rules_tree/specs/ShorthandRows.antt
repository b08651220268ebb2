-- The rows of the code's table, as the definitions see them.
use Rattle.std.specs.Prelude.{map}
use Rattle.std.specs.Str.{chars}
use Rattle.rules_tree.specs.Shorthands.{Shorthand}
use Rattle.rules_tree.specs.declared.shorthands.ShorthandRow.{ShorthandRow}

abbrev pub shorthand_of : ShorthandRow → Shorthand
shorthand_of row = record { name = row.name.now; longhands = map (λ s. chars s.now) row.longhands.now }
