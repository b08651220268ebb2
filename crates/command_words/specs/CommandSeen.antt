-- The command of the code as one of the definitions.
use Rattle.std.specs.Prelude.{ℕ, ◌<◌}
use Rattle.std.specs.List.{All}
use Rattle.command_words.specs.Words.{Options, Command, Transform, Lint}
use Rattle.command_words.specs.declared.commands.Command as C
use Rattle.command_words.specs.declared.commands.Command.TheVariants as CV
use Rattle.command_words.specs.declared.commands.Options as O

abbrev pub options_seen : O.Options → Options
options_seen o = record { picked = o.picked.items; budget = o.budget; edit_budget = o.edit_budget; trace = o.trace }

abbrev pub command_seen : C.Command → Command
command_seen (CV.Transform o) = Transform (options_seen o)
command_seen CV.Lint = Lint

-- the picked places are places in a list of so many names
abbrev pub Picks : ℕ → C.Command → Type 0
Picks total (CV.Transform o) = All (λ place. place < total) o.picked.items
Picks total CV.Lint = Unit {0}
