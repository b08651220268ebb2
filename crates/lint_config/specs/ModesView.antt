-- What a map of names stands for.
use Rattle.std.specs.Prelude.{ℕ, List, map}
use Rattle.std.specs.Borrow.{Bor}
use Rattle.lint_config.specs.declared.config.Mode.{Mode}
use Rattle.lint_config.specs.ConfigOf.{NamedMode}

abbrev pub entry_view : Bor (List ℕ) × Mode → NamedMode
entry_view e = record { name = e.0.now; mode = e.1 }

abbrev pub modes_view : List (Bor (List ℕ) × Mode) → List NamedMode
modes_view es = map entry_view es
