use Rattle.std.proofs.Common.{◌≡◌, ◌++◌}
use Rattle.lint_config.specs.ModesView.{modes_view}
use Rattle.lint_config.specs.Resolved.{unknown_in}
use Rattle.lint_config.proofs.resolve.unknown.Given as goal

abbrev pub invariant-loop-name : goal.invariant-loop-name
invariant-loop-name l = l.names.items ++ unknown_in (modes_view l.name-iterator) ≡ unknown_in (modes_view l.modes.entries)
