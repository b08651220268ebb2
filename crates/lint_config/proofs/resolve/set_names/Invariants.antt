use Rattle.std.proofs.Common.{◌≡◌, drop}
use Rattle.lint_config.specs.ConfigView.{rules_view}
use Rattle.lint_config.specs.ModesView.{modes_view}
use Rattle.lint_config.specs.Resolved.{set_names as names_set}
use Rattle.lint_config.proofs.resolve.set_names.Given as goal

abbrev pub invariant-loop-named : goal.invariant-loop-named
invariant-loop-named l = names_set (rules_view l.names) (modes_view l.initial.modes.entries) ≡ names_set (rules_view (drop l.named-index l.names)) (modes_view l.modes.entries)
