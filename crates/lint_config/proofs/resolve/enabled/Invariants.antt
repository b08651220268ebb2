use Rattle.std.proofs.Common.{◌≡◌, ◌++◌, drop}
use Rattle.lint_config.specs.ModesView.{modes_view}
use Rattle.lint_config.specs.Resolved.{enabled_in}
use Rattle.lint_config.proofs.resolve.enabled.Given as goal

abbrev pub invariant-loop-rule : goal.invariant-loop-rule
invariant-loop-rule l = l.settings.items ++ enabled_in l.default (modes_view l.modes.entries) (drop l.rule-index l.rule-items) ≡ enabled_in l.default (modes_view l.modes.entries) l.rule-items
