use Rattle.std.proofs.Common.{◌≡◌, drop}
use Rattle.std.specs.Str.{chars}
use Rattle.lint_config.specs.ConfigView.{overrides_view}
use Rattle.lint_config.specs.ModesView.{modes_view}
use Rattle.lint_config.specs.Resolved.{overridden}
use Rattle.lint_config.proofs.resolve.set_overrides.Given as goal

abbrev pub invariant-loop-one : goal.invariant-loop-one
invariant-loop-one l = overridden (chars l.path) (overrides_view l.overrides) (modes_view l.initial.modes.entries) ≡ overridden (chars l.path) (overrides_view (drop l.one-index l.overrides)) (modes_view l.modes.entries)
