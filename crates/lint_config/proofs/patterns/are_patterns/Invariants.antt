use Rattle.std.proofs.Common.{◌≡◌, drop}
use Rattle.std.specs.List.{list_any}
use Rattle.lint_config.specs.ConfigOf.{is_no_pattern}
use Rattle.lint_config.specs.ConfigView.{texts_view}
use Rattle.lint_config.proofs.patterns.are_patterns.Given as goal

abbrev pub invariant-loop-text : goal.invariant-loop-text
invariant-loop-text l = list_any is_no_pattern (texts_view l.texts) ≡ list_any is_no_pattern (texts_view (drop l.text-index l.texts))
