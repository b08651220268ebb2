use Rattle.std.proofs.Common.{◌≡◌, drop}
use Rattle.std.specs.List.{list_any}
use Rattle.std.specs.Str.{chars}
use Rattle.lint_config.specs.Glob.{glob_of}
use Rattle.lint_config.specs.ConfigView.{texts_view}
use Rattle.lint_config.proofs.resolve.matches.Given as goal

abbrev pub invariant-loop-pattern : goal.invariant-loop-pattern
invariant-loop-pattern l = list_any (λ p. glob_of (chars p) (chars l.path)) (texts_view l.patterns) ≡ list_any (λ p. glob_of (chars p) (chars l.path)) (texts_view (drop l.pattern-index l.patterns))
