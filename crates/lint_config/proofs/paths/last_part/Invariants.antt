use Rattle.std.proofs.Common.{◌≡◌, length}
use denote.Text.{Utf8}
use denote.Shadow.{shadow}
use Rattle.std.specs.Str.{chars}
use Rattle.lint_config.specs.Glob.{parts, last_of}
use Rattle.lint_config.proofs.paths.last_part.Given as goal

abbrev pub invariant-loop-after : goal.invariant-loop-after
invariant-loop-after l = shadow (Utf8 l.left) × (last_of (parts (chars l.left)) ≡ last_of (parts (chars l.fn.path)))

abbrev pub decreases-loop-after : goal.decreases-loop-after
decreases-loop-after l = length (parts (chars l.left))
