use Rattle.std.proofs.Common.{◌≡◌, length}
use Rattle.std.specs.Str.{chars}
use Rattle.lint_config.specs.Glob.{is_star, fits_char, part_matches}
use Rattle.lint_config.specs.Trial.{answer, rank, IsOnTrial}
use Rattle.lint_config.specs.Turns.{char_trial}
use Rattle.lint_config.proofs.characters.matches_part.Given as goal

abbrev pub invariant-loop-next : goal.invariant-loop-next
invariant-loop-next l = record {
  on : IsOnTrial is_star fits_char (length (chars l.fn.pattern)) (char_trial l.attempt);
  same : answer is_star fits_char (char_trial l.attempt) ≡ part_matches (chars l.fn.pattern) (chars l.fn.text);
}

abbrev pub decreases-loop-next : goal.decreases-loop-next
decreases-loop-next l = rank is_star fits_char (length (chars l.fn.pattern)) (char_trial l.attempt)
