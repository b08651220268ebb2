use Rattle.std.proofs.Common.{◌≡◌, length}
use Rattle.std.specs.Str.{chars}
use Rattle.lint_config.specs.Glob.{is_any_parts, part_matches, parts_match, parts}
use Rattle.lint_config.specs.Trial.{answer, rank, IsOnTrial}
use Rattle.lint_config.specs.Paths.{path_trial}
use Rattle.lint_config.proofs.paths.matches_parts.Given as goal

abbrev pub invariant-loop-next : goal.invariant-loop-next
invariant-loop-next l = record {
  on : IsOnTrial is_any_parts part_matches (length (parts (chars l.fn.pattern))) (path_trial l.attempt);
  same : answer is_any_parts part_matches (path_trial l.attempt) ≡ parts_match (parts (chars l.fn.pattern)) (parts (chars l.fn.path));
}

abbrev pub decreases-loop-next : goal.decreases-loop-next
decreases-loop-next l = rank is_any_parts part_matches (length (parts (chars l.fn.pattern))) (path_trial l.attempt)
