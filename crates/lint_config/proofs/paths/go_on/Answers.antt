use Rattle.std.proofs.Common.{rules}
use Rattle.std.specs.Str.{chars}
use Rattle.lint_config.specs.Glob.{is_any_parts, part_matches}
use Rattle.lint_config.specs.Paths.{path_trial, parts_left}
use Rattle.lint_config.proofs.Backtrack.{at_wild, at_fitting, fails_unfit, fails_short}
use Rattle.lint_config.proofs.paths.go_on.Goals as goal

pub returns-then-is_double_star : goal.returns-then-is_double_star
returns-then-is_double_star c = λ m h. at_wild is_any_parts part_matches m (path_trial c.args.attempt) (chars c.in-Some.unit.now) (parts_left c.in-Some.pattern) (search rules) (search rules) h

pub go_back-requires-in_default-first_part : goal.go_back-requires-in_default-first_part
go_back-requires-in_default-first_part c = fails_short is_any_parts part_matches (path_trial c.args.attempt) (chars c.in-Some.unit.now) (parts_left c.in-Some.pattern) (search rules) (search rules) (search rules)

pub go_back-requires-then-not-matches_part : goal.go_back-requires-then-not-matches_part
go_back-requires-then-not-matches_part c = fails_unfit is_any_parts part_matches (path_trial c.args.attempt) (chars c.in-Some.unit.now) (parts_left c.in-Some.pattern) (chars c.in-Some-first_part-2.part.now) (parts_left c.in-Some-first_part-2.rest) (search rules) (search rules) (search rules) (search rules)

pub returns : goal.returns
returns c = λ m h. at_fitting is_any_parts part_matches m (path_trial c.args.attempt) (chars c.in-Some.unit.now) (parts_left c.in-Some.pattern) (chars c.in-Some-first_part-2.part.now) (parts_left c.in-Some-first_part-2.rest) (search rules) (search rules) (search rules) (search rules) h
