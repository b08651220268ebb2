use Rattle.std.proofs.Common.{rules}
use Rattle.std.specs.Str.{chars}
use Rattle.lint_config.specs.Glob.{is_star, fits_char}
use Rattle.lint_config.specs.Turns.{char_trial}
use Rattle.lint_config.proofs.Backtrack.{at_wild, at_fitting, fails_unfit, fails_short}
use Rattle.lint_config.proofs.characters.go_on.Goals as goal

pub returns-then-unit-eq42 : goal.returns-then-unit-eq42
returns-then-unit-eq42 c = λ m h. at_wild is_star fits_char m (char_trial c.args.attempt) c.in-Some.unit (chars c.in-Some.pattern.now) (search rules) (search rules) h

pub go_back-requires-in_default-first_char : goal.go_back-requires-in_default-first_char
go_back-requires-in_default-first_char c = fails_short is_star fits_char (char_trial c.args.attempt) c.in-Some.unit (chars c.in-Some.pattern.now) (search rules) (search rules) (search rules)

pub go_back-requires-then-not-fits : goal.go_back-requires-then-not-fits
go_back-requires-then-not-fits c = fails_unfit is_star fits_char (char_trial c.args.attempt) c.in-Some.unit (chars c.in-Some.pattern.now) c.in-Some-first_char-2.character (chars c.in-Some-first_char-2.rest.now) (search rules) (search rules) (search rules) (search rules)

pub returns : goal.returns
returns c = λ m h. at_fitting is_star fits_char m (char_trial c.args.attempt) c.in-Some.unit (chars c.in-Some.pattern.now) c.in-Some-first_char-2.character (chars c.in-Some-first_char-2.rest.now) (search rules) (search rules) (search rules) (search rules) h
