use Rattle.std.proofs.Common.{refl}
use Rattle.std.specs.Fmt.{digits}
use Rattle.std.specs.Str.{chars}
use Rattle.lint_config.specs.Rules.{entry_of, all_rules}
use Rattle.lint_config.specs.RuleValues.{is_numeral}
use Rattle.lint_config.specs.Glob.{glob_of}
use Rattle.lint_config.specs.Resolved.{modes_for}
use Rattle.lint_config.proofs.laws.examples.Goals as goal

pub returns-clause-names : goal.returns-clause-names
unfolding entry_of all_rules
returns-clause-names c = (refl, refl, refl, refl, refl)

pub returns-clause-allowed : goal.returns-clause-allowed
unfolding entry_of all_rules
returns-clause-allowed c = (refl, refl, refl, refl, refl)

pub returns-clause-refusals : goal.returns-clause-refusals
unfolding entry_of all_rules digits
returns-clause-refusals c = (refl, refl, refl, refl)

pub returns-clause-modes : goal.returns-clause-modes
unfolding entry_of is_numeral
returns-clause-modes c = (refl, refl, refl, refl, refl, refl, refl, refl, refl, refl)

pub returns-clause-resolves : goal.returns-clause-resolves
unfolding entry_of all_rules glob_of modes_for chars
returns-clause-resolves c = (refl, refl, refl)

pub returns-clause-matches : goal.returns-clause-matches
unfolding glob_of
returns-clause-matches c = (refl, refl, refl, refl, refl, refl)

pub returns-clause-differs : goal.returns-clause-differs
unfolding glob_of
returns-clause-differs c = (refl, refl, refl, refl, refl, refl)

pub returns-clause-cut : goal.returns-clause-cut
returns-clause-cut c = (refl, refl)
