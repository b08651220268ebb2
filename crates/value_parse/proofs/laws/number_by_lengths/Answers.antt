use Rattle.std.proofs.Common.{refl}
use Rattle.value_parse.specs.NumberLengths.{number_and_unit}
use Rattle.value_parse.proofs.NumberForms.{told, told_once}
use Rattle.value_parse.proofs.laws.number_by_lengths.Goals as goal

pub returns-clause-told : goal.returns-clause-told
returns-clause-told c = λ word. told word (number_and_unit word) refl

pub returns-clause-alone : goal.returns-clause-alone
returns-clause-alone c = told_once
