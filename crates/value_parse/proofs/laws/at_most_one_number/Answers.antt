use Rattle.value_parse.proofs.NumberForms.{one_number}
use Rattle.value_parse.proofs.laws.at_most_one_number.Goals as goal

pub returns : goal.returns
returns c = one_number
