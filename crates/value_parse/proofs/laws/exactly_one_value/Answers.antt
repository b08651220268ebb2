use Rattle.css_text.proofs.ValueParts.{one_value}
use Rattle.value_parse.proofs.Exists.{some_value}
use Rattle.value_parse.proofs.laws.exactly_one_value.Goals as goal

pub returns-clause-at_least : goal.returns-clause-at_least
returns-clause-at_least c = some_value

pub returns-clause-at_most : goal.returns-clause-at_most
returns-clause-at_most c = one_value
