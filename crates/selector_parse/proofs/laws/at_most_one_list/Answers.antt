use Rattle.selector_parse.proofs.Judged.{passes}
use Rattle.selector_parse.proofs.Unique.{one_list}
use Rattle.selector_parse.proofs.laws.at_most_one_list.Goals as goal

pub returns : goal.returns
returns c = λ s x y a b. one_list s x y (passes s x a) (passes s y b)
