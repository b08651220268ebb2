use Rattle.rule_sites.proofs.Earlier.{parents_are_smaller}
use Rattle.rule_sites.proofs.laws.parents_are_smaller.Goals as goal

pub returns : goal.returns
returns c = parents_are_smaller
