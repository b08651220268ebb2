use Rattle.rule_sites.proofs.Earlier.{earlier_are_smaller}
use Rattle.rule_sites.proofs.laws.earlier_are_smaller.Goals as goal

pub returns : goal.returns
returns c = earlier_are_smaller
