use Rattle.rule_sites.proofs.Stand.{each_stands}
use Rattle.rule_sites.proofs.laws.each_stands.Goals as goal

pub returns : goal.returns
returns c = each_stands
