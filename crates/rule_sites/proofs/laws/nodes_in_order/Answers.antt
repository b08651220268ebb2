use Rattle.rule_sites.proofs.Contexts.{nodes_in_order}
use Rattle.rule_sites.proofs.laws.nodes_in_order.Goals as goal

pub returns : goal.returns
returns c = nodes_in_order
