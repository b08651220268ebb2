use Rattle.rule_sites.proofs.Stand.{each_stands}
use Rattle.rule_sites.proofs.reads.stands.Goals as goal

pub returns : goal.returns
returns c = each_stands c.args.work.now c.facts.ensures c.requires.fresh c.args.n c.requires.given
