use Rattle.node_rows.proofs.Entries.{made-block}
use Rattle.node_rows.proofs.node_list.NodeList.set_block.Goals as goal

pub invariant_of-self : goal.invariant_of-self
invariant_of-self c = (made-block c.self.inside.rows c.args.self.now c.self.invariant c.self.view_is c.args.n c.requires c.set_block.new.self c.args.block c.set_block.ensures).is_built

pub returns : goal.returns
returns c = (made-block c.self.inside.rows c.args.self.now c.self.invariant c.self.view_is c.args.n c.requires c.set_block.new.self c.args.block c.set_block.ensures).back
