use Rattle.node_rows.proofs.Entries.{made-end}
use Rattle.node_rows.proofs.node_list.NodeList.set_end.Goals as goal

pub invariant_of-self : goal.invariant_of-self
invariant_of-self c = (made-end c.self.inside.rows c.args.self.now c.self.invariant c.self.view_is c.args.n c.requires c.set_end.new.self c.args.end c.set_end.ensures).is_built

pub returns : goal.returns
returns c = (made-end c.self.inside.rows c.args.self.now c.self.invariant c.self.view_is c.args.n c.requires c.set_end.new.self c.args.end c.set_end.ensures).back
