use Rattle.node_rows.proofs.Entries.{made-push}
use Rattle.node_rows.proofs.node_list.NodeList.push.Goals as goal

pub invariant_of-self-2 : goal.invariant_of-self-2
invariant_of-self-2 c = (made-push c.self.inside.rows c.args.self.now c.self.invariant c.self.view_is c.args.node c.requires.room c.requires.earlier c.append.new.self c.in_ok-append.ensures).is_built

pub returns : goal.returns
returns c = (made-push c.self.inside.rows c.args.self.now c.self.invariant c.self.view_is c.args.node c.requires.room c.requires.earlier c.append.new.self c.in_ok-append.ensures).back
