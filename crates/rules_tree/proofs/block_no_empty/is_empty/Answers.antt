use Rattle.std.proofs.Common.{◌∙◌, sym}
use Rattle.rules_tree.proofs.Empty.{with_first, without_first}
use Rattle.rules_tree.proofs.block_no_empty.is_empty.Goals as goal

pub returns-in-Some : goal.returns-in-Some
returns-in-Some c = with_first c.args.work.now.nodes c.facts.ensures.sound c.args.n c.in-Some.field-0 (sym c.first_child.ensures ∙ c.in-Some.is)

pub returns-in-None : goal.returns-in-None
returns-in-None c = without_first c.args.work.now.nodes c.facts.ensures.sound c.args.n (sym c.first_child.ensures ∙ c.in-None.is)
