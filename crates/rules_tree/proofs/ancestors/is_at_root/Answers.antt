use Rattle.std.proofs.Common.{◌∙◌, sym, ap}
use Rattle.rule_sites.specs.Blocks.{is_root}
use Rattle.rules_tree.proofs.Above.{deeper, at_top}
use Rattle.rules_tree.proofs.ancestors.is_at_root.Goals as goal

pub returns-in-Some-parent_of : goal.returns-in-Some-parent_of
returns-in-Some-parent_of c = deeper c.args.work.now.nodes c.facts.ensures.sound c.args.n c.in-Some.p c.in-Some-parent_of.field-0 (sym c.parent_of.ensures ∙ c.in-Some.is) (sym c.parent_of-2.ensures ∙ c.in-Some-parent_of.is)

pub returns-in-None : goal.returns-in-None
returns-in-None c = c.is_root.ensures ∙ (ap is_root c.text_of.ensures ∙ at_top c.args.work.now.nodes c.facts.ensures.sound c.args.n c.in-Some.p (sym c.parent_of.ensures ∙ c.in-Some.is) (sym c.parent_of-2.ensures ∙ c.in-None.is))
