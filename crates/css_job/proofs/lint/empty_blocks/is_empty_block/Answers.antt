use Rattle.std.proofs.Common.{◌∙◌, sym, ap}
use Rattle.css_tree.specs.Tree.{none}
use Rattle.node_rows.specs.Nodes.{text_of}
use Rattle.css_job.specs.Warnings.{is_empty_block}
use Rattle.css_job.proofs.Empty.{with_child, without_child}
use Rattle.css_job.proofs.lint.empty_blocks.is_empty_block.Goals as goal

pub returns-in-Some : goal.returns-in-Some
returns-in-Some c = with_child c.args.work.now.nodes c.facts.ensures.sound (text_of c.args.work.now.nodes c.args.n) c.args.n c.in-Some.field-0 (sym c.first_child.ensures ∙ c.in-Some.is)

pub returns-in-None : goal.returns-in-None
returns-in-None c = c.has_braces.ensures ∙ (ap (λ t. is_empty_block t none) c.text_of.ensures ∙ without_child c.args.work.now.nodes c.facts.ensures.sound (text_of c.args.work.now.nodes c.args.n) c.args.n (sym c.first_child.ensures ∙ c.in-None.is))
