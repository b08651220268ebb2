use Rattle.std.proofs.Common.{◌∙◌, sym}
use Rattle.node_rows.proofs.Behind.{first-some}
use Rattle.node_rows.proofs.Edits.{parent-inside}
use Rattle.css_job.proofs.Walking.{to_child, no_child}
use Rattle.css_job.proofs.lint.walk.next.Goals as goal

pub returns-in-Some-clause-given : goal.returns-in-Some-clause-given
returns-in-Some-clause-given c = parent-inside c.args.work.now.nodes c.in-Some.child c.args.n (first-some c.args.work.now.nodes c.facts.ensures.sound c.args.n c.in-Some.child (sym c.first_child.ensures ∙ c.in-Some.is)).0

pub returns-in-Some-clause-value : goal.returns-in-Some-clause-value
returns-in-Some-clause-value c = to_child c.args.work.now.nodes c.facts.ensures.sound c.args.n c.in-Some.child (sym c.first_child.ensures ∙ c.in-Some.is)

pub returns-in-None-clause-value : goal.returns-in-None-clause-value
returns-in-None-clause-value c = c.later.ensures.value ∙ no_child c.args.work.now.nodes c.facts.ensures.sound c.args.n (sym c.first_child.ensures ∙ c.in-None.is)
