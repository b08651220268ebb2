use Rattle.std.proofs.Common.{◌∙◌, sym, subst}
use Rattle.node_rows.specs.Nodes.{IsGiven}
use Rattle.node_rows.proofs.Behind.{next-given}
use Rattle.css_job.proofs.Walking.{to_sibling, to_parent, at_top, shorter}
use Rattle.css_job.proofs.lint.walk.later.Goals as goal

pub returns-in-Some-clause-given : goal.returns-in-Some-clause-given
returns-in-Some-clause-given c = subst (IsGiven c.args.work.now.nodes) (sym c.next_sibling.ensures ∙ c.in-Some.is) (next-given c.args.work.now.nodes c.facts.ensures.sound c.up.at)

pub returns-in-Some-clause-value : goal.returns-in-Some-clause-value
returns-in-Some-clause-value c = to_sibling c.args.work.now.nodes c.facts.ensures.sound c.up.at c.in-Some.sibling (sym c.next_sibling.ensures ∙ c.in-Some.is) ∙ c.up.invariant.same

pub up-smaller : goal.up-smaller
up-smaller c = shorter c.args.work.now.nodes c.facts.ensures.sound c.up.at c.in-Some-parent_of.parent (sym c.parent_of.ensures ∙ c.in-Some-parent_of.is)

pub up-preserved : goal.up-preserved
up-preserved c =
    let e = sym c.parent_of.ensures ∙ c.in-Some-parent_of.is in
    record {
      given = c.facts.ensures.sound.below c.up.at c.in-Some-parent_of.parent e;
      same = to_parent c.args.work.now.nodes c.facts.ensures.sound c.up.at c.in-Some-parent_of.parent (sym c.next_sibling.ensures ∙ c.in_default.is) e ∙ c.up.invariant.same;
    }

pub returns-in-None-clause-value : goal.returns-in-None-clause-value
returns-in-None-clause-value c = at_top c.args.work.now.nodes c.facts.ensures.sound c.up.at c.up.invariant.given (sym c.next_sibling.ensures ∙ c.in_default.is) (sym c.parent_of.ensures ∙ c.in-None.is) ∙ c.up.invariant.same
