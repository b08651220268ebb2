use Rattle.std.proofs.Common.{◌∙◌, sym, arith}
use Rattle.rule_sites.proofs.Earlier.{parents_are_smaller}
use Rattle.rules_tree.proofs.Above.{level}
use Rattle.rules_tree.proofs.ancestors.enclosing.Goals as goal

pub up-smaller-then-counts : goal.up-smaller-then-counts
up-smaller-then-counts c = parents_are_smaller c.args.work.now c.requires.fresh c.up.at c.in-Some.p (sym c.parent_of.ensures ∙ c.in-Some.is)

pub up-smaller : goal.up-smaller
up-smaller c = parents_are_smaller c.args.work.now c.requires.fresh c.up.at c.in-Some.p (sym c.parent_of.ensures ∙ c.in-Some.is)

pub up-preserved-then-counts : goal.up-preserved-then-counts
up-preserved-then-counts c =
    let e = sym c.parent_of.ensures ∙ c.in-Some.is in
    let small = parents_are_smaller c.args.work.now c.requires.fresh c.up.at c.in-Some.p e in
    let step = level c.args.work.now.nodes c.facts.ensures.sound c.up.at c.in-Some.p _ e (sym c.counts.ensures ∙ c.if-counts.true) in
    (c.facts.ensures.sound.below c.up.at c.in-Some.p e, omega (arith, small, c.up.invariant.1), omega (arith, step, c.up.invariant.2))

pub up-preserved : goal.up-preserved
up-preserved c =
    let e = sym c.parent_of.ensures ∙ c.in-Some.is in
    let small = parents_are_smaller c.args.work.now c.requires.fresh c.up.at c.in-Some.p e in
    let step = level c.args.work.now.nodes c.facts.ensures.sound c.up.at c.in-Some.p _ e (sym c.counts.ensures ∙ c.if-counts.false) in
    (c.facts.ensures.sound.below c.up.at c.in-Some.p e, omega (arith, small, c.up.invariant.1), omega (arith, step, c.up.invariant.2))
