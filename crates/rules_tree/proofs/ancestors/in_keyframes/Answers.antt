use Rattle.std.proofs.Common.{◌∙◌, sym, ap}
use Rattle.rule_sites.specs.Keyframes.{is_keyframes}
use Rattle.rule_sites.proofs.Earlier.{parents_are_smaller}
use Rattle.rules_tree.proofs.Above.{keyframes_above}
use Rattle.rules_tree.proofs.ancestors.in_keyframes.Goals as goal

pub returns-then-is_keyframes : goal.returns-then-is_keyframes
returns-then-is_keyframes c =
    let e = sym c.parent_of.ensures ∙ c.in-Some.is in
    let yes = sym (c.is_keyframes.ensures ∙ ap is_keyframes c.text_of.ensures) ∙ c.if-is_keyframes.true in
    sym (keyframes_above c.args.work.now.nodes c.facts.ensures.sound c.up.at c.in-Some.p _ e yes) ∙ c.up.invariant.1

pub up-smaller : goal.up-smaller
up-smaller c = parents_are_smaller c.args.work.now c.requires.fresh c.up.at c.in-Some.p (sym c.parent_of.ensures ∙ c.in-Some.is)

pub up-preserved : goal.up-preserved
up-preserved c =
    let e = sym c.parent_of.ensures ∙ c.in-Some.is in
    let no = sym (c.is_keyframes.ensures ∙ ap is_keyframes c.text_of.ensures) ∙ c.if-is_keyframes.false in
    (c.facts.ensures.sound.below c.up.at c.in-Some.p e, sym (keyframes_above c.args.work.now.nodes c.facts.ensures.sound c.up.at c.in-Some.p _ e no) ∙ c.up.invariant.1)
