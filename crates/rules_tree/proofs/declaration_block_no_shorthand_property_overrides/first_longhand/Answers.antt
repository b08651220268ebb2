use Rattle.std.proofs.Common.{◌≡◌, ℕ, ◌<◌, ◌≤◌, Some, None, ◌∙◌, sym, ap, subst, arith}
use Rattle.std.specs.Prelude.{MatchOption, if◌then◌else◌}
use Rattle.std.specs.Str.{chars}
use Rattle.node_rows.specs.Nodes.{text_of}
use Rattle.rules_tree.specs.Properties.{prop_of}
use Rattle.rules_tree.proofs.Finds.{only_before, lt_true, lt_false}
use Rattle.rules_tree.proofs.Longhands.{first_there, some_found}
use Rattle.rules_tree.proofs.Uses.{prop_at}
use Rattle.rules_tree.proofs.declaration_block_no_shorthand_property_overrides.first_longhand.Goals as goal

pub returns-in-None : goal.returns-in-None
returns-in-None c =
    let w = c.args.work.now in
    sym (first_there w c.facts.ensures c.requires.fresh c.args.n c.requires.given (chars c.args.shorthand.now) c.longhands_of.result.now c.longhands_of.ensures c.first_of.result c.first_of.ensures
    ∙ ap (λ o. prop_at w.nodes (only_before c.args.n o)) c.in-None.is)

pub returns-then-first-number : goal.returns-then-first-number
returns-then-first-number c =
    let w = c.args.work.now in
    let k = c.in-Some.first in
    let b : c.args.n ≤ k = omega (arith, c.number.ensures) in
    sym (first_there w c.facts.ensures c.requires.fresh c.args.n c.requires.given (chars c.args.shorthand.now) c.longhands_of.result.now c.longhands_of.ensures c.first_of.result c.first_of.ensures
    ∙ (ap (λ o. prop_at w.nodes (only_before c.args.n o)) c.in-Some.is ∙ ap (λ v. prop_at w.nodes (if v then Some k else None)) (lt_false k c.args.n b)))

pub returns-else-first-number : goal.returns-else-first-number
returns-else-first-number c =
    let w = c.args.work.now in
    let k = c.in-Some.first in
    let b : k < c.args.n = omega (arith, c.number.ensures) in
    some_found c.prop_of.result (prop_of (text_of w.nodes k)) _
    (first_there w c.facts.ensures c.requires.fresh c.args.n c.requires.given (chars c.args.shorthand.now) c.longhands_of.result.now c.longhands_of.ensures c.first_of.result c.first_of.ensures
    ∙ (ap (λ o. prop_at w.nodes (only_before c.args.n o)) c.in-Some.is ∙ ap (λ v. prop_at w.nodes (if v then Some k else None)) (lt_true k c.args.n b)))
    (subst (λ t. MatchOption c.prop_of.result (prop_of t ≡ None) (λ s. prop_of t ≡ Some (chars s.now))) (c.text_of.ensures ∙ ap (text_of w.nodes) c.new.ensures) c.prop_of.ensures)
