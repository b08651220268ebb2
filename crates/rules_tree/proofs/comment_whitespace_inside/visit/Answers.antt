use Rattle.std.proofs.Common.{◌≡◌, ◌+◌, ◌++◌, [], Some, None, map, length, ◌∙◌, sym, ap, subst, arith, append_assoc}
use Rattle.std.specs.Prelude.{OnOk, encode_utf8_all, if◌then◌else◌}
use Rattle.std.specs.Str.{IsCharBoundary, chars}
use Rattle.std.proofs.lemmas.List.{append-nil, map-append}
use Rattle.lint_config.specs.declared.rule.Rule.TheVariants as R
use Rattle.node_rows.specs.Nodes.{text_of}
use Rattle.node_rows.specs.NumberTrees.{tree_at}
use Rattle.rule_sites.specs.Blocks.{start_byte}
use Rattle.rule_sites.specs.ContextAt.{context_at}
use Rattle.rule_sites.specs.Finding.{site_of}
use Rattle.rules_tree.specs.CommentWhitespaceInside.{findings, in_comment, inner_of, at_opening, at_closing}
use Rattle.rules_tree.proofs.Found.{none_by}
use Rattle.rules_tree.proofs.comment_whitespace_inside.visit.Goals as goal

pub returns-in_default : goal.returns-in_default
unfolding findings context_at
returns-in_default c =
    let w = c.args.work.now in
    let n = c.args.n in
    let h = none_by c.inner_of.result (inner_of (text_of w.nodes n)) c.in_default.not-Some c.inner_of.ensures.value in
    sym (append-nil c.args.sites.now.items) ∙ ap (λ o. c.args.sites.now.items ++ map (site_of w.text R.CommentWhitespaceInside) (in_comment (start_byte (tree_at w.nodes n)) o)) (sym h)

pub returns-then-is_exempt : goal.returns-then-is_exempt
unfolding findings context_at
returns-then-is_exempt c =
    let w = c.args.work.now in
    let n = c.args.n in
    let s = chars c.in-Some.inner.now in
    let start = start_byte (tree_at w.nodes n) in
    sym (append-nil c.args.sites.now.items)
    ∙ (ap (λ v. c.args.sites.now.items ++ map (site_of w.text R.CommentWhitespaceInside) (if v then [] else at_opening start s ++ at_closing start s)) (sym (sym c.is_exempt.ensures ∙ c.if-is_exempt.true))
    ∙ ap (λ o. c.args.sites.now.items ++ map (site_of w.text R.CommentWhitespaceInside) (in_comment start o)) (sym c.in-Some.ensures.value))

pub returns : goal.returns
unfolding findings context_at
returns c =
    let w = c.args.work.now in
    let n = c.args.n in
    let s = chars c.in-Some.inner.now in
    let old = c.args.sites.now.items in
    let at = c.start_of-start.result in
    let start = start_byte (tree_at w.nodes n) in
    let f = site_of w.text R.CommentWhitespaceInside in
    let e = ap (λ z. z ++ map f (at_closing at s)) c.in_ok-visit_opening.ensures
    ∙ (append_assoc old (map f (at_opening at s)) (map f (at_closing at s))
    ∙ (ap (λ z. old ++ z) (sym (map-append f (at_opening at s) (at_closing at s)))
    ∙ (ap (λ k. old ++ map f (at_opening k s ++ at_closing k s)) c.start_of-start.ensures.value
    ∙ (ap (λ v. old ++ map f (if v then [] else at_opening start s ++ at_closing start s)) (sym (sym c.is_exempt.ensures ∙ c.if-is_exempt.false))
    ∙ ap (λ o. old ++ map f (in_comment start o)) (sym c.in-Some.ensures.value))))) in
    subst (λ z. OnOk c.visit_closing.result (c.visit_closing.new.sites.items ≡ z)) e c.visit_closing.ensures

pub visit_opening-requires-clause-end : goal.visit_opening-requires-clause-end
visit_opening-requires-clause-end c = omega (arith, c.in-Some.ensures.end, c.start_of-start.ensures.value)

pub visit_closing-requires-clause-end : goal.visit_closing-requires-clause-end
visit_closing-requires-clause-end c = omega (arith, c.in-Some.ensures.end, c.start_of-start.ensures.value)

pub visit_closing-requires-clause-boundary : goal.visit_closing-requires-clause-boundary
visit_closing-requires-clause-boundary c =
    let w = c.args.work.now in
    let s = c.in-Some.inner.now in
    subst (λ k. IsCharBoundary (encode_utf8_all w.text) (k + 2 + length s)) (sym c.start_of-start.ensures.value) c.in-Some.ensures.boundary
