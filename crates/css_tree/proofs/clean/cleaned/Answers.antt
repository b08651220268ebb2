use Rattle.std.proofs.Common.{sym, ◌∙◌, ap, ◌≡◌, Ok, IfOk, subst, rules}
use Rattle.std.specs.Str.{IsCharBoundary}
use Rattle.std.specs.String.{string_bytes}
use Rattle.css_tree.proofs.Cleaning.{start, init, step, again, at_boundary, finish_none, finish_err}
use Rattle.css_tree.proofs.clean.cleaned.Goals as goal

pub range-requires-clause-end_boundary : goal.range-requires-clause-end_boundary
range-requires-clause-end_boundary c =
    subst (IsCharBoundary c.args.src.now) (sym c.bom_len-done.ensures) (at_boundary _ _ _ _ _ (start c.args.src.now c.utf8.src))

pub pieces-init : goal.pieces-init
pieces-init c = init c.args.src.now _ _ _ c.utf8.src c.bom_len-done.ensures c.over-lexer.ensures (search rules)

pub push_kept-requires-clause-order : goal.push_kept-requires-clause-order
push_kept-requires-clause-order c = (step _ _ _ _ _ c.in-Ok-Some.piece c.pieces.invariant (sym (c.in-Ok-Some.is ∙ ap Ok c.in-Ok-Some.field-0-is) ∙ c.next.ensures.answer)).order

pub push_kept-requires-clause-start : goal.push_kept-requires-clause-start
push_kept-requires-clause-start c = (step _ _ _ _ _ c.in-Ok-Some.piece c.pieces.invariant (sym (c.in-Ok-Some.is ∙ ap Ok c.in-Ok-Some.field-0-is) ∙ c.next.ensures.answer)).low

pub push_kept-requires-clause-end : goal.push_kept-requires-clause-end
push_kept-requires-clause-end c = (step _ _ _ _ _ c.in-Ok-Some.piece c.pieces.invariant (sym (c.in-Ok-Some.is ∙ ap Ok c.in-Ok-Some.field-0-is) ∙ c.next.ensures.answer)).high

pub pieces-preserved : goal.pieces-preserved
pieces-preserved c = again _ _ _ _ _ _ _ c.in-Ok-Some.piece c.pieces.invariant (sym (c.in-Ok-Some.is ∙ ap Ok c.in-Ok-Some.field-0-is) ∙ c.next.ensures.answer) c.in_ok-push_kept-in-Ok-Some.ensures c.next.ensures.rest

pub with_rest-requires : goal.with_rest-requires
with_rest-requires c = at_boundary _ _ _ _ _ c.pieces.invariant

pub with_rest-requires-in-Err : goal.with_rest-requires-in-Err
with_rest-requires-in-Err c = at_boundary _ _ _ _ _ c.pieces.invariant

pub returns-in-Ok-None : goal.returns-in-Ok-None
returns-in-Ok-None c = subst (λ x. IfOk c.with_rest.result (λ t. string_bytes t ≡ x)) (finish_none _ _ _ _ _ c.pieces.invariant (sym c.next.ensures.answer ∙ c.in-Ok-None.is ∙ ap Ok c.in-Ok-None.field-0-is)) c.with_rest.ensures

pub returns-in-Err : goal.returns-in-Err
returns-in-Err c = subst (λ x. IfOk c.with_rest-in-Err.result (λ t. string_bytes t ≡ x)) (finish_err _ _ _ _ _ c.in-Err.field-0 c.pieces.invariant (sym c.next.ensures.answer ∙ c.in-Err.is)) c.with_rest-in-Err.ensures
