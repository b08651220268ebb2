use Rattle.std.proofs.Common.{ℕ, ◌+◌, ◌<◌, ◌++◌, All, map, length, ap, sym, ◌∙◌, subst, append_assoc, [], ◌∷◌}
use Rattle.std.proofs.lemmas.List.Elements.{All-tail}
use Rattle.css_text.proofs.LineSteps.{starts_behind, inside}
use Rattle.css_text.proofs.lines.line_starts.Goals as goal

pub loop-at-init : goal.loop-at-init
loop-at-init c =
    let bs = c.args.bytes.now in
    let found = c.into_iter-at-iterator.ensures.into_iter_gives ∙ c.memchr_iter-at-items.ensures.value in (
      subst (All (λ k. k < length bs)) (sym found) (inside bs),
      ap (λ xs. xs ++ map (λ k. k + 1) c.into_iter-at-iterator.result) c.new-starts.ensures.items ∙ (ap (map (λ k. k + 1)) found ∙ sym (starts_behind bs)),
    )

pub loop-at-preserved : goal.loop-at-preserved
loop-at-preserved c =
    let steps = c.in-Some.ensures.steps in
    let rest = c.next.new.self in
    let f = λ (k : ℕ). k + 1 in (
      All-tail (λ k. k < length c.args.bytes.now) c.in-Some.at rest (subst (All (λ k. k < length c.args.bytes.now)) steps c.loop-at.invariant.0),
      ap (λ xs. xs ++ map f rest) c.in_ok-push.ensures.items ∙ (append_assoc c.loop-at.starts.items ((c.in-Some.at + 1) ∷ []) (map f rest)
          ∙ (ap (λ xs. c.loop-at.starts.items ++ map f xs) (sym steps) ∙ c.loop-at.invariant.1)),
    )
