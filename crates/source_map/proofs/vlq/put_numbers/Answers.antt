use Rattle.std.proofs.Common.{◌≡◌, ◌+◌, ◌<◌, ◌∷◌, ℕ, List, length, drop, get_or, Vec, Global, ◌==◌, false, Err, sym, ap, ◌∙◌, arith}
use Rattle.std.proofs.lemmas.Grind.{common_steps}
use Rattle.source_map.specs.declared.vlq.Number.{Number}
use Rattle.source_map.specs.Answers.{with_sixth}
use Rattle.source_map.proofs.Numbers.{weight_bound}
use Rattle.source_map.proofs.SoFar.{taken, so_far_low, so_far_last, so_far_stop, so_far_whole, so_far_cut, so_far_none, so_far_same}
use Rattle.source_map.proofs.vlq.put_numbers.Goals as goal
use Rattle.source_map.proofs.vlq.put_numbers.Goals.{then-digit-lt32+in-Ok, else-digit-lt32}

front : (slot : List ℕ) (i : ℕ) → i < length slot → drop i slot ≡ get_or slot i 0 ∷ drop (i + 1) slot
front slot i h = grind (arith, common_steps)

unlike : (k : ℕ) → ¬ (k ≡ 0) → (k == 0) ≡ false
unlike k h = grind (arith, common_steps)

sixth : (v u : Vec ℕ Global) (fs : List ℕ) (n : Number) (m : Number) → v ≡ u → u.items ≡ with_sixth fs n.value → n ≡ m → v.items ≡ with_sixth fs m.value
sixth v u fs n m e h i = ap (λ x. x.items) e ∙ h ∙ ap (λ x. with_sixth fs x.value) i

pub loop-i-init : goal.loop-i-init
loop-i-init c = so_far_none _ _ _ _ c.clear.ensures.items c.new-number.ensures

pub returns-in-None : goal.returns-in-None
returns-in-None c = so_far_stop _ _ _ _ _ _ c.loop-i.invariant (front _ _ c.loop-i-test.true) (sym c.digit_behind.ensures.value ∙ c.in-None.is)

pub with-whole-requires-clause-weight : goal.with-whole-requires-clause-weight
with-whole-requires-clause-weight c = let t = taken _ _ _ (sym c.digit_behind.ensures.value ∙ c.in-Some.is) c.loop-i.invariant.digits in
    let b = weight_bound c.loop-i.number.digits t.1 in let w = c.loop-i.invariant.weight in omega arith

pub with-number-requires-clause-weight : goal.with-number-requires-clause-weight
with-number-requires-clause-weight c = let t = taken _ _ _ (sym c.digit_behind.ensures.value ∙ c.in-Some.is) c.loop-i.invariant.digits in
    let b = weight_bound c.loop-i.number.digits t.1 in let w = c.loop-i.invariant.weight in omega arith

pub loop-i-preserved : goal.loop-i-preserved
loop-i-preserved c = elim c.if-digit-lt32.branch [
  | then-digit-lt32+in-Ok w ↦ so_far_same _ _ _ _ _ _ _
      (so_far_last _ _ _ _ _ _ _ c.loop-i.invariant (front _ _ c.loop-i-test.true) (sym c.digit_behind.ensures.value ∙ c.in-Some.is) w.if-digit-lt32.true)
      (sixth _ _ c.loop-i.fields.items _ _ w.fields-is w.in-Ok.ensures w.with-whole.ensures) (w.number-is ∙ w.new-number-then-digit-lt32.ensures)
  | else-digit-lt32 w ↦ so_far_same _ _ _ _ _ _ _
      (so_far_low _ _ _ _ _ _ _ c.loop-i.invariant (front _ _ c.loop-i-test.true) (sym c.digit_behind.ensures.value ∙ c.in-Some.is) (omega (arith, c.in-Some.ensures)) w.if-digit-lt32.false)
      (ap (λ v. v.items) w.fields-is) (w.number-is ∙ w.with-number.ensures)
]

pub returns-then-number-eq0 : goal.returns-then-number-eq0
returns-then-number-eq0 c = so_far_whole _ _ _ _ _ c.loop-i.invariant (omega arith) c.if-number-eq0.true

pub returns-else-number-eq0 : goal.returns-else-number-eq0
returns-else-number-eq0 c = so_far_cut _ _ _ _ _ c.loop-i.invariant (omega arith) (unlike c.loop-i.number.digits c.if-number-eq0.false) ∙ ap (λ i. Err (c.args.at + i)) (omega arith)
