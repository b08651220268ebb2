use Rattle.std.proofs.Common.{◌*◌, ◌≡◌, ◌<◌, get_or, length, refl, ap, sym, ◌∙◌, arith, rules, get_or-set_other}
use Rattle.std.specs.Int.{from_bool}
use Rattle.std.proofs.lemmas.List.{get_or_past}
use Rattle.selector_parse.specs.Wide.{weight}
use Rattle.selector_parse.proofs.Words.{value-zero, value-suc, value-set, value_above, weight-suc, add_step}
use Rattle.selector_parse.proofs.wide.add_words.Goals.{then-i-from-2, else-i-from-2}
use Rattle.selector_parse.proofs.wide.add_words.Goals as goal

pub loop-i-init : goal.loop-i-init
loop-i-init c = (omega (arith, value-zero c.args.from.now), λ k l. refl)

pub returns-then-not-carry : goal.returns-then-not-carry
returns-then-not-carry c =
    let l = c.loop-i in
    let e = ap (λ b. from_bool b * weight l.i) c.if-not-carry.true in
    value_above l.to c.args.to.now c.args.from.now l.i 101 l.invariant.1 (λ k h. get_or_past c.args.from.now k 0 (omega arith)) (omega arith) (omega (arith, l.invariant.0))

pub loop-i-preserved : goal.loop-i-preserved
loop-i-preserved c =
    let l = c.loop-i in
    let within : l.i < length l.to = search rules in
    let same = l.invariant.1 l.i (omega arith) in
    let word : c.if-i-from-2.word ≡ get_or c.args.from.now l.i 0 = elim c.if-i-from-2.branch [
      | then-i-from-2 w ↦ w.word-is
      | else-i-from-2 w ↦ w.word-is ∙ sym (get_or_past c.args.from.now l.i 0 w.if-i-from-2.false)
    ] in (
      rw (value-set l.to l.i _ within, value-suc c.args.to.now l.i, value-suc c.args.from.now l.i, weight-suc, ← same, ← word) (add_step _ _ _ _ _ _ _ _ _ l.invariant.0 c.carrying_add-sum.ensures),
      λ k h. get_or-set_other l.to l.i k _ 0 (λ e. omega arith) ∙ l.invariant.1 k (omega arith),
    )
