use Rattle.std.proofs.Common.{refl, ◌∙◌}
use Rattle.selector_parse.specs.Wide.{weight, value}
use Rattle.selector_parse.proofs.Words.{value-zero, value-suc, value-lt, cmp_same, cmp_step}
use Rattle.selector_parse.proofs.wide.cmp_words.Goals.{then-x-i, else-x-i}
use Rattle.selector_parse.proofs.wide.cmp_words.Goals as goal

pub loop-i-init : goal.loop-i-init
loop-i-init c = rw (value-zero c.args.x.now, value-zero c.args.y.now) refl

pub loop-i-preserved : goal.loop-i-preserved
loop-i-preserved c =
    let x = c.args.x.now in
    let y = c.args.y.now in
    let i = c.loop-i.i in
    rw (value-suc x i, value-suc y i) (elim c.if-x-i.branch [
      | then-x-i w ↦ w.order-is ∙ w.cmp-order.ensures ∙ cmp_step _ _ _ _ (weight i) (value-lt x i c.fits-x) (value-lt y i c.fits-y) w.if-x-i.true
      | else-x-i w ↦ w.order-is ∙ c.loop-i.invariant ∙ cmp_same (value x i) (value y i) _ _ (weight i) w.if-x-i.false
    ])
