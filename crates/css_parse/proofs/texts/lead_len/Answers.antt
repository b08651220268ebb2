use Rattle.std.proofs.Common.{◌≡◌, ap, sym, ◌∙◌, length, subst, arith}
use Rattle.css_tree.specs.Pieces.{is_blank}
use Rattle.css_parse.proofs.Trailing.{IsLead, lead_start, lead_step, lead_found, lead_end}
use Rattle.css_parse.proofs.texts.lead_len.Goals as goal

pub loop-i-init : goal.loop-i-init
loop-i-init c = lead_start is_blank c.args.pieces.now

pub loop-i-preserved : goal.loop-i-preserved
loop-i-preserved c = lead_step is_blank c.args.pieces.now c.loop-i.i c.index-pieces-i.result c.loop-i-test.true c.loop-i.invariant (ap is_blank (sym c.index-pieces-i.is) ∙ sym c.if-not-is_blank.ensures)

pub returns-then-not-is_blank-clause-front : goal.returns-then-not-is_blank-clause-front
returns-then-not-is_blank-clause-front c =
    (lead_found is_blank c.args.pieces.now c.loop-i.i c.index-pieces-i.result c.loop-i-test.true c.loop-i.invariant (ap is_blank (sym c.index-pieces-i.is) ∙ sym c.if-not-is_blank.ensures)).0

pub returns-then-not-is_blank-clause-back : goal.returns-then-not-is_blank-clause-back
returns-then-not-is_blank-clause-back c =
    (lead_found is_blank c.args.pieces.now c.loop-i.i c.index-pieces-i.result c.loop-i-test.true c.loop-i.invariant (ap is_blank (sym c.index-pieces-i.is) ∙ sym c.if-not-is_blank.ensures)).1

pub returns-clause-front : goal.returns-clause-front
returns-clause-front c =
    let e : c.loop-i.i ≡ length c.args.pieces.now = omega (arith, c.loop-i-test.false, c.loop-i.auto.i-end) in
    (lead_end is_blank c.args.pieces.now (subst (λ n. IsLead is_blank c.args.pieces.now n) e c.loop-i.invariant)).0

pub returns-clause-back : goal.returns-clause-back
returns-clause-back c =
    let e : c.loop-i.i ≡ length c.args.pieces.now = omega (arith, c.loop-i-test.false, c.loop-i.auto.i-end) in
    (lead_end is_blank c.args.pieces.now (subst (λ n. IsLead is_blank c.args.pieces.now n) e c.loop-i.invariant)).1
