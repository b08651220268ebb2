use Rattle.std.proofs.Common.{arith, sym, ◌∙◌}
use Rattle.css_parse.proofs.Marks.{text-same, text-other, text-short, text-end}
use Rattle.css_parse.proofs.mark.is_text.Goals as goal

pub returns-then-text-letters : goal.returns-then-text-letters
returns-then-text-letters c = sym (text-short c.args.letters.now c.args.text.now (λ e. omega (arith, c.if-text-letters.true, e)))

pub loop-i-preserved : goal.loop-i-preserved
loop-i-preserved c = c.loop-i.invariant ∙ text-same c.args.letters.now c.args.text.now c.loop-i.i 0 c.loop-i-test.true (omega (arith, c.loop-i-test.true, c.if-text-letters.false)) (sym c.lower.ensures ∙ c.if-lower-letters.false)

pub returns-then-lower-letters : goal.returns-then-lower-letters
returns-then-lower-letters c = sym (c.loop-i.invariant ∙ text-other c.args.letters.now c.args.text.now c.loop-i.i 0 c.loop-i-test.true (omega (arith, c.loop-i-test.true, c.if-text-letters.false)) (λ e. c.if-lower-letters.true (c.lower.ensures ∙ e)))

pub returns : goal.returns
returns c = sym (c.loop-i.invariant ∙ text-end c.args.letters.now c.args.text.now c.loop-i.i c.loop-i-test.false (omega (arith, c.loop-i-test.false, c.if-text-letters.false)))
