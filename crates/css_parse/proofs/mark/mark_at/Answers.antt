use Rattle.std.proofs.Common.{◌∙◌, sym}
use Rattle.css_parse.proofs.Marks.{mark-here, mark-later, mark-start, mark-end}
use Rattle.css_parse.proofs.mark.mark_at.Goals as goal

pub loop-i-init : goal.loop-i-init
loop-i-init c = mark-start c.args.letters.now c.args.text.now

pub loop-i-preserved : goal.loop-i-preserved
loop-i-preserved c = c.loop-i.invariant ∙ mark-later c.loop-i.hidden c.hides-hidden.result c.args.letters.now c.args.text.now c.loop-i.i 0 c.loop-i-test.true (sym c.if-begins_mark.ensures) (sym c.hides-hidden.ensures)

pub returns-then-begins_mark : goal.returns-then-begins_mark
returns-then-begins_mark c = sym (c.loop-i.invariant ∙ mark-here c.loop-i.hidden c.args.letters.now c.args.text.now c.loop-i.i 0 c.loop-i-test.true (sym c.if-begins_mark.ensures))

pub returns : goal.returns
returns c = sym (c.loop-i.invariant ∙ mark-end c.loop-i.hidden c.args.letters.now c.args.text.now c.loop-i.i c.loop-i-test.false)
