use Rattle.std.proofs.Common.{◌≡◌, drop, false}
use Rattle.css_text.specs.Forms.{shifted}
use Rattle.css_tree.specs.Mark.{mark_at}
use Rattle.css_parse.proofs.mark.mark_at.Given as goal

abbrev pub invariant-loop-i : goal.invariant-loop-i
invariant-loop-i l = mark_at false l.letters l.text ≡ shifted l.i (mark_at l.hidden l.letters (drop l.i l.text))
