use Rattle.std.proofs.Common.{◌≡◌, drop}
use Rattle.css_tree.specs.Mark.{is_text}
use Rattle.css_parse.proofs.mark.is_text.Given as goal

abbrev pub invariant-loop-i : goal.invariant-loop-i
invariant-loop-i l = is_text l.letters l.text ≡ is_text (drop l.i l.letters) (drop l.i l.text)
