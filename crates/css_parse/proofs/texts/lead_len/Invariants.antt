use Rattle.css_tree.specs.Pieces.{is_blank}
use Rattle.css_parse.proofs.Trailing.{IsLead}
use Rattle.css_parse.proofs.texts.lead_len.Given as goal

abbrev pub invariant-loop-i : goal.invariant-loop-i
invariant-loop-i l = IsLead is_blank l.pieces l.i
