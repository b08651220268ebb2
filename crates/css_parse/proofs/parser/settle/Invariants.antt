use Rattle.css_parse.specs.Standing.{sheet}
use Rattle.css_parse.proofs.Giving.{Settling}
use Rattle.css_parse.proofs.parser.settle.Given as goal

abbrev pub invariant-loop-piece : goal.invariant-loop-piece
invariant-loop-piece l = Settling (sheet l.texts) l.number l.fn.nodes l.fn.gap l.blanks l.piece-index l.nodes l.gap
