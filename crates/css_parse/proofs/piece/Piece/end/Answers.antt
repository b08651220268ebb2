use Rattle.std.proofs.Common.{◌+◌, ap, ◌∙◌}
use Rattle.css_tree.specs.Pieces.{end_of}
use Rattle.css_parse.proofs.Ascii.{text-length}
use Rattle.css_parse.proofs.piece.Piece.end.Goals as goal

pub returns-clause-value : goal.returns-clause-value
returns-clause-value c = ap (λ z. c.self.inside.start + z) (text-length c.self.inside.text.now c.self.invariant.0) ∙ ap end_of c.self.view_is
