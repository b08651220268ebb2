use Rattle.std.proofs.Common.{ap, ◌∙◌}
use Rattle.css_tree.specs.Turn.{begins_dashes}
use Rattle.css_parse.proofs.Ascii.{dashes-same}
use Rattle.css_parse.proofs.piece.Piece.begins_dashes.Goals as goal

pub returns : goal.returns
returns c = c.begins_dashes.ensures ∙ (ap begins_dashes c.as_bytes.ensures.value ∙ (dashes-same c.self.inside.text.now c.self.invariant.0 ∙ ap (λ p. begins_dashes p.text) c.self.view_is))
