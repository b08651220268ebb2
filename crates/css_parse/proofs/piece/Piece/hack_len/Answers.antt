use Rattle.std.proofs.Common.{ap, ◌∙◌, length}
use Rattle.css_tree.proofs.Split.{hack}
use Rattle.css_parse.proofs.Ascii.{hack-length}
use Rattle.css_parse.proofs.piece.Piece.hack_len.Goals as goal

pub returns : goal.returns
returns c = c.hack_len.ensures ∙ (ap (λ z. length (hack z)) c.as_bytes.ensures.value ∙ (hack-length c.self.inside.text.now c.self.invariant.0 ∙ ap (λ p. length (hack p.text)) c.self.view_is))
