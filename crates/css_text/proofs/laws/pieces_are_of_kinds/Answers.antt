use Rattle.css_text.specs.Ahead.{without_bom}
use Rattle.css_text.proofs.PieceKinds.{cut_kinds}
use Rattle.css_text.proofs.laws.pieces_are_of_kinds.Goals as goal

pub returns : goal.returns
returns c = λ s. cut_kinds (without_bom s)
