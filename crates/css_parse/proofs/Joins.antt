-- The texts of runs of pieces, a piece at a time.
use Rattle.std.proofs.Common.{◌≡◌, ◌<◌, List, [], ◌∷◌, length, refl, ◌∙◌, sym, append-nil, arith}
use Rattle.std.specs.Str.{chars}
use Rattle.std.proofs.lemmas.Str.{chars-nil}
use Rattle.css_tree.specs.Pieces.{Lexeme, join}

pub join-nil : join [] ≡ []
unfolding join
join-nil = refl

pub join-one : (p : Lexeme) → join (p ∷ []) ≡ p.text
unfolding join
join-one p = append-nil p.text

pub empty_text : (ps : List Lexeme) → length ps < 1 → chars [] ≡ join ps
empty_text [] l = chars-nil ∙ sym join-nil
empty_text (p ∷ ps) l = absurd (omega arith)
