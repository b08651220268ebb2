-- What the parser does with a piece, as a turn.
use Rattle.std.specs.Prelude.{◌≡◌, List, [], ◌∷◌}
use Rattle.css_tree.specs.Pieces.{Lexeme, Shape}
use Rattle.css_tree.specs.Turn.{Turn, within, gap, alone, ends, closes, opens, closing}
use Rattle.css_parse.specs.declared.turn.Step.{Step}
use Rattle.css_parse.specs.declared.turn.Step.TheVariants.{Await, Answer, Keep, Skip, Comment, End, Close, Open}
use Rattle.css_parse.specs.declared.turn.Frame.{Frame}

abbrev pub below : {A : Type 0} → List A → List A
below [] = []
below (x ∷ xs) = xs

-- the step stands for the turn, where these are awaited and this is the piece
abbrev pub IsStep : Step → Turn → List Lexeme → Lexeme → Type 0
IsStep Await t aw p = t ≡ within (p ∷ aw)
IsStep Answer t aw p = t ≡ within (below aw)
IsStep Keep t aw p = t ≡ within aw
IsStep Skip t aw p = t ≡ gap
IsStep Comment t aw p = t ≡ alone
IsStep End t aw p = t ≡ ends
IsStep Close t aw p = t ≡ closes
IsStep Open t aw p = t ≡ opens

-- a closing piece's step, by its shape, where these are awaited
abbrev pub IsClosing : Step → List Lexeme → Lexeme → Shape → Type 0
IsClosing step [] p s = step ≡ Keep
IsClosing step (q ∷ aw) p s = IsStep step (within (closing aw q s)) (q ∷ aw) p

abbrev pub opening_of : Frame → Lexeme
opening_of f = f.opening
