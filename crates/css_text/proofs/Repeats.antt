-- What many calls of a reader answer.
use Rattle.std.proofs.Common.{◌≡◌, ℕ, zero, suc, ◌+◌, List, [], ◌∷◌, ◌++◌, length, map, replicate, Option, Some, None, Ok, Err, refl, ap, ◌∙◌, zero-add, suc-add}
use Rattle.css_text.specs.declared.lexer.Piece.{Piece}
use Rattle.css_text.specs.declared.lexer.LexFault.{LexFault}
use Rattle.css_text.specs.Ahead.{Ahead, answers, last_answer}

no_more : (f : Option LexFault) (n : ℕ) → answers n (record { pieces = []; fault = f }) ≡ replicate n (last_answer f)
no_more None zero = refl
no_more (Some e) zero = refl
no_more None (suc n) = ap (λ x. Ok None ∷ x) (no_more None n)
no_more (Some e) (suc n) = ap (λ x. Err e ∷ x) (no_more (Some e) n)

answers_of : (ps : List Piece) (f : Option LexFault) (n : ℕ) → answers (length ps + n) (record { pieces = ps; fault = f }) ≡ map (λ p. Ok (Some p)) ps ++ replicate n (last_answer f)
answers_of [] f n = ap (λ m. answers m (record { pieces = []; fault = f })) (zero-add n) ∙ no_more f n
answers_of (p ∷ ps) f n = ap (λ m. answers m (record { pieces = p ∷ ps; fault = f })) (suc-add (length ps) n) ∙ ap (λ x. Ok (Some p) ∷ x) (answers_of ps f n)

pub answers_are : (a : Ahead) (n : ℕ) → answers (length a.pieces + n) a ≡ map (λ p. Ok (Some p)) a.pieces ++ replicate n (last_answer a.fault)
answers_are a n = answers_of a.pieces a.fault n
