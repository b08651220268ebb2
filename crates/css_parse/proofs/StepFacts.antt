-- What a step says of the statement in progress and the piece.
use Rattle.std.proofs.Common.{◌≡◌, ◌<◌, List, [], ◌∷◌, length, refl, subst, arith}
use Rattle.css_tree.specs.Pieces.{Lexeme, Shape, shape}
use Rattle.css_tree.specs.Turn.{gap, alone, ends, turn}
use Rattle.css_tree.proofs.Runs.{Told, told}
use Rattle.css_parse.specs.declared.turn.Step.{Step}
use Rattle.css_parse.specs.declared.turn.Step.TheVariants as StepOf
use Rattle.css_parse.specs.Steps.{IsStep}
use Rattle.css_parse.specs.Machine.{Machine, IsReady}

some-length : (r : List Lexeme) → (r ≡ [] → ⊥) → 0 < length r
some-length [] n = absurd (n refl)
some-length (q ∷ r) n = omega arith

pub end_begun : (s : Machine) (p : Lexeme) (st : Step) → IsReady s → IsStep st (turn s.run s.awaited p) s.awaited p → st ≡ StepOf.End → 0 < length s.run
end_begun s p st h i e =
    let t : turn s.run s.awaited p ≡ ends = subst (λ z. IsStep z (turn s.run s.awaited p) s.awaited p) e i in
    some-length s.run (subst (λ z. Told z s.run s.awaited (shape p)) t (told s.run s.awaited p h.idle)).2

pub comment_shape : (s : Machine) (p : Lexeme) (st : Step) → IsReady s → IsStep st (turn s.run s.awaited p) s.awaited p → st ≡ StepOf.Comment → shape p ≡ Shape.comment
comment_shape s p st h i e =
    let t : turn s.run s.awaited p ≡ alone = subst (λ z. IsStep z (turn s.run s.awaited p) s.awaited p) e i in
    (subst (λ z. Told z s.run s.awaited (shape p)) t (told s.run s.awaited p h.idle)).1

pub comment_idle : (s : Machine) (p : Lexeme) (st : Step) → IsReady s → IsStep st (turn s.run s.awaited p) s.awaited p → st ≡ StepOf.Comment → s.run ≡ []
comment_idle s p st h i e =
    let t : turn s.run s.awaited p ≡ alone = subst (λ z. IsStep z (turn s.run s.awaited p) s.awaited p) e i in
    (subst (λ z. Told z s.run s.awaited (shape p)) t (told s.run s.awaited p h.idle)).0

pub skip_idle : (s : Machine) (p : Lexeme) (st : Step) → IsReady s → IsStep st (turn s.run s.awaited p) s.awaited p → st ≡ StepOf.Skip → s.run ≡ []
skip_idle s p st h i e =
    let t : turn s.run s.awaited p ≡ gap = subst (λ z. IsStep z (turn s.run s.awaited p) s.awaited p) e i in
    (subst (λ z. Told z s.run s.awaited (shape p)) t (told s.run s.awaited p h.idle)).0
