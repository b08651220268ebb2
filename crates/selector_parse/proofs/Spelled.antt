-- Names spelled in any ASCII case.
use Rattle.std.proofs.Common.{◌≡◌, ℕ, Bool, true, false, eqb, List, [], ◌∷◌, refl, ap, ◌∙◌, map, IsTrue, ◌↔◌, arith}
use Rattle.std.specs.Prelude.{◌&&◌}
use Rattle.std.specs.Char.{to_ascii_lowercase}
use Rattle.std.proofs.lemmas.Bool.{eqb-true, and_parts, false≢true}
use Rattle.std.proofs.lemmas.Bool.Decides.{nat_tests}
use Rattle.selector_parse.specs.Names.{spelled}

cons_eq : (a b : ℕ) (s t : List ℕ) → a ≡ b → s ≡ t → a ∷ s ≡ b ∷ t
cons_eq a b s t e f = cc

head_of : (a b : ℕ) (s t : List ℕ) → a ∷ s ≡ b ∷ t → a ≡ b
head_of a b s t e = cc

tail_of : (a b : ℕ) (s t : List ℕ) → a ∷ s ≡ b ∷ t → s ≡ t
tail_of a b s t e = cc

pub spelled_same : (w s : List ℕ) → spelled w s ≡ true → map to_ascii_lowercase s ≡ w
spelled_same [] [] e = refl
spelled_same [] (c ∷ cs) e = absurd (false≢true e)
spelled_same (w ∷ ws) [] e = absurd (false≢true e)
spelled_same (w ∷ ws) (c ∷ cs) e = let p = and_parts (eqb (to_ascii_lowercase c) w) (spelled ws cs) e in cons_eq _ _ _ _ (eqb-true (to_ascii_lowercase c) w p.0) (spelled_same ws cs p.1)

both_true : (a b : Bool) → a ≡ true → b ≡ true → (a && b) ≡ true
both_true a b e f = rw (e, f) refl

eqb_same : (n : ℕ) → eqb n n ≡ true
eqb_same n = grind (arith, nat_tests)

eqb_at : (m n : ℕ) → m ≡ n → eqb m n ≡ true
eqb_at m n e = ap (λ x. eqb x n) e ∙ eqb_same n

same_spelled : (w s : List ℕ) → map to_ascii_lowercase s ≡ w → spelled w s ≡ true
same_spelled [] [] e = refl
same_spelled [] (c ∷ cs) e = cc
same_spelled (w ∷ ws) [] e = cc
same_spelled (w ∷ ws) (c ∷ cs) e =
    let h : to_ascii_lowercase c ≡ w = head_of _ _ _ _ e in
    both_true _ _ (eqb_at _ _ h) (same_spelled ws cs (tail_of _ _ _ _ e))

by_test : (b d : Bool) → (b ≡ true → d ≡ true) → (d ≡ true → b ≡ true) → b ≡ d
by_test true true f g = refl
by_test true false f g = absurd (false≢true (f refl))
by_test false true f g = absurd (false≢true (g refl))
by_test false false f g = refl

pub spelled_from : (b : Bool) (w s : List ℕ) → (IsTrue b ↔ (map to_ascii_lowercase s ≡ map to_ascii_lowercase w)) → b ≡ spelled (map to_ascii_lowercase w) s
spelled_from b w s h = by_test b (spelled (map to_ascii_lowercase w) s) (λ e. same_spelled _ s (h.0 e)) (λ e. h.1 (spelled_same _ s e))
