-- A list cut behind the first of its items that pass a test.
use Rattle.std.proofs.Common.{◌≡◌, ℕ, ◌<◌, ◌≤◌, Bool, List, [], ◌∷◌, ◌++◌, length, refl, ap, ◌∙◌, sym, subst, inl, inr, arith, length-append}
use Rattle.std.proofs.lemmas.Bool.{cases_Bool, true≢false}
use Rattle.css_tree.specs.Classes.{Each, BeginsWithout, EndsWithout}

pub record Split (test : ℕ → Bool) (q : List ℕ) : Type 0 where
  pub front : List ℕ
  pub back : List ℕ
  pub all : q ≡ front ++ back
  pub front_class : Each test front
  pub back_begins : BeginsWithout test back

pub split : (test : ℕ → Bool) (q : List ℕ) → Split test q
split test [] = record { front = []; back = []; all = refl; front_class = tt; back_begins = tt }
split test (c ∷ q) = elim (cases_Bool (test c)) [
  | inl h ↦ let x = split test q in record { front = c ∷ x.front; back = x.back; all = ap (λ z. c ∷ z) x.all; front_class = (h, x.front_class); back_begins = x.back_begins }
  | inr h ↦ record { front = []; back = c ∷ q; all = refl; front_class = tt; back_begins = h }
]

pub each-back : (test : ℕ → Bool) (xs ys : List ℕ) → Each test (xs ++ ys) → Each test ys
each-back test [] ys h = h
each-back test (x ∷ xs) ys h = each-back test xs ys h.1

pub each-front : (test : ℕ → Bool) (xs ys : List ℕ) → Each test (xs ++ ys) → Each test xs
each-front test [] ys h = tt
each-front test (x ∷ xs) ys h = (h.0, each-front test xs ys h.1)

pub ends-back : (test : ℕ → Bool) (xs ys : List ℕ) → EndsWithout test (xs ++ ys) → EndsWithout test ys
ends-back test [] ys h = h
ends-back test (x ∷ []) [] h = tt
ends-back test (x ∷ []) (y ∷ ys) h = h
ends-back test (x ∷ z ∷ xs) ys h = ends-back test (z ∷ xs) ys h

-- a list that ends without such an item isn't one of them alone
pub not-all : (test : ℕ → Bool) (c : ℕ) (t : List ℕ) → Each test (c ∷ t) → EndsWithout test (c ∷ t) → ⊥
not-all test c [] h e = true≢false (sym h.0 ∙ e)
not-all test c (d ∷ t) h e = not-all test d t h.1 e

-- what stands behind all of them
pub behind-all : (test : ℕ → Bool) (c : ℕ) (t back : List ℕ) → Each test (c ∷ t) → EndsWithout test (c ∷ (t ++ back)) → 0 < length back
behind-all test c t [] h e = absurd (not-all test c t h (subst (λ z. EndsWithout test (c ∷ z)) (nil t) e))
  where
    nil : (t : List ℕ) → t ++ [] ≡ t
    nil [] = refl
    nil (d ∷ t) = ap (λ z. d ∷ z) (nil t)
behind-all test c t (d ∷ back) h e = omega arith

pub begins-behind : (test : ℕ → Bool) (back rest : List ℕ) → 0 < length back → BeginsWithout test back → BeginsWithout test (back ++ rest)
begins-behind test [] rest l b = absurd (omega arith)
begins-behind test (c ∷ back) rest l b = b

pub shorter : (xs ys zs : List ℕ) → xs ≡ ys ++ zs → length zs ≤ length xs
shorter xs ys zs e = omega (arith, ap length e, length-append ys zs)
