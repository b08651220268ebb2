-- An Element's * is seen on its bytes.
use Rattle.std.proofs.Common.{◌≡◌, ℕ, suc, ◌-◌, ◌≤◌, Bool, true, false, eqb, List, [], ◌∷◌, ◌++◌, length, drop, refl, ap, sym, ◌∙◌, inl, inr, arith}
use Rattle.std.specs.Prelude.{◌&&◌, ◌||◌}
use Rattle.std.specs.Str.{chars, IsUtf8}
use Rattle.std.specs.Cmp.Lexicographic.{pointwise}
use Rattle.std.specs.List.{ends_with}
use lib.Utf8.{encodes}
use Rattle.std.proofs.lemmas.Bool.{ne_eqb}
use Rattle.std.proofs.lemmas.Str.{encodes-chars}
use Rattle.css_text.proofs.Bytes.{AllHigh, low_or_high, front_low, front_high}
use Rattle.selector_parse.specs.Forms.{is_empty}
use Rattle.selector_parse.specs.Worth.{names_all}

-- the text ends with |*, where it stands after the character b
ends_star : ℕ → List ℕ → Bool
ends_star b [] = false
ends_star b (c ∷ cs) = (eqb 124 b && (eqb 42 c && is_empty cs)) || ends_star c cs

no_end : (a b : Bool) (x : Bool) → x ≡ ((a && (b && false)) || x)
no_end true true x = refl
no_end true false x = refl
no_end false b x = refl

none_end : (a : Bool) → (a && false) ≡ false
none_end true = refl
none_end false = refl

one_end : (a b : Bool) → (a && (b && true)) ≡ ((a && (b && true)) || false)
one_end true true = refl
one_end true false = refl
one_end false b = refl

shorter : (c d e : ℕ) (es : List ℕ) → drop (length (c ∷ d ∷ e ∷ es) - 2) (c ∷ d ∷ e ∷ es) ≡ drop (length (d ∷ e ∷ es) - 2) (d ∷ e ∷ es)
shorter c d e es =
    let m : length (c ∷ d ∷ e ∷ es) - 2 ≡ suc (length es) = omega arith in
    let n : length (d ∷ e ∷ es) - 2 ≡ length es = omega arith in
    ap (λ k. drop k (c ∷ d ∷ e ∷ es)) m ∙ sym (ap (λ k. drop k (d ∷ e ∷ es)) n)

end_is : (c : ℕ) (cs : List ℕ) → ends_with eqb (c ∷ cs) (124 ∷ 42 ∷ []) ≡ ends_star c cs
unfolding ends_star
end_is c [] = none_end (eqb 124 c)
end_is c (d ∷ []) = one_end (eqb 124 c) (eqb 42 d)
end_is c (d ∷ e ∷ es) = ap (λ xs. pointwise eqb (124 ∷ 42 ∷ []) xs) (shorter c d e es) ∙ end_is d (e ∷ es) ∙ no_end (eqb 124 c) (eqb 42 d) (ends_star d (e ∷ es))

empty_bytes : (cs : List ℕ) → is_empty (encodes cs) ≡ is_empty cs
empty_bytes [] = refl
empty_bytes (c ∷ cs) = elim (low_or_high c) [
  | inl l ↦ ap is_empty (front_low c cs l)
  | inr h ↦ ap is_empty (front_high c cs h)
]

not_star : (a : Bool) (c : ℕ) (x y : Bool) → 128 ≤ c → ((a && (eqb 42 c && x)) || y) ≡ y
not_star true c x y h = ap (λ b. (b && x) || y) (ne_eqb 42 c (λ e. omega arith))
not_star false c x y h = refl

not_bar : (c : ℕ) → 128 ≤ c → eqb 124 c ≡ false
not_bar c h = ne_eqb 124 c (λ e. omega arith)

-- over the rest of a character past ASCII
over : (x : ℕ) (xs bs : List ℕ) (y : Bool) → 128 ≤ x → AllHigh xs → ((z : ℕ) → 128 ≤ z → ends_star z bs ≡ y) → ends_star x (xs ++ bs) ≡ y
unfolding ends_star
over x [] bs y h a f = f x h
over x (z ∷ zs) bs y h a f = not_star (eqb 124 x) z (is_empty (zs ++ bs)) (ends_star z (zs ++ bs)) a.0 ∙ over z zs bs y a.0 a.1 f

star_bytes : (cs : List ℕ) (b d : ℕ) → eqb 124 b ≡ eqb 124 d → ends_star b (encodes cs) ≡ ends_star d cs
unfolding ends_star
star_bytes [] b d e = refl
star_bytes (c ∷ cs) b d e = elim (low_or_high c) [
  | inl l ↦ ap (ends_star b) (front_low c cs l) ∙ ap (λ a. (a && (eqb 42 c && is_empty (encodes cs))) || ends_star c (encodes cs)) e
      ∙ ap (λ x. (eqb 124 d && (eqb 42 c && x)) || ends_star c (encodes cs)) (empty_bytes cs) ∙ ap (λ x. (eqb 124 d && (eqb 42 c && is_empty cs)) || x) (star_bytes cs c c refl)
  | inr h ↦ ap (ends_star b) (front_high c cs h) ∙ not_star (eqb 124 b) h.head (is_empty (h.tail ++ encodes cs)) (ends_star h.head (h.tail ++ encodes cs)) h.head_high
      ∙ over h.head h.tail (encodes cs) (ends_star c cs) h.head_high h.tail_high (λ z l. star_bytes cs z c (not_bar z l ∙ sym (not_bar c h.past)))
      ∙ sym (not_star (eqb 124 d) c (is_empty cs) (ends_star c cs) h.past)
]

all_bytes : (cs : List ℕ) → names_all (encodes cs) ≡ names_all cs
unfolding names_all
all_bytes [] = refl
all_bytes (c ∷ cs) = elim (low_or_high c) [
  | inl l ↦ ap names_all (front_low c cs l) ∙ ap (λ x. (eqb c 42 && x) || ends_with eqb (c ∷ encodes cs) (124 ∷ 42 ∷ [])) (empty_bytes cs)
      ∙ ap (λ x. (eqb c 42 && is_empty cs) || x) (end_is c (encodes cs) ∙ star_bytes cs c c refl ∙ sym (end_is c cs))
  | inr h ↦ ap names_all (front_high c cs h) ∙ ap (λ x. (x && is_empty (h.tail ++ encodes cs)) || ends_with eqb (h.head ∷ (h.tail ++ encodes cs)) (124 ∷ 42 ∷ [])) (ne_eqb h.head 42 (λ e. omega arith))
      ∙ end_is h.head (h.tail ++ encodes cs) ∙ over h.head h.tail (encodes cs) (ends_star c cs) h.head_high h.tail_high (λ z l. star_bytes cs z c (not_bar z l ∙ sym (not_bar c h.past)))
      ∙ sym (end_is c cs) ∙ sym (ap (λ x. (x && is_empty cs) || ends_with eqb (c ∷ cs) (124 ∷ 42 ∷ [])) (ne_eqb c 42 (λ e. omega arith)))
]

pub all_chars : (bs : List ℕ) → IsUtf8 bs → names_all bs ≡ names_all (chars bs)
all_chars bs u = sym (ap names_all (encodes-chars bs u)) ∙ all_bytes (chars bs)
