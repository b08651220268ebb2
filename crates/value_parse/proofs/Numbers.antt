-- The forms of a number at an index.
use Rattle.std.proofs.Common.{◌≡◌, ℕ, ◌+◌, ◌-◌, ◌≤◌, true, false, cond, eqb, List, length, get_or, drop, refl, ap, sym, ◌∙◌, lit<, eq-eqb, arith}
use Rattle.std.specs.Prelude.{◌&&◌, ◌||◌}
use Rattle.std.specs.List.{list_all}
use Rattle.std.specs.Char.{is_ascii_alphabetic}
use Rattle.std.proofs.lemmas.List.{drop-drop}
use Rattle.std.proofs.lemmas.Bool.{ne_eqb}
use Rattle.std.proofs.lemmas.Bool.Decides.{nat_tests}
use Rattle.value_parse.specs.NumberLengths.{digits_len, sign_len, with_digits, fraction_len, exponent_len, decimal_len, number_len, is_unit}
use Rattle.css_text.proofs.Steps.{begins-drop}

pub sign_len-at : (s : List ℕ) (i : ℕ) → sign_len (drop i s) ≡ cond (eqb (get_or s i 0) 43 || eqb (get_or s i 0) 45) 1 0
unfolding sign_len
sign_len-at s i = rw (begins-drop 43 s i (lit< tt), begins-drop 45 s i (lit< tt)) refl

back : (at from : ℕ) → at ≤ from → at + (from - at) ≡ from
back at from h = omega arith

pub with_digits-at : (s : List ℕ) (at from : ℕ) → at ≤ from → with_digits (from - at) (drop at s) ≡ cond (eqb (digits_len (drop from s)) 0) 0 ((from - at) + digits_len (drop from s))
unfolding with_digits
with_digits-at s at from h = let e : drop (from - at) (drop at s) ≡ drop from s = drop-drop (from - at) at s ∙ ap (λ k. drop k s) (back at from h) in rw e refl

one : (i : ℕ) → i + 1 - i ≡ 1
one i = omega arith

pub fraction_len-at : (s : List ℕ) (i : ℕ) → fraction_len (drop i s) ≡ cond (eqb (get_or s i 0) 46) (with_digits (i + 1 - i) (drop i s)) 0
unfolding fraction_len
fraction_len-at s i = rw (begins-drop 46 s i (lit< tt), one i) refl

signed : (i n : ℕ) → i + 1 + n - i ≡ 1 + n
signed i n = omega arith

pub exponent_len-at : (s : List ℕ) (i : ℕ) → exponent_len (drop i s)
    ≡ cond (eqb (get_or s i 0) 101 || eqb (get_or s i 0) 69) (with_digits (i + 1 + sign_len (drop (i + 1) s) - i) (drop i s)) 0
unfolding exponent_len
exponent_len-at s i = rw (begins-drop 101 s i (lit< tt), begins-drop 69 s i (lit< tt), drop-drop 1 i s, signed i (sign_len (drop (i + 1) s))) refl

pub decimal_len-at : (s : List ℕ) (i : ℕ) → decimal_len (drop i s) ≡ digits_len (drop i s) + fraction_len (drop (i + digits_len (drop i s)) s)
unfolding decimal_len
decimal_len-at s i = rw (drop-drop (digits_len (drop i s)) i s) refl

pub number_len-start : (s : List ℕ) → number_len s ≡ cond (eqb (sign_len s + decimal_len (drop (sign_len s) s)) (sign_len s)) 0
    (sign_len s + decimal_len (drop (sign_len s) s) + exponent_len (drop (sign_len s + decimal_len (drop (sign_len s) s)) s))
unfolding number_len
number_len-start s = refl

pub is_unit-bytes : (s : List ℕ) → is_unit s ≡ ((eqb (length s) 1 && eqb (get_or s 0 0) 37) || list_all is_ascii_alphabetic s)
unfolding is_unit
is_unit-bytes s = rw (begins-drop 37 s 0 (lit< tt)) refl

-- the parts of a number, by the places where they end
pub number_by : (s : List ℕ) (start whole end n : ℕ) → start ≡ sign_len s → whole ≡ start + digits_len (drop start s) → end ≡ whole + fraction_len (drop whole s)
    → (end ≡ start → ⊥) → n ≡ end + exponent_len (drop end s) → n ≡ number_len s
unfolding number_len
number_by s start whole end n a b c d e =
    let f : end ≡ start + decimal_len (drop start s) = omega (arith, decimal_len-at s start, c, b, ap (λ k. fraction_len (drop k s)) b) in
    let g : eqb (sign_len s + decimal_len (drop (sign_len s) s)) (sign_len s) ≡ false = ap (λ k. eqb (k + decimal_len (drop k s)) k) (sym a) ∙ ap (λ k. eqb k start) (sym f) ∙ ne_eqb end start d in
    e ∙ ap (λ k. k + exponent_len (drop k s)) (f ∙ ap (λ k. k + decimal_len (drop k s)) a) ∙ sym (rw g refl)

pub no_number : (s : List ℕ) (start whole end : ℕ) → start ≡ sign_len s → whole ≡ start + digits_len (drop start s) → end ≡ whole + fraction_len (drop whole s)
    → end ≡ start → 0 ≡ number_len s
unfolding number_len
no_number s start whole end a b c d =
    let f : end ≡ start + decimal_len (drop start s) = omega (arith, decimal_len-at s start, c, b, ap (λ k. fraction_len (drop k s)) b) in
    let g : eqb (sign_len s + decimal_len (drop (sign_len s) s)) (sign_len s) ≡ true = ap (λ k. eqb (k + decimal_len (drop k s)) k) (sym a) ∙ ap (λ k. eqb k start) (sym f) ∙ eq-eqb end start d in
    sym (rw g refl)

pub ruleset number_steps = (is_unit-bytes, sign_len-at, with_digits-at, fraction_len-at, exponent_len-at, decimal_len-at, number_len-start, nat_tests)
