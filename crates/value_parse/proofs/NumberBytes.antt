-- A number and its unit are ASCII, so a word's bytes have the same as its characters.
use Rattle.std.proofs.Common.{◌≡◌, ℕ, suc, ◌+◌, ◌-◌, ◌<◌, Bool, true, false, cond, eqb, List, [], ◌∷◌, ◌++◌, length, take, drop, Option, Some, None, refl, ap, sym, ◌∙◌, subst, one-add, lit<, arith}
use Rattle.std.specs.Prelude.{◌&&◌, ◌||◌, not}
use Rattle.std.specs.Char.{is_ascii_digit, is_ascii_alphabetic}
use Rattle.std.specs.List.{list_all}
use Rattle.std.specs.Str.{chars, IsUtf8}
use lib.Utf8.{encodes}
use Rattle.std.proofs.lemmas.Bool.{ne_eqb, eqb-true, false≢true, and_parts}
use Rattle.std.proofs.lemmas.Bool.Decides.{nat_tests}
use Rattle.std.proofs.lemmas.List.{take-append-drop, take_all, length-drop}
use Rattle.std.proofs.lemmas.Str.{encodes-chars}
use Rattle.css_text.specs.declared.lexer.Span.{Span}
use Rattle.css_text.specs.Forms.{begins}
use Rattle.value_parse.specs.Number.{span}
use Rattle.value_parse.specs.NumberLengths.{digits_len, sign_len, with_digits, fraction_len, exponent_len, decimal_len, number_len, is_unit, number_and_unit}
use Rattle.css_text.proofs.BlockSteps.{take_split}
use Rattle.css_text.proofs.Transport.{AllLow}
use Rattle.css_text.proofs.AsciiTests.{encodes-low, low_same}

-- the first n characters are ASCII
abbrev Low : ℕ → List ℕ → Type 0
Low n s = AllLow (take n s)

low-append : (a b : List ℕ) → AllLow a → AllLow b → AllLow (a ++ b)
low-append [] b x y = y
low-append (c ∷ a) b x y = (x.0, low-append a b x.1 y)

more : (a b : ℕ) (s : List ℕ) → Low a s → Low b (drop a s) → Low (a + b) s
more a b s x y = subst AllLow (sym (take_split s a b)) (low-append (take a s) (take b (drop a s)) x y)

either : (b : Bool) (m n : ℕ) (s : List ℕ) → (b ≡ true → Low m s) → (b ≡ false → Low n s) → Low (cond b m n) s
either true m n s x y = x refl
either false m n s x y = y refl

first : (c : ℕ) (s : List ℕ) → c < 128 → begins c s ≡ true → Low 1 s
first c [] l e = absurd (false≢true e)
first c (d ∷ s) l e = let f : d ≡ c = eqb-true d c e in (omega arith, tt)

first_of_two : (b c : ℕ) (s : List ℕ) → b < 128 → c < 128 → (begins b s || begins c s) ≡ true → Low 1 s
first_of_two b c s l m e = go (begins b s) refl e
  where
    go : (x : Bool) → begins b s ≡ x → (x || begins c s) ≡ true → Low 1 s
    go true f e = first b s l f
    go false f e = first c s m e

digit_low : (c : ℕ) → is_ascii_digit c ≡ true → c < 128
digit_low c e = grind (arith, nat_tests)

letter_low : (c : ℕ) → is_ascii_alphabetic c ≡ true → c < 128
letter_low c e = grind (arith, nat_tests)

digits_low : (s : List ℕ) → Low (digits_len s) s
digits_low [] = tt
digits_low (c ∷ s) = either (is_ascii_digit c) (1 + digits_len s) 0 (c ∷ s) (λ e. subst (λ k. Low k (c ∷ s)) (sym (one-add (digits_len s))) (digit_low c e, digits_low s)) (λ e. tt)

sign_low : (s : List ℕ) → Low (sign_len s) s
unfolding sign_len
sign_low s = either (begins 43 s || begins 45 s) 1 0 s (first_of_two 43 45 s (lit< tt) (lit< tt)) (λ e. tt)

with_digits_low : (k : ℕ) (s : List ℕ) → Low k s → Low (with_digits k s) s
unfolding with_digits
with_digits_low k s l = either (eqb (digits_len (drop k s)) 0) 0 (k + digits_len (drop k s)) s (λ e. tt) (λ e. more k (digits_len (drop k s)) s l (digits_low (drop k s)))

fraction_low : (s : List ℕ) → Low (fraction_len s) s
unfolding fraction_len
fraction_low s = either (begins 46 s) (with_digits 1 s) 0 s (λ e. with_digits_low 1 s (first 46 s (lit< tt) e)) (λ e. tt)

exponent_low : (s : List ℕ) → Low (exponent_len s) s
unfolding exponent_len
exponent_low s = either (begins 101 s || begins 69 s) (with_digits (1 + sign_len (drop 1 s)) s) 0 s
    (λ e. with_digits_low (1 + sign_len (drop 1 s)) s (more 1 (sign_len (drop 1 s)) s (first_of_two 101 69 s (lit< tt) (lit< tt) e) (sign_low (drop 1 s)))) (λ e. tt)

decimal_low : (s : List ℕ) → Low (decimal_len s) s
unfolding decimal_len
decimal_low s = more (digits_len s) (fraction_len (drop (digits_len s) s)) s (digits_low s) (fraction_low (drop (digits_len s) s))

number_low : (s : List ℕ) → Low (number_len s) s
unfolding number_len
number_low s =
    let start = sign_len s in
    let end = start + decimal_len (drop start s) in
    either (eqb end start) 0 (end + exponent_len (drop end s)) s (λ e. tt)
    (λ e. more end (exponent_len (drop end s)) s (more start (decimal_len (drop start s)) s (sign_low s) (decimal_low (drop start s))) (exponent_low (drop end s)))

letters_low : (s : List ℕ) → list_all is_ascii_alphabetic s ≡ true → AllLow s
letters_low [] e = tt
letters_low (c ∷ s) e = let p = and_parts (is_ascii_alphabetic c) (list_all is_ascii_alphabetic s) e in (letter_low c p.0, letters_low s p.1)

percent_low : (s : List ℕ) → eqb (length s) 1 ≡ true → begins 37 s ≡ true → AllLow s
percent_low [] e f = tt
percent_low (c ∷ []) e f = let g : c ≡ 37 = eqb-true c 37 f in (omega arith, tt)
percent_low (c ∷ d ∷ s) e f = let g : suc (suc (length s)) ≡ 1 = eqb-true (suc (suc (length s))) 1 e in absurd (omega arith)

unit_low : (s : List ℕ) → is_unit s ≡ true → AllLow s
unfolding is_unit
unit_low s e = go (eqb (length s) 1 && begins 37 s) refl e
  where
    go : (x : Bool) → (eqb (length s) 1 && begins 37 s) ≡ x → (x || list_all is_ascii_alphabetic s) ≡ true → AllLow s
    go true f e = let p = and_parts (eqb (length s) 1) (begins 37 s) f in percent_low s p.0 p.1
    go false f e = letters_low s e

none_some : (a : Span × Span) → ◌≡◌ {A = Option (Span × Span)} None (Some a) → ⊥
none_some a e = cc

-- what has a number and a unit is ASCII
all_low : (s : List ℕ) (a : Span × Span) → number_and_unit s ≡ Some a → AllLow s
unfolding number_and_unit
all_low s a e = go (eqb (number_len s) 0) (is_unit (drop (number_len s) s)) refl e
  where
    go : (x y : Bool) → is_unit (drop (number_len s) s) ≡ y → cond (x || not y) None (Some (span 0 (number_len s), span (number_len s) (length s))) ≡ Some a → AllLow s
    go true y f e = absurd (none_some a e)
    go false false f e = absurd (none_some a e)
    go false true f e = subst AllLow (take-append-drop (number_len s) s) (low-append (take (number_len s) s) (drop (number_len s) s) (number_low s) (unit_low (drop (number_len s) s) f))

by_options : (w cs : List ℕ) (x y : Option (Span × Span)) → encodes cs ≡ w → number_and_unit cs ≡ x → number_and_unit w ≡ y → x ≡ y
by_options w cs None None e f g = refl
by_options w cs (Some a) y e f g = sym f ∙ ap number_and_unit (sym (encodes-low cs (all_low cs a f)) ∙ e) ∙ g
by_options w cs None (Some b) e f g = sym f ∙ ap number_and_unit (low_same w cs (all_low w b g) e) ∙ g

-- the bytes of a word have the number and the unit of its characters
pub number_bytes : (w : List ℕ) → IsUtf8 w → number_and_unit (chars w) ≡ number_and_unit w
number_bytes w u = by_options w (chars w) (number_and_unit (chars w)) (number_and_unit w) (encodes-chars w u) refl refl

module _ (w bs : List ℕ) (end : ℕ) (u : IsUtf8 w) (s : bs ≡ w) (e : end ≡ number_len bs) where
  same_end : number_len w ≡ end
  same_end = ap number_len (sym s) ∙ sym e

  same_rest : take (length bs - end) (drop end bs) ≡ drop (number_len w) w
  same_rest = take_all (length bs - end) (drop end bs) (omega (arith, length-drop end bs)) ∙ ap (drop end) s ∙ ap (λ k. drop k w) (sym same_end)

  test : Bool → Option (Span × Span)
  test b = cond (eqb end 0 || not b) None (Some (span 0 end, span end (length w)))

  tested : (b : Bool) → is_unit (take (length bs - end) (drop end bs)) ≡ b → number_and_unit (chars w) ≡ test b
  unfolding number_and_unit test
  tested b f = number_bytes w u ∙ rw (sym (ap is_unit same_rest) ∙ f, same_end) refl

  pub no_number_here : end ≡ 0 → None ≡ number_and_unit (chars w)
  unfolding number_and_unit
  no_number_here z = sym (number_bytes w u ∙ rw (same_end ∙ z) refl)

  pub no_unit_here : is_unit (take (length bs - end) (drop end bs)) ≡ false → None ≡ number_and_unit (chars w)
  unfolding test
  no_unit_here f = sym (tested false f ∙ either_none (eqb end 0) _)
    where
      either_none : (b : Bool) (x : Option (Span × Span)) → cond (b || true) None x ≡ None
      either_none true x = refl
      either_none false x = refl

  pub both_here : (end ≡ 0 → ⊥) → is_unit (take (length bs - end) (drop end bs)) ≡ true → Some (span 0 end, span end (length bs)) ≡ number_and_unit (chars w)
  unfolding test
  both_here n f = rw s (sym (tested true f ∙ rw (ne_eqb end 0 n) refl))
