-- A number and its unit by concatenation are what is found of them from left to right.
use Rattle.std.proofs.Common.{◌≡◌, ℕ, ◌+◌, ◌<◌, Bool, true, false, eqb, List, [], ◌∷◌, ◌++◌, length, take, drop, Option, Some, None, refl, ap, sym, ◌∙◌, subst, inl, inr, one-add, add-zero, append-nil, append_assoc, length-append, arith}
use Rattle.std.specs.Prelude.{◌&&◌, ◌||◌, ◌⊎◌, not, if◌then◌else◌}
use Rattle.std.specs.Char.{is_ascii_digit, is_ascii_alphabetic}
use Rattle.std.specs.List.{list_all}
use Rattle.std.proofs.Math.Seq.{drop-append_seam, drop-append-add, take-append_seam}
use Rattle.std.proofs.lemmas.Bool.{ne_eqb, eqb-true, false≢true, and_parts}
use Rattle.std.proofs.lemmas.Bool.Decides.{nat_tests}
use Rattle.std.proofs.lemmas.List.{take-append-drop}
use Rattle.std.proofs.lemmas.List.Folds.{length-prefix_len}
use Rattle.css_text.specs.declared.lexer.Span.{Span}
use Rattle.css_text.specs.Forms.{begins}
use Rattle.value_parse.specs.NumberLengths.{digits_len, sign_len, with_digits, fraction_len, exponent_len, decimal_len, number_len, is_unit, number_and_unit}
use Rattle.css_text.proofs.BlockSteps.{take_split}
use Rattle.value_parse.specs.Number.{IsDigits, IsSign, no_sign, plus, minus, IsDecimal, whole, mixed, fraction, IsExponent, no_exponent, with_exponent, IsNumber, IsUnit, percent, letters, IsNumberWithUnit, span, TellsNumber}

letter_no_digit : (c : ℕ) → is_ascii_alphabetic c ≡ true → is_ascii_digit c ≡ false
letter_no_digit c h = grind (arith, nat_tests)

letter_no_point : (c : ℕ) → is_ascii_alphabetic c ≡ true → eqb c 46 ≡ false
letter_no_point c h = grind (arith, nat_tests)

letter_no_sign : (c : ℕ) → is_ascii_alphabetic c ≡ true → (eqb c 43 || eqb c 45) ≡ false
letter_no_sign c h = grind (arith, nat_tests)

digit_no_sign : (c : ℕ) → is_ascii_digit c ≡ true → (eqb c 43 || eqb c 45) ≡ false
digit_no_sign c h = grind (arith, nat_tests)

digits-append : (ds r : List ℕ) → list_all is_ascii_digit ds ≡ true → digits_len r ≡ 0 → digits_len (ds ++ r) ≡ length ds
digits-append [] r h n = n
digits-append (c ∷ ds) r h n = let p = and_parts (is_ascii_digit c) (list_all is_ascii_digit ds) h in rw p.0 (ap (λ k. 1 + k) (digits-append ds r p.1 n) ∙ one-add (length ds))

with_none : (k : ℕ) (s : List ℕ) → digits_len (drop k s) ≡ 0 → with_digits k s ≡ 0
unfolding with_digits
with_none k s e = rw e refl

with_some : (k n : ℕ) (s : List ℕ) → digits_len (drop k s) ≡ n → 0 < n → with_digits k s ≡ k + n
unfolding with_digits
with_some k n s e h = rw (e, ne_eqb n 0 (λ z. omega (arith, z, h))) refl

letters_no_digit : (u : List ℕ) → list_all is_ascii_alphabetic u ≡ true → digits_len u ≡ 0
letters_no_digit [] h = refl
letters_no_digit (c ∷ u) h = rw (letter_no_digit c ((and_parts (is_ascii_alphabetic c) (list_all is_ascii_alphabetic u) h).0)) refl

letters_no_sign : (u : List ℕ) → list_all is_ascii_alphabetic u ≡ true → sign_len u ≡ 0
unfolding sign_len
letters_no_sign [] h = refl
letters_no_sign (c ∷ u) h = rw (letter_no_sign c ((and_parts (is_ascii_alphabetic c) (list_all is_ascii_alphabetic u) h).0)) refl

either_zero : (b : Bool) (m : ℕ) → m ≡ 0 → (if b then m else 0) ≡ 0
either_zero true m e = e
either_zero false m e = refl

letters_no_exponent : (u : List ℕ) → list_all is_ascii_alphabetic u ≡ true → exponent_len u ≡ 0
unfolding exponent_len
letters_no_exponent [] h = refl
letters_no_exponent (c ∷ u) h =
    let p = and_parts (is_ascii_alphabetic c) (list_all is_ascii_alphabetic u) h in
    either_zero (eqb c 101 || eqb c 69) _ (ap (λ k. with_digits (1 + k) (c ∷ u)) (letters_no_sign u p.1) ∙ with_none 1 (c ∷ u) (letters_no_digit u p.1))

-- neither a digit nor a point stands first
record IsPast (r : List ℕ) : Type 0 where
  no_digit : digits_len r ≡ 0
  no_point : begins 46 r ≡ false

letters_past : (u : List ℕ) → list_all is_ascii_alphabetic u ≡ true → IsPast u
letters_past [] h = record { no_digit = refl; no_point = refl }
letters_past (c ∷ u) h = record { no_digit = letters_no_digit (c ∷ u) h; no_point = letter_no_point c ((and_parts (is_ascii_alphabetic c) (list_all is_ascii_alphabetic u) h).0) }

unit_past : (u : List ℕ) → IsUnit u → IsPast u
unit_past u (percent e) = subst IsPast (sym e) (record { no_digit = refl; no_point = refl })
unit_past u (letters h) = letters_past u h

unit_no_exponent : (u : List ℕ) → IsUnit u → exponent_len u ≡ 0
unfolding exponent_len
unit_no_exponent u (percent e) = rw e refl
unit_no_exponent u (letters h) = letters_no_exponent u h

e_past : (e : ℕ) (t : List ℕ) → (e ≡ 101) ⊎ (e ≡ 69) → IsPast (e ∷ t)
e_past e t (inl h) = subst (λ x. IsPast (x ∷ t)) (sym h) (record { no_digit = refl; no_point = refl })
e_past e t (inr h) = subst (λ x. IsPast (x ∷ t)) (sym h) (record { no_digit = refl; no_point = refl })

exponent_past : (x u : List ℕ) → IsExponent x → IsUnit u → IsPast (x ++ u)
exponent_past x u (no_exponent e) h = subst (λ t. IsPast (t ++ u)) (sym e) (unit_past u h)
exponent_past x u (with_exponent c sign digits e k is_sign is_digits) h = subst (λ t. IsPast (t ++ u)) (sym e) (e_past c ((sign ++ digits) ++ u) k)

sign-append : (s r : List ℕ) → IsSign s → sign_len r ≡ 0 → sign_len (s ++ r) ≡ length s
unfolding sign_len
sign-append s r (no_sign e) h = rw e h
sign-append s r (plus e) h = rw e refl
sign-append s r (minus e) h = rw e refl

digits_no_sign : (ds r : List ℕ) → IsDigits ds → sign_len (ds ++ r) ≡ 0
unfolding sign_len
digits_no_sign [] r h = absurd (omega (arith, h.some))
digits_no_sign (c ∷ ds) r h = rw (digit_no_sign c ((and_parts (is_ascii_digit c) (list_all is_ascii_digit ds) h.all).0)) refl

decimal_by : (ds r : List ℕ) → list_all is_ascii_digit ds ≡ true → digits_len r ≡ 0 → decimal_len (ds ++ r) ≡ length ds + fraction_len r
unfolding decimal_len
decimal_by ds r h n = rw (digits-append ds r h n) (ap (λ t. length ds + fraction_len t) (drop-append_seam ds r))

point : (back r : List ℕ) → IsDigits back → digits_len r ≡ 0 → fraction_len (46 ∷ (back ++ r)) ≡ 1 + length back
unfolding fraction_len
point back r h n = with_some 1 (length back) (46 ∷ (back ++ r)) (digits-append back r h.all n) h.some

pointed : (front back r : List ℕ) → list_all is_ascii_digit front ≡ true → IsDigits back → digits_len r ≡ 0 → decimal_len ((front ++ 46 ∷ back) ++ r) ≡ length (front ++ 46 ∷ back)
pointed front back r a h n =
    ap decimal_len (append_assoc front (46 ∷ back) r) ∙ decimal_by front (46 ∷ (back ++ r)) a refl ∙ ap (λ k. length front + k) (point back r h n ∙ one-add (length back)) ∙ sym (length-append front (46 ∷ back))

no_fraction : (r : List ℕ) → begins 46 r ≡ false → fraction_len r ≡ 0
unfolding fraction_len
no_fraction r e = rw e refl

decimal-append : (d r : List ℕ) → IsDecimal d → IsPast r → decimal_len (d ++ r) ≡ length d
decimal-append d r (whole h) q = decimal_by d r h.all q.no_digit ∙ ap (λ k. length d + k) (no_fraction r q.no_point) ∙ add-zero (length d)
decimal-append d r (mixed front back e a h) q = subst (λ x. decimal_len (x ++ r) ≡ length x) (sym e) (pointed front back r a.all h q.no_digit)
decimal-append d r (fraction back e h) q = subst (λ x. decimal_len (x ++ r) ≡ length x) (sym e) (pointed [] back r refl h q.no_digit)

decimal_no_sign : (d r : List ℕ) → IsDecimal d → sign_len (d ++ r) ≡ 0
unfolding sign_len
decimal_no_sign d r (whole h) = digits_no_sign d r h
decimal_no_sign d r (mixed front back e a h) = subst (λ x. sign_len (x ++ r) ≡ 0) (sym e) (ap sign_len (append_assoc front (46 ∷ back) r) ∙ digits_no_sign front ((46 ∷ back) ++ r) a)
decimal_no_sign d r (fraction back e h) = subst (λ x. sign_len (x ++ r) ≡ 0) (sym e) refl

decimal_some : (d : List ℕ) → IsDecimal d → 0 < length d
decimal_some d (whole h) = h.some
decimal_some d (mixed front back e a h) = subst (λ x. 0 < length x) (sym e) (omega (arith, length-append front (46 ∷ back), a.some))
decimal_some d (fraction back e h) = subst (λ x. 0 < length x) (sym e) (omega arith)

past_one : (n e : ℕ) (s w : List ℕ) → n ≡ length s → drop (1 + n) (e ∷ (s ++ w)) ≡ w
past_one n e s w h = ap (λ k. drop k (e ∷ (s ++ w))) (one-add n) ∙ ap (λ k. drop k (s ++ w)) h ∙ drop-append_seam s w

exponent_by : (e : ℕ) (s ds u : List ℕ) → (eqb e 101 || eqb e 69) ≡ true → IsSign s → IsDigits ds → digits_len u ≡ 0 → exponent_len (e ∷ (s ++ (ds ++ u))) ≡ 1 + length s + length ds
unfolding exponent_len
exponent_by e s ds u k is_sign is_digits n = rw k (ap (λ m. with_digits (1 + m) (e ∷ (s ++ (ds ++ u)))) (sign-append s (ds ++ u) is_sign (digits_no_sign ds u is_digits))
    ∙ with_some (1 + length s) (length ds) (e ∷ (s ++ (ds ++ u))) (ap digits_len (past_one (length s) e s (ds ++ u) refl) ∙ digits-append ds u is_digits.all n) is_digits.some)

is_e : (e : ℕ) → (e ≡ 101) ⊎ (e ≡ 69) → (eqb e 101 || eqb e 69) ≡ true
is_e e (inl h) = rw h refl
is_e e (inr h) = rw h refl

exponent-append : (x u : List ℕ) → IsExponent x → IsUnit u → exponent_len (x ++ u) ≡ length x
exponent-append x u (no_exponent e) h = subst (λ t. exponent_len (t ++ u) ≡ length t) (sym e) (unit_no_exponent u h)
exponent-append x u (with_exponent c s ds e k is_sign is_digits) h = subst (λ t. exponent_len (t ++ u) ≡ length t) (sym e)
    (ap (λ t. exponent_len (c ∷ t)) (append_assoc s ds u) ∙ exponent_by c s ds u (is_e c k) is_sign is_digits (unit_past u h).no_digit ∙ omega (arith, length-append s ds))

number_found : (s : List ℕ) (a b c : ℕ) → sign_len s ≡ a → decimal_len (drop a s) ≡ b → 0 < b → exponent_len (drop (a + b) s) ≡ c → number_len s ≡ a + b + c
unfolding number_len
number_found s a b c e f h g = rw (e, f, ne_eqb (a + b) a (λ z. omega (arith, z, h)), g) refl

number_by : (s d x u : List ℕ) → IsSign s → IsDecimal d → IsExponent x → IsUnit u → number_len (s ++ (d ++ (x ++ u))) ≡ length s + length d + length x
number_by s d x u is_sign is_decimal is_exponent h = number_found (s ++ (d ++ (x ++ u))) (length s) (length d) (length x)
    (sign-append s (d ++ (x ++ u)) is_sign (decimal_no_sign d (x ++ u) is_decimal))
    (ap decimal_len (drop-append_seam s (d ++ (x ++ u))) ∙ decimal-append d (x ++ u) is_decimal (exponent_past x u is_exponent h))
    (decimal_some d is_decimal)
    (ap exponent_len (drop-append-add s (d ++ (x ++ u)) (length d) ∙ drop-append_seam d (x ++ u)) ∙ exponent-append x u is_exponent h)

number_size : (n : List ℕ) → (i : IsNumber n) → length i.sign + length i.decimal + length i.exponent ≡ length n
number_size n i = sym (ap length i.text ∙ length-append i.sign (i.decimal ++ i.exponent) ∙ ap (λ k. length i.sign + k) (length-append i.decimal i.exponent) ∙ omega arith)

number-append : (n u : List ℕ) → IsNumber n → IsUnit u → number_len (n ++ u) ≡ length n
number-append n u i h =
    ap (λ t. number_len (t ++ u)) i.text ∙ ap number_len (append_assoc i.sign (i.decimal ++ i.exponent) u ∙ ap (λ t. i.sign ++ t) (append_assoc i.decimal i.exponent u))
    ∙ number_by i.sign i.decimal i.exponent u i.is_sign i.is_decimal i.is_exponent h ∙ number_size n i

number_some : (n : List ℕ) → IsNumber n → 0 < length n
number_some n i = omega (arith, number_size n i, decimal_some i.decimal i.is_decimal)

or_true : (b : Bool) → (b || true) ≡ true
or_true true = refl
or_true false = refl

unit_true : (u : List ℕ) → IsUnit u → is_unit u ≡ true
unfolding is_unit
unit_true u (percent e) = rw e refl
unit_true u (letters h) = rw h (or_true _)

-- what follows a number of a word
whole_number : (s n u : List ℕ) → IsNumberWithUnit s n u → number_len s ≡ length n
whole_number s n u h = ap number_len h.text ∙ number-append n u h.is_number h.is_unit

rest_of : (s n u : List ℕ) → IsNumberWithUnit s n u → drop (length n) s ≡ u
rest_of s n u h = ap (drop (length n)) h.text ∙ drop-append_seam n u

complete : (s n u : List ℕ) → IsNumberWithUnit s n u → number_and_unit s ≡ Some (span 0 (length n), span (length n) (length s))
unfolding number_and_unit
complete s n u h = rw (whole_number s n u h, ne_eqb (length n) 0 (λ z. omega (arith, z, number_some n h.is_number)), ap is_unit (rest_of s n u h) ∙ unit_true u h.is_unit) refl

-- a word has at most one number and unit
pub one_number : (s n u m v : List ℕ) → IsNumberWithUnit s n u → IsNumberWithUnit s m v → (n ≡ m) × (u ≡ v)
one_number s n u m v h k =
    let e : length n ≡ length m = sym (whole_number s n u h) ∙ whole_number s m v k in
    let front : (x y : List ℕ) → IsNumberWithUnit s x y → take (length x) s ≡ x = λ x y w. ap (take (length x)) w.text ∙ take-append_seam x y in
    (sym (front n u h) ∙ ap (λ i. take i s) e ∙ front m v k, sym (rest_of s n u h) ∙ ap (λ i. drop i s) e ∙ rest_of s m v k)

-- the way back: what is found is of these forms
digits_all : (s : List ℕ) → list_all is_ascii_digit (take (digits_len s) s) ≡ true
digits_all [] = refl
digits_all (c ∷ s) = by (is_ascii_digit c) refl (digits_all s)
  where
    by : (b : Bool) → is_ascii_digit c ≡ b → list_all is_ascii_digit (take (digits_len s) s) ≡ true → list_all is_ascii_digit (take (if b then 1 + digits_len s else 0) (c ∷ s)) ≡ true
    by true e h = ap (λ k. list_all is_ascii_digit (take k (c ∷ s))) (one-add (digits_len s)) ∙ rw e h
    by false e h = refl

digits_are : (s : List ℕ) → 0 < digits_len s → IsDigits (take (digits_len s) s)
digits_are s h = record { all = digits_all s; some = omega (arith, length-prefix_len is_ascii_digit s, h) }

first_is : (c : ℕ) (s : List ℕ) → begins c s ≡ true → take 1 s ≡ c ∷ []
first_is c [] e = absurd (false≢true e)
first_is c (d ∷ s) e = ap (λ x. x ∷ []) (eqb-true d c e)

sign_is : (s : List ℕ) → IsSign (take (sign_len s) s)
unfolding sign_len
sign_is s = by (begins 43 s) (begins 45 s) refl refl
  where
    by : (a b : Bool) → begins 43 s ≡ a → begins 45 s ≡ b → IsSign (take (if a || b then 1 else 0) s)
    by true b e f = plus (first_is 43 s e)
    by false true e f = minus (first_is 45 s f)
    by false false e f = no_sign refl

-- k characters with digits after them, or nothing
record HasDigits (k : ℕ) (s : List ℕ) : Type 0 where
  digits : List ℕ
  text : take (with_digits k s) s ≡ take k s ++ digits
  are : IsDigits digits

with_is : (k : ℕ) (s : List ℕ) → (with_digits k s ≡ 0) ⊎ HasDigits k s
unfolding with_digits
with_is k s = by (eqb (digits_len (drop k s)) 0) refl
  where
    by : (b : Bool) → eqb (digits_len (drop k s)) 0 ≡ b → (with_digits k s ≡ 0) ⊎ HasDigits k s
    by true e = inl (rw e refl)
    by false e = inr (record {
      digits = take (digits_len (drop k s)) (drop k s);
      text = rw e (take_split s k (digits_len (drop k s)));
      are = digits_are (drop k s) (grind (arith, nat_tests));
    })

record HasPoint (s : List ℕ) : Type 0 where
  back : List ℕ
  text : take (fraction_len s) s ≡ 46 ∷ back
  are : IsDigits back

fraction_is : (s : List ℕ) → (fraction_len s ≡ 0) ⊎ HasPoint s
unfolding fraction_len
fraction_is s = by (begins 46 s) refl
  where
    point_by : begins 46 s ≡ true → (with_digits 1 s ≡ 0) ⊎ HasDigits 1 s → (fraction_len s ≡ 0) ⊎ HasPoint s
    point_by e (inl h) = inl (rw e h)
    point_by e (inr h) = inr (record { back = h.digits; text = rw e (h.text ∙ ap (λ t. t ++ h.digits) (first_is 46 s e)); are = h.are })

    by : (b : Bool) → begins 46 s ≡ b → (fraction_len s ≡ 0) ⊎ HasPoint s
    by true e = point_by e (with_is 1 s)
    by false e = inl (rw e refl)

decimal_is : (s : List ℕ) → 0 < decimal_len s → IsDecimal (take (decimal_len s) s)
unfolding decimal_len
decimal_is s h = by (fraction_is (drop (digits_len s) s)) (eqb (digits_len s) 0) refl
  where
    front : List ℕ
    front = take (digits_len s) s

    two : take (decimal_len s) s ≡ take (digits_len s) s ++ take (fraction_len (drop (digits_len s) s)) (drop (digits_len s) s)
    two = take_split s (digits_len s) (fraction_len (drop (digits_len s) s))

    by : (fraction_len (drop (digits_len s) s) ≡ 0) ⊎ HasPoint (drop (digits_len s) s) → (b : Bool) → eqb (digits_len s) 0 ≡ b → IsDecimal (take (decimal_len s) s)
    by (inl e) b f = subst IsDecimal (sym (two ∙ ap (λ k. take (digits_len s) s ++ take k (drop (digits_len s) s)) e ∙ append-nil (take (digits_len s) s))) (whole (digits_are s (omega (arith, h, e))))
    by (inr p) true f = fraction p.back (two ∙ ap (λ k. take k s ++ take (fraction_len (drop (digits_len s) s)) (drop (digits_len s) s)) (eqb-true (digits_len s) 0 f) ∙ p.text) p.are
    by (inr p) false f = mixed (take (digits_len s) s) p.back (two ∙ ap (λ t. take (digits_len s) s ++ t) p.text) (digits_are s (grind (arith, nat_tests))) p.are

begins_e : (s : List ℕ) → (begins 101 s || begins 69 s) ≡ true → (e : ℕ) × (take 1 s ≡ e ∷ []) × ((e ≡ 101) ⊎ (e ≡ 69))
begins_e s h = by (begins 101 s) refl h
  where
    by : (b : Bool) → begins 101 s ≡ b → (b || begins 69 s) ≡ true → (e : ℕ) × (take 1 s ≡ e ∷ []) × ((e ≡ 101) ⊎ (e ≡ 69))
    by true f g = (101, first_is 101 s f, inl refl)
    by false f g = (69, first_is 69 s g, inr refl)

exponent_is : (s : List ℕ) → IsExponent (take (exponent_len s) s)
unfolding exponent_len
exponent_is s = by (begins 101 s || begins 69 s) refl
  where
    k : ℕ
    k = 1 + sign_len (drop 1 s)

    found : (begins 101 s || begins 69 s) ≡ true → (with_digits (1 + sign_len (drop 1 s)) s ≡ 0) ⊎ HasDigits (1 + sign_len (drop 1 s)) s → IsExponent (take (with_digits (1 + sign_len (drop 1 s)) s) s)
    found h (inl e) = no_exponent (ap (λ n. take n s) e)
    found h (inr d) = let b = begins_e s h in
        with_exponent b.0 (take (sign_len (drop 1 s)) (drop 1 s)) d.digits
        (d.text ∙ ap (λ t. t ++ d.digits) (take_split s 1 (sign_len (drop 1 s)) ∙ ap (λ t. t ++ take (sign_len (drop 1 s)) (drop 1 s)) b.1)) b.2 (sign_is (drop 1 s)) d.are

    by : (b : Bool) → (begins 101 s || begins 69 s) ≡ b → IsExponent (take (if b then with_digits (1 + sign_len (drop 1 s)) s else 0) s)
    by true h = found h (with_is (1 + sign_len (drop 1 s)) s)
    by false h = no_exponent refl

number_is : (s : List ℕ) → eqb (number_len s) 0 ≡ false → IsNumber (take (number_len s) s)
unfolding number_len
number_is s h = by (eqb (start + decimal_len (drop start s)) start) refl h
  where
    start : ℕ
    start = sign_len s

    by : (b : Bool) → eqb (sign_len s + decimal_len (drop (sign_len s) s)) (sign_len s) ≡ b → eqb (if b then 0 else sign_len s + decimal_len (drop (sign_len s) s) + exponent_len (drop (sign_len s + decimal_len (drop (sign_len s) s)) s)) 0 ≡ false → IsNumber (take (if b then 0 else sign_len s + decimal_len (drop (sign_len s) s) + exponent_len (drop (sign_len s + decimal_len (drop (sign_len s) s)) s)) s)
    by true e f = absurd (false≢true (sym f))
    by false e f =
        let end = sign_len s + decimal_len (drop (sign_len s) s) in
        record {
          sign = take (sign_len s) s;
          decimal = take (decimal_len (drop (sign_len s) s)) (drop (sign_len s) s);
          exponent = take (exponent_len (drop end s)) (drop end s);
          text = take_split s end (exponent_len (drop end s)) ∙ ap (λ t. t ++ take (exponent_len (drop end s)) (drop end s)) (take_split s (sign_len s) (decimal_len (drop (sign_len s) s))) ∙ append_assoc (take (sign_len s) s) (take (decimal_len (drop (sign_len s) s)) (drop (sign_len s) s)) (take (exponent_len (drop end s)) (drop end s));
          is_sign = sign_is s;
          is_decimal = decimal_is (drop (sign_len s) s) (grind (arith, nat_tests));
          is_exponent = exponent_is (drop end s);
        }

percent_is : (u : List ℕ) → eqb (length u) 1 ≡ true → begins 37 u ≡ true → u ≡ 37 ∷ []
percent_is [] e f = absurd (false≢true f)
percent_is (c ∷ []) e f = ap (λ x. x ∷ []) (eqb-true c 37 f)
percent_is (c ∷ d ∷ u) e f = let g : length (c ∷ d ∷ u) ≡ 1 = eqb-true (length (c ∷ d ∷ u)) 1 e in absurd (omega (arith, g))

unit_is : (u : List ℕ) → is_unit u ≡ true → IsUnit u
unfolding is_unit
unit_is u h = by (eqb (length u) 1 && begins 37 u) refl h
  where
    by : (b : Bool) → (eqb (length u) 1 && begins 37 u) ≡ b → (b || list_all is_ascii_alphabetic u) ≡ true → IsUnit u
    by true e f = let p = and_parts (eqb (length u) 1) (begins 37 u) e in percent (percent_is u p.0 p.1)
    by false e f = letters f

both : (s : List ℕ) → eqb (number_len s) 0 ≡ false → is_unit (drop (number_len s) s) ≡ true → IsNumberWithUnit s (take (number_len s) s) (drop (number_len s) s)
both s e f = record { text = sym (take-append-drop (number_len s) s); is_number = number_is s e; is_unit = unit_is (drop (number_len s) s) f }

none_some : (a : Span × Span) → ◌≡◌ {A = Option (Span × Span)} None (Some a) → ⊥
none_some a e = cc

tells : (s : List ℕ) → TellsNumber s (number_and_unit s)
unfolding number_and_unit
tells s = by (eqb (number_len s) 0) (is_unit (drop (number_len s) s)) refl refl
  where
    none : number_and_unit s ≡ None → (n u : List ℕ) → IsNumberWithUnit s n u → ⊥
    none e n u h = none_some _ (sym e ∙ complete s n u h)

    by : (a b : Bool) → eqb (number_len s) 0 ≡ a → is_unit (drop (number_len s) s) ≡ b → TellsNumber s (if a || not b then None else Some (span 0 (number_len s), span (number_len s) (length s)))
    by true b e f = none (rw e refl)
    by false false e f = none (rw (e, f) refl)
    by false true e f = let h = both s e f in let size = whole_number s _ _ h in
        (take (number_len s) s, drop (number_len s) s, h, ap (λ k. (span 0 k, span k (length s))) size)

-- what is found tells the number
pub told : (s : List ℕ) (r : Option (Span × Span)) → r ≡ number_and_unit s → TellsNumber s r
told s r e = subst (TellsNumber s) (sym e) (tells s)

-- the same the other way round: what tells the number is what is found
pub told_once : (s : List ℕ) (r : Option (Span × Span)) → TellsNumber s r → r ≡ number_and_unit s
told_once s None h = by (number_and_unit s) (tells s)
  where
    by : (q : Option (Span × Span)) → TellsNumber s q → None ≡ q
    by None t = refl
    by (Some p) t = absurd (h t.0 t.1 t.2)
told_once s (Some p) h = ap (λ x. Some x) h.3 ∙ sym (complete s h.0 h.1 h.2)
