-- The sign of a combinator is seen on its bytes.
use Rattle.std.proofs.Common.{◌≡◌, ℕ, ◌≤◌, Bool, true, false, cond, List, [], ◌∷◌, ◌++◌, Option, Some, None, refl, ap, sym, ◌∙◌, inl, inr, arith}
use Rattle.std.specs.Prelude.{◌&&◌}
use lib.Utf8.{encodes}
use Rattle.std.proofs.lemmas.Bool.{ne_eqb}
use Rattle.css_text.proofs.Bytes.{AllHigh, High, low_or_high, front_low, front_high}
use Rattle.selector_parse.specs.declared.reading.Gap.TheVariants.{Comments}
use Rattle.selector_parse.specs.declared.reading.Reading.{Reading}
use Rattle.selector_parse.specs.declared.reading.Reading.TheVariants.{Blank}
use Rattle.selector_parse.specs.Forms.{is_symbol}
use Rattle.selector_parse.specs.Reading.{step, or_on, is_between, sign_from, read_sign}
use Rattle.selector_parse.proofs.High.{past, step-past, past_again}

no_symbol : (c : ℕ) → 128 ≤ c → is_symbol c ≡ false
no_symbol c h = rw (ne_eqb c 62 (λ e. omega arith), ne_eqb c 43 (λ e. omega arith), ne_eqb c 126 (λ e. omega arith)) refl

and_false : (a b : Bool) → b ≡ false → (a && b) ≡ false
and_false true b e = e
and_false false b e = refl

-- a character past ASCII is no sign
over_one : (q : Reading) (c : ℕ) (bs : List ℕ) (o : Option Reading) → 128 ≤ c → past q ≡ o → sign_from q (c ∷ bs) ≡ or_on o 32 (λ p. sign_from p bs)
over_one q c bs o h e = ap (λ b. cond b c (or_on (step q c) 32 (λ p. sign_from p bs))) (and_false (is_between q) (is_symbol c) (no_symbol c h)) ∙ ap (λ o. or_on o 32 (λ p. sign_from p bs)) (step-past c h q ∙ e)

over : (p : Reading) (xs bs : List ℕ) → past p ≡ Some p → AllHigh xs → sign_from p (xs ++ bs) ≡ sign_from p bs
over p [] bs e h = refl
over p (x ∷ xs) bs e h = over_one p x (xs ++ bs) (Some p) h.0 e ∙ over p xs bs e h.1

high_go : (q : Reading) (c : ℕ) (cs : List ℕ) (h : High c) (o : Option Reading) → past q ≡ o → ((p : Reading) → sign_from p (encodes cs) ≡ sign_from p cs) → sign_from q (h.head ∷ (h.tail ++ encodes cs)) ≡ sign_from q (c ∷ cs)
high_go q c cs h None e ih = over_one q h.head (h.tail ++ encodes cs) None h.head_high e ∙ sym (over_one q c cs None h.past e)
high_go q c cs h (Some p) e ih = over_one q h.head (h.tail ++ encodes cs) (Some p) h.head_high e ∙ over p h.tail (encodes cs) (past_again q p e) h.tail_high ∙ ih p ∙ sym (over_one q c cs (Some p) h.past e)

low_go : (q : Reading) (c : ℕ) (cs : List ℕ) (o : Option Reading) → step q c ≡ o → ((p : Reading) → sign_from p (encodes cs) ≡ sign_from p cs) → sign_from q (c ∷ encodes cs) ≡ sign_from q (c ∷ cs)
low_go q c cs None e ih = ap (λ o. cond (is_between q && is_symbol c) c (or_on o 32 (λ p. sign_from p (encodes cs)))) e ∙ sym (ap (λ o. cond (is_between q && is_symbol c) c (or_on o 32 (λ p. sign_from p cs))) e)
low_go q c cs (Some p) e ih = ap (λ o. cond (is_between q && is_symbol c) c (or_on o 32 (λ p. sign_from p (encodes cs)))) e ∙ ap (λ n. cond (is_between q && is_symbol c) c n) (ih p) ∙ sym (ap (λ o. cond (is_between q && is_symbol c) c (or_on o 32 (λ p. sign_from p cs))) e)

sign_same : (cs : List ℕ) (q : Reading) → sign_from q (encodes cs) ≡ sign_from q cs
sign_same [] q = refl
sign_same (c ∷ cs) q = elim (low_or_high c) [
  | inl l ↦ ap (sign_from q) (front_low c cs l) ∙ low_go q c cs (step q c) refl (sign_same cs)
  | inr h ↦ ap (sign_from q) (front_high c cs h) ∙ high_go q c cs h (past q) refl (sign_same cs)
]

pub sign-bytes : (cs : List ℕ) → read_sign (encodes cs) ≡ read_sign cs
sign-bytes cs = sign_same cs (Blank Comments)
