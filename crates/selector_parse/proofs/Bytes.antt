-- A part reaches as far in the bytes of a text as in its characters.
use Rattle.std.proofs.Common.{◌≡◌, ℕ, suc, ◌+◌, List, [], ◌∷◌, ◌++◌, length, Option, Some, None, refl, ap, sym, ◌∙◌, inl, inr, zero-add, arith}
use lib.Utf8.{encode, encodes}
use Rattle.css_text.proofs.Bytes.{AllHigh, High, low_or_high, weigh, weigh-suc, front_low, front_high}
use Rattle.selector_parse.specs.declared.reading.Reading.{Reading}
use Rattle.selector_parse.specs.Reading.{step, or_on, scan_len, scan_last}
use Rattle.selector_parse.proofs.High.{past, step-past, past_again}

-- how far a scan goes, and what it has read
record Same (q : Reading) (bs : List ℕ) (n : ℕ) (p : Reading) : Type 0 where
  pub len : scan_len q bs ≡ n
  pub last : scan_last q bs ≡ p

stop : (q : Reading) (c : ℕ) (bs : List ℕ) → step q c ≡ None → Same q (c ∷ bs) 0 q
stop q c bs e = record { len = ap (λ o. or_on o 0 (λ p. suc (scan_len p bs))) e; last = ap (λ o. or_on o q (λ p. scan_last p bs)) e }

more : (q p r : Reading) (c : ℕ) (bs : List ℕ) (n : ℕ) → step q c ≡ Some p → Same p bs n r → Same q (c ∷ bs) (suc n) r
more q p r c bs n e s = record { len = ap (λ o. or_on o 0 (λ p. suc (scan_len p bs))) e ∙ ap suc s.len; last = ap (λ o. or_on o q (λ p. scan_last p bs)) e ∙ s.last }

-- over the rest of a character past ASCII
over : (p r : Reading) (xs bs : List ℕ) (n : ℕ) → past p ≡ Some p → AllHigh xs → Same p bs n r → Same p (xs ++ bs) (length xs + n) r
over p r [] bs n e h s = record { len = s.len ∙ sym (zero-add n); last = s.last }
over p r (x ∷ xs) bs n e h s =
    let m = more p p r x (xs ++ bs) (length xs + n) (step-past x h.0 p ∙ e) (over p r xs bs n e h.1 s) in
    record { len = m.len ∙ omega arith; last = m.last }

weighs : (c : ℕ) (cs : List ℕ) (k n : ℕ) → length (encode c) ≡ k → k + weigh cs n ≡ weigh (c ∷ cs) (suc n)
weighs c cs k n e = ap (λ x. x + weigh cs n) (sym e) ∙ sym (weigh-suc c cs n)

low_go : (q : Reading) (c : ℕ) (cs : List ℕ) → encode c ≡ c ∷ [] → (o : Option Reading) → step q c ≡ o → ((p : Reading) → Same p (encodes cs) (weigh cs (scan_len p cs)) (scan_last p cs))
    → Same q (c ∷ encodes cs) (weigh (c ∷ cs) (scan_len q (c ∷ cs))) (scan_last q (c ∷ cs))
low_go q c cs l None e ih =
    let s = stop q c (encodes cs) e in let t = stop q c cs e in
    record { len = s.len ∙ ap (weigh (c ∷ cs)) (sym t.len); last = s.last ∙ sym t.last }
low_go q c cs l (Some p) e ih =
    let s = more q p (scan_last p cs) c (encodes cs) (weigh cs (scan_len p cs)) e (ih p) in
    let t = more q p (scan_last p cs) c cs (scan_len p cs) e (record { len = refl; last = refl }) in
    record { len = s.len ∙ omega (arith, weighs c cs 1 (scan_len p cs) (ap length l)) ∙ ap (weigh (c ∷ cs)) (sym t.len); last = s.last ∙ sym t.last }

high_go : (q : Reading) (c : ℕ) (cs : List ℕ) (h : High c) → (o : Option Reading) → past q ≡ o → ((p : Reading) → Same p (encodes cs) (weigh cs (scan_len p cs)) (scan_last p cs))
    → Same q (h.head ∷ (h.tail ++ encodes cs)) (weigh (c ∷ cs) (scan_len q (c ∷ cs))) (scan_last q (c ∷ cs))
high_go q c cs h None e ih =
    let s = stop q h.head (h.tail ++ encodes cs) (step-past h.head h.head_high q ∙ e) in let t = stop q c cs (step-past c h.past q ∙ e) in
    record { len = s.len ∙ ap (weigh (c ∷ cs)) (sym t.len); last = s.last ∙ sym t.last }
high_go q c cs h (Some p) e ih =
    let k = over p (scan_last p cs) h.tail (encodes cs) (weigh cs (scan_len p cs)) (past_again q p e) h.tail_high (ih p) in
    let s = more q p (scan_last p cs) h.head (h.tail ++ encodes cs) (length h.tail + weigh cs (scan_len p cs)) (step-past h.head h.head_high q ∙ e) k in
    let t = more q p (scan_last p cs) c cs (scan_len p cs) (step-past c h.past q ∙ e) (record { len = refl; last = refl }) in
    record { len = s.len ∙ omega (arith, weighs c cs (suc (length h.tail)) (scan_len p cs) (ap length h.is)) ∙ ap (weigh (c ∷ cs)) (sym t.len); last = s.last ∙ sym t.last }

scan_same : (cs : List ℕ) (q : Reading) → Same q (encodes cs) (weigh cs (scan_len q cs)) (scan_last q cs)
scan_same [] q = record { len = refl; last = refl }
scan_same (c ∷ cs) q = elim (low_or_high c) [
  | inl l ↦ let s = low_go q c cs l.1 (step q c) refl (scan_same cs) in record { len = ap (scan_len q) (front_low c cs l) ∙ s.len; last = ap (scan_last q) (front_low c cs l) ∙ s.last }
  | inr h ↦ let s = high_go q c cs h (past q) refl (scan_same cs) in record { len = ap (scan_len q) (front_high c cs h) ∙ s.len; last = ap (scan_last q) (front_high c cs h) ∙ s.last }
]

pub scan_len-bytes : (q : Reading) (cs : List ℕ) → scan_len q (encodes cs) ≡ weigh cs (scan_len q cs)
scan_len-bytes q cs = (scan_same cs q).len

pub scan_last-bytes : (q : Reading) (cs : List ℕ) → scan_last q (encodes cs) ≡ scan_last q cs
scan_last-bytes q cs = (scan_same cs q).last
