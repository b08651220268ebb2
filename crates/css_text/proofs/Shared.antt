-- Parts of strings.
use Rattle.std.proofs.Common.{◌≡◌, ℕ, ◌+◌, ◌-◌, ◌≤◌, List, take, drop, length, get_or, sym, ◌∙◌, ap, subst, inl, inr, zero-le, arith}
use Rattle.std.proofs.lemmas.Bool.{cases_lt}
use Rattle.std.proofs.lemmas.List.{drop-drop, drop-take, take-take, length-drop, length-take-le, get_or-drop, get_or-take}
use Rattle.std.proofs.lemmas.Str.{IsCharBoundary-start, IsCharBoundary-end, IsCharBoundary-from_rest, IsUtf8-between, encodes-chars}
use Rattle.std.specs.Str.{chars, IsUtf8, IsCharBoundary}
use lib.Utf8.{encodes}
use Rattle.css_text.specs.Shared.{part, IsPart}

-- the whole of a text
pub whole : (bs : List ℕ) (n : ℕ) → IsUtf8 bs → n ≡ length bs → IsPart bs 0 n
whole bs n u e = subst (λ k. IsPart bs 0 k) (sym e) (record { order = zero-le; begins = IsCharBoundary-start bs u; ends = IsCharBoundary-end bs })

back : (a b : ℕ) → a ≤ b → a + (b - a) ≡ b
back a b h = omega arith

-- a place behind another is a place in what follows that
in_rest : (bs : List ℕ) (a k : ℕ) → a ≤ length bs → IsCharBoundary bs (a + k) → IsCharBoundary (drop a bs) k
in_rest bs a k h p =
    let n = length-drop a bs in
    let e : get_or (drop a bs) k 0 ≡ get_or bs (a + k) 0 = get_or-drop a bs k 0 in
    (omega (arith, n, p.0), λ l m. subst (λ x. 192 ≤ x) (sym e) (p.1 (omega (arith, n, l)) (subst (λ x. 128 ≤ x) e m)))

-- a place in what stands before a place is a place in the text
from_front : (bs : List ℕ) (n i : ℕ) → IsCharBoundary bs n → IsCharBoundary (take n bs) i → IsCharBoundary bs i
from_front bs n i h p =
    let m : length (take n bs) ≡ n = length-take-le n bs h.0 in
    elim (cases_lt i n) [
      | inl l ↦
          let e : get_or (take n bs) i 0 ≡ get_or bs i 0 = get_or-take n bs i 0 l in
          (omega (arith, l, h.0), λ k b. subst (λ x. 192 ≤ x) e (p.1 (omega (arith, m, l)) (subst (λ x. 128 ≤ x) (sym e) b)))
      | inr l ↦ let e : n ≡ i = omega (arith, l, m, p.0) in subst (λ k. IsCharBoundary bs k) e h
    ]

module _ (bs : List ℕ) (a b i j : ℕ) (u : IsUtf8 bs) (p : IsPart bs a b) (q : IsPart (encodes (chars (part bs a b))) i j) where
  spelled : encodes (chars (part bs a b)) ≡ part bs a b
  spelled = encodes-chars (part bs a b) (IsUtf8-between bs a b u p.order p.begins p.ends)

  inner : IsPart (part bs a b) i j
  inner = subst (λ x. IsPart x i j) spelled q

  end : IsCharBoundary (drop a bs) (b - a)
  end = in_rest bs a (b - a) p.begins.0 (subst (λ k. IsCharBoundary bs k) (sym (back a b p.order)) p.ends)

  place : (k : ℕ) → IsCharBoundary (part bs a b) k → IsCharBoundary bs (a + k)
  place k h = IsCharBoundary-from_rest bs a k p.begins.0 (from_front (drop a bs) (b - a) k end h)

  size : length (part bs a b) ≡ b - a
  size = length-take-le (b - a) (drop a bs) end.0

  pub part_end : a + j ≤ b
  part_end = omega (arith, size, inner.ends.0, p.order)

  -- a part of a part stands in the whole
  pub part_within : IsPart bs (a + i) (a + j)
  part_within = record { order = omega (arith, inner.order); begins = place i inner.begins; ends = place j inner.ends }

  same-size : a + j - (a + i) ≡ j - i
  same-size = omega arith

  short : j - i ≤ b - a - i
  short = omega (arith, size, inner.ends.0)

  whole-size : i + (b - a - i) ≡ b - a
  whole-size = omega (arith, size, inner.ends.0, inner.order)

  pub part_of_part : part bs (a + i) (a + j) ≡ part (encodes (chars (part bs a b))) i j
  part_of_part =
      ap (λ n. take n (drop (a + i) bs)) same-size ∙ (ap (take (j - i)) (sym (drop-drop i a bs)) ∙ (sym (take-take (j - i) (b - a - i) (drop i (drop a bs)) short)
      ∙ (ap (take (j - i)) (sym (drop-take i (b - a - i) (drop a bs)) ∙ ap (λ n. drop i (take n (drop a bs))) whole-size) ∙ ap (λ x. part x i j) (sym spelled))))
