-- Characters in the bytes of a text, for callers that slice: where they stand, and what a slice of them is.
use Rattle.std.proofs.Common.{◌≡◌, ℕ, ◌+◌, ◌-◌, ◌≤◌, ◌<◌, eqb, List, [], ◌∷◌, ◌++◌, length, get_or, take, drop, ap, sym, ◌∙◌, subst, inl, inr, add-zero, arith, length-append}
use Rattle.std.specs.Str.{chars, IsUtf8, IsCharBoundary}
use lib.Utf8.{encodes}
use Rattle.std.proofs.lemmas.List.{take_at, drop_at, drop-drop, get_or-drop, get_or-take, length-drop, length-take-le}
use Rattle.std.proofs.lemmas.List.Sums.{sum_by-append, sum_by-cons}
use Rattle.std.specs.Char.{len_utf8}
use Rattle.std.proofs.lemmas.Str.{encodes-append, encodes-chars, chars_from_encodes, len_utf8_bounds, IsUtf8-between}
use Rattle.std.proofs.lemmas.Bool.{ne_eqb}
use Rattle.css_text.specs.Ahead.{byte_len}
use Rattle.css_text.proofs.BlockSteps.{take_split}
use Rattle.css_text.proofs.Bytes.{low_or_high, front_low, front_high}
use Rattle.css_text.proofs.Transport.{length-bytes}

-- From the byte `at` on the text has these characters.
pub record IsFrom (bs : List ℕ) (at : ℕ) (cs : List ℕ) : Type 0 where
  pub fits : at ≤ length bs
  pub text : drop at bs ≡ encodes cs

-- The bytes from one place up to another are those of the characters, and a `str` may be cut at both.
pub record IsSlice (bs : List ℕ) (from to : ℕ) (cs : List ℕ) : Type 0 where
  pub order : from ≤ to
  pub fits : to ≤ length bs
  pub low : IsCharBoundary bs from
  pub high : IsCharBoundary bs to
  pub bytes : take (to - from) (drop from bs) ≡ encodes cs

-- a character begins where bytes of characters begin
lead_of : (cs : List ℕ) → 128 ≤ get_or (encodes cs) 0 0 → 192 ≤ get_or (encodes cs) 0 0
lead_of [] = λ h. absurd (omega arith)
lead_of (c ∷ cs) = elim (low_or_high c) [
  | inl l ↦ rw (front_low c cs l) (λ h. absurd (omega (arith, l.0)))
  | inr w ↦ rw (front_high c cs w) (λ h. w.lead)
]

pub boundary : (bs cs : List ℕ) (i : ℕ) → i ≤ length bs → drop i bs ≡ encodes cs → IsCharBoundary bs i
boundary bs cs i h e = (h, λ l. subst (λ x. 128 ≤ x → 192 ≤ x) (ap (λ x. get_or x 0 0) (sym e) ∙ get_or-drop i bs 0 0 ∙ ap (λ k. get_or bs k 0) (add-zero i)) (lead_of cs))

pub byte_len-append : (xs ys : List ℕ) → byte_len (xs ++ ys) ≡ byte_len xs + byte_len ys
byte_len-append xs ys = sum_by-append len_utf8 xs ys

-- the characters of bytes that spell them
pub chars_of : (bs cs : List ℕ) → IsUtf8 bs → bs ≡ encodes cs → chars bs ≡ cs
chars_of bs cs u e = sym (chars_from_encodes cs bs u (sym e))

pub from_whole : (bs : List ℕ) → IsUtf8 bs → IsFrom bs 0 (chars bs)
from_whole bs u = record { fits = omega arith; text = sym (encodes-chars bs u) }

pub from_boundary : (bs : List ℕ) (at : ℕ) (cs : List ℕ) → IsFrom bs at cs → IsCharBoundary bs at
from_boundary bs at cs h = boundary bs cs at h.fits h.text

less : (a n : ℕ) → a + n - a ≡ n
less a n = omega arith

module _ (bs : List ℕ) (at : ℕ) (xs ys : List ℕ) (h : IsFrom bs at (xs ++ ys)) where
  parts : drop at bs ≡ encodes xs ++ encodes ys
  parts = h.text ∙ encodes-append xs ys

  size : length bs - at ≡ byte_len xs + length (encodes ys)
  size = sym (length-drop at bs) ∙ ap length parts ∙ length-append (encodes xs) (encodes ys) ∙ ap (λ k. k + length (encodes ys)) (length-bytes xs)

  inside : at + byte_len xs ≤ length bs
  inside = omega (arith, size, h.fits)

  after : drop (at + byte_len xs) bs ≡ encodes ys
  after = sym (drop-drop (byte_len xs) at bs) ∙ ap (drop (byte_len xs)) parts ∙ drop_at (encodes xs) (encodes ys) (byte_len xs) (length-bytes xs)

  here : take (at + byte_len xs - at) (drop at bs) ≡ encodes xs
  here = ap (λ k. take k (drop at bs)) (less at (byte_len xs)) ∙ ap (take (byte_len xs)) parts ∙ take_at (encodes xs) (encodes ys) (byte_len xs) (length-bytes xs)

  -- what follows the first characters
  pub from_back : IsFrom bs (at + byte_len xs) ys
  from_back = record { fits = inside; text = after }

  -- the first characters
  pub from_front : IsSlice bs at (at + byte_len xs) xs
  from_front = record {
    order = omega arith;
    fits = inside;
    low = boundary bs (xs ++ ys) at h.fits h.text;
    high = boundary bs ys (at + byte_len xs) inside after;
    bytes = here;
  }

-- a run in the middle
pub from_middle : (bs : List ℕ) (at : ℕ) (xs ys zs : List ℕ) → IsFrom bs at (xs ++ (ys ++ zs)) → IsSlice bs (at + byte_len xs) (at + byte_len xs + byte_len ys) ys
from_middle bs at xs ys zs h = from_front bs (at + byte_len xs) ys zs (from_back bs at xs (ys ++ zs) h)

length_slice : (bs : List ℕ) (from to : ℕ) → from ≤ to → to ≤ length bs → length (take (to - from) (drop from bs)) ≡ to - from
length_slice bs from to h k = length-take-le (to - from) (drop from bs) (rw (length-drop from bs) (omega arith))

pub slice_length : (bs : List ℕ) (from to : ℕ) (cs : List ℕ) → IsSlice bs from to cs → from + byte_len cs ≡ to
slice_length bs from to cs h =
    let n : to - from ≡ byte_len cs = sym (length_slice bs from to h.order h.fits) ∙ ap length h.bytes ∙ length-bytes cs in
    omega (arith, n, h.order)

none : (at : ℕ) → at - at ≡ 0
none at = omega arith

pub slice_empty : (bs : List ℕ) (at : ℕ) → IsCharBoundary bs at → IsSlice bs at at []
slice_empty bs at h = record { order = omega arith; fits = h.0; low = h; high = h; bytes = ap (λ k. take k (drop at bs)) (none at) }

both : (a b c : ℕ) → a ≤ b → b ≤ c → c - a ≡ b - a + (c - b)
both a b c h k = omega arith

back : (a b : ℕ) → a ≤ b → a + (b - a) ≡ b
back a b h = omega arith

-- a slice, and the one that follows it
pub slice_append : (bs : List ℕ) (a b c : ℕ) (xs ys : List ℕ) → IsSlice bs a b xs → IsSlice bs b c ys → IsSlice bs a c (xs ++ ys)
slice_append bs a b c xs ys x y =
    let ends : take (c - b) (drop (b - a) (drop a bs)) ≡ encodes ys = ap (take (c - b)) (drop-drop (b - a) a bs ∙ ap (λ k. drop k bs) (back a b x.order)) ∙ y.bytes in
    record {
      order = omega (arith, x.order, y.order);
      fits = y.fits;
      low = x.low;
      high = y.high;
      bytes = ap (λ n. take n (drop a bs)) (both a b c x.order y.order) ∙ take_split (drop a bs) (b - a) (c - b) ∙ ap (λ z. z ++ take (c - b) (drop (b - a) (drop a bs))) x.bytes
          ∙ ap (λ z. encodes xs ++ z) ends ∙ sym (encodes-append xs ys);
    }

-- the characters of a slice
pub slice_chars : (bs : List ℕ) (from to : ℕ) (cs : List ℕ) → IsUtf8 bs → IsSlice bs from to cs → chars (take (to - from) (drop from bs)) ≡ cs
slice_chars bs from to cs u h = chars_of (take (to - from) (drop from bs)) cs (IsUtf8-between bs from to u h.order h.low h.high) h.bytes

-- ASCII tests of the first character, on the first byte
first_byte : (c : ℕ) (cs : List ℕ) (k : ℕ) → k < 128 → eqb (get_or (encodes (c ∷ cs)) 0 0) k ≡ eqb c k
first_byte c cs k l = elim (low_or_high c) [
  | inl w ↦ ap (λ x. eqb (get_or x 0 0) k) (front_low c cs w)
  | inr w ↦ let a = w.past in let b = w.head_high in ap (λ x. eqb (get_or x 0 0) k) (front_high c cs w) ∙ ne_eqb w.head k (λ e. omega arith) ∙ sym (ne_eqb c k (λ e. omega arith))
]

front_byte : (bs : List ℕ) (at : ℕ) → get_or bs at 0 ≡ get_or (drop at bs) 0 0
front_byte bs at = ap (λ k. get_or bs k 0) (sym (add-zero at)) ∙ sym (get_or-drop at bs 0 0)

-- characters take at least as many bytes
pub byte_len_some : (c : ℕ) (cs : List ℕ) → 0 < byte_len (c ∷ cs)
byte_len_some c cs = omega (arith, sum_by-cons len_utf8 c cs, (len_utf8_bounds c).0)

slice_some : (bs : List ℕ) (from to c : ℕ) (cs : List ℕ) → IsSlice bs from to (c ∷ cs) → 0 < to - from
slice_some bs from to c cs h = omega (arith, slice_length bs from to (c ∷ cs) h, byte_len_some c cs)

pub from_begins : (bs : List ℕ) (at c : ℕ) (cs : List ℕ) (k : ℕ) → k < 128 → IsFrom bs at (c ∷ cs) → eqb (get_or bs at 0) k ≡ eqb c k
from_begins bs at c cs k l h = ap (λ x. eqb x k) (front_byte bs at ∙ ap (λ x. get_or x 0 0) h.text) ∙ first_byte c cs k l

pub slice_begins : (bs : List ℕ) (from to c : ℕ) (cs : List ℕ) (k : ℕ) → k < 128 → IsSlice bs from to (c ∷ cs) → eqb (get_or bs from 0) k ≡ eqb c k
slice_begins bs from to c cs k l h = ap (λ x. eqb x k) (front_byte bs from ∙ sym (get_or-take (to - from) (drop from bs) 0 0 (slice_some bs from to c cs h)) ∙ ap (λ x. get_or x 0 0) h.bytes) ∙ first_byte c cs k l
