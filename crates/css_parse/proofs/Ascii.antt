-- Texts that are cut at ASCII characters, and tests of those on bytes.
use Rattle.std.proofs.Common.{◌≡◌, ◌⊎◌, ℕ, ◌+◌, ◌-◌, ◌<◌, ◌≤◌, ◌==◌, ◌||◌, Bool, true, false, List, [], ◌∷◌, ◌++◌, length, get_or, take, drop, refl, ap, sym, ◌∙◌, subst, inl, inr, zero-add, arith, true≢false}
use Rattle.std.specs.Str.{chars, IsUtf8, IsCharBoundary}
use Rattle.std.proofs.lemmas.Bool.{ne_eqb}
use lib.Utf8.{encode, encodes}
use Rattle.std.proofs.lemmas.Str.{encodes-chars, IsUtf8-take, IsUtf8-drop}
use Rattle.std.proofs.lemmas.Str.{len_utf8_bounds}
use Rattle.std.proofs.lemmas.List.{length-take-le}
use Rattle.std.proofs.lemmas.List.Sums.{sum_by-cons}
use Rattle.std.specs.Char.{len_utf8}
use Rattle.css_text.specs.declared.lexer.PieceKind.TheVariants as K
use Rattle.css_text.specs.PieceKinds.{IsOfKind}
use Rattle.css_text.specs.Ahead.{byte_len}
use Rattle.css_text.proofs.Bytes.{low_or_high, front_low, front_high, High}
use Rattle.css_text.proofs.Transport.{length-bytes}
use Rattle.css_text.proofs.AsciiTests.{is_single-low}
use Rattle.css_text.proofs.Slices.{IsFrom, IsSlice, from_whole, from_front, from_back, from_middle, chars_of, slice_chars, byte_len_some, byte_len-append}
use Rattle.css_tree.specs.Pieces.{Shape, shape_of, single_shape, at_shape}
use Rattle.css_tree.specs.Fields.{begins_hack}
use Rattle.css_tree.specs.Turn.{begins_dashes}
use Rattle.css_tree.proofs.Split.{hack, hack_by}

-- a text takes its bytes
pub text-length : (bs : List ℕ) → IsUtf8 bs → length bs ≡ byte_len (chars bs)
text-length bs u = ap length (sym (encodes-chars bs u)) ∙ length-bytes (chars bs)

-- a text in two parts
pub record IsCut (bs : List ℕ) (n : ℕ) (xs ys : List ℕ) : Type 0 where
  pub boundary : IsCharBoundary bs n
  pub front : chars (take n bs) ≡ xs
  pub back : chars (drop n bs) ≡ ys

pub cut_at : (bs xs ys : List ℕ) (n : ℕ) → IsUtf8 bs → chars bs ≡ xs ++ ys → byte_len xs ≡ n → IsCut bs n xs ys
cut_at bs xs ys n u e l =
    let h : IsFrom bs 0 (xs ++ ys) = subst (IsFrom bs 0) e (from_whole bs u) in
    let m : 0 + byte_len xs ≡ n = zero-add (byte_len xs) ∙ l in
    let f : IsSlice bs 0 n xs = subst (λ k. IsSlice bs 0 k xs) m (from_front bs 0 xs ys h) in
    let b : IsFrom bs n ys = subst (λ k. IsFrom bs k ys) m (from_back bs 0 xs ys h) in
    let z : n ≡ n - 0 = omega arith in
    record {
      boundary = f.high;
      front = chars_of (take n bs) xs (IsUtf8-take bs n u f.high) (ap (λ k. take k bs) z ∙ f.bytes);
      back = chars_of (drop n bs) ys (IsUtf8-drop bs n u f.high) b.text;
    }

pub cut-size : (bs xs ys : List ℕ) (n : ℕ) → IsUtf8 bs → IsCut bs n xs ys → n ≡ byte_len xs
cut-size bs xs ys n u c = sym (length-take-le n bs c.boundary.0) ∙ (text-length (take n bs) (IsUtf8-take bs n u c.boundary) ∙ ap byte_len c.front)

-- the bytes of ASCII characters
pub single-byte : (bs : List ℕ) (c : ℕ) → IsUtf8 bs → chars bs ≡ c ∷ [] → c < 128 → bs ≡ c ∷ []
single-byte bs c u e l = sym (encodes-chars bs u) ∙ (ap encodes e ∙ low c l (low_or_high c))
  where
    low : (c : ℕ) → c < 128 → ((c < 128) × (encode c ≡ c ∷ [])) ⊎ High c → encodes (c ∷ []) ≡ c ∷ []
    low c l h = elim h [ inl k ↦ front_low c [] k | inr k ↦ absurd (omega (arith, k.past, l)) ]

pub single-shape : (bs : List ℕ) (d : ℕ) → IsUtf8 bs → IsOfKind K.Single (chars bs) → single_shape (get_or bs 0 d ∷ []) ≡ shape_of K.Single (chars bs)
single-shape bs d u h =
    let l : h.0 < 128 = is_single-low h.0 h.1 in
    ap (λ z. single_shape (get_or z 0 d ∷ [])) (single-byte bs h.0 u h.2 l) ∙ ap single_shape (sym h.2)

pub at-shape_name : (bs : List ℕ) → IsUtf8 bs → IsOfKind K.AtWord (chars bs) → 1 < length bs → shape_of K.AtWord (chars bs) ≡ Shape.at_name
at-shape_name bs u h l = by_name h.0 h.1
  where
    by_name : (name : List ℕ) → chars bs ≡ 64 ∷ name → at_shape (chars bs) ≡ Shape.at_name
    by_name [] e = absurd (omega (arith, l, ap length (single-byte bs 64 u e (omega arith))))
    by_name (c ∷ cs) e = ap at_shape e

pub at-shape_bare : (bs : List ℕ) → IsUtf8 bs → IsOfKind K.AtWord (chars bs) → length bs ≤ 1 → shape_of K.AtWord (chars bs) ≡ Shape.bare_at
at-shape_bare bs u h l = by_name h.0 h.1
  where
    long : (c : ℕ) (cs : List ℕ) → chars bs ≡ 64 ∷ c ∷ cs → 1 < length bs
    long c cs e = omega (arith, text-length bs u, ap byte_len e, sum_by-cons len_utf8 64 (c ∷ cs), (len_utf8_bounds 64).0, byte_len_some c cs)

    by_name : (name : List ℕ) → chars bs ≡ 64 ∷ name → at_shape (chars bs) ≡ Shape.bare_at
    by_name [] e = ap at_shape e
    by_name (c ∷ cs) e = absurd (omega (arith, l, long c cs e))

-- The hack of a word.

abbrev star_or_line : ℕ → Bool
star_or_line c = c == 42 || c == 95

high-star : (c : ℕ) → 128 ≤ c → star_or_line c ≡ false
high-star c h = rw (ne_eqb c 42 (λ e. omega arith), ne_eqb c 95 (λ e. omega arith)) refl

hack-cons : (c d e : ℕ) (ds es : List ℕ) → length (hack (c ∷ d ∷ ds)) ≡ length (hack (c ∷ e ∷ es))
hack-cons c d e ds es = by_test (star_or_line c) refl
  where
    by_test : (b : Bool) → star_or_line c ≡ b → length (hack (c ∷ d ∷ ds)) ≡ length (hack (c ∷ e ∷ es))
    by_test b h = rw h refl

hack-plain : (c : ℕ) (cs : List ℕ) → star_or_line c ≡ false → length (hack (c ∷ cs)) ≡ 0
hack-plain c [] h = refl
hack-plain c (d ∷ ds) h = rw h refl

pub more-bytes : (c : ℕ) (cs : List ℕ) → (e : ℕ) × (es : List ℕ) × (encodes (c ∷ cs) ≡ e ∷ es)
more-bytes c cs = elim (low_or_high c) [
  | inl l ↦ (c, encodes cs, front_low c cs l)
  | inr h ↦ (h.head, h.tail ++ encodes cs, front_high c cs h)
]

hack-bytes : (cs : List ℕ) → length (hack (encodes cs)) ≡ length (hack cs)
hack-bytes [] = refl
hack-bytes (c ∷ []) = elim (low_or_high c) [
  | inl l ↦ ap (λ z. length (hack z)) (front_low c [] l)
  | inr h ↦ ap (λ z. length (hack z)) (front_high c [] h) ∙ hack-plain h.head (h.tail ++ []) (high-star h.head h.head_high)
]
hack-bytes (c ∷ d ∷ ds) = elim (low_or_high c) [
  | inl l ↦ let m = more-bytes d ds in ap (λ z. length (hack z)) (front_low c (d ∷ ds) l ∙ ap (λ z. c ∷ z) m.2) ∙ hack-cons c m.0 d m.1 ds
  | inr h ↦ ap (λ z. length (hack z)) (front_high c (d ∷ ds) h) ∙ (hack-plain h.head (h.tail ++ encodes (d ∷ ds)) (high-star h.head h.head_high) ∙ sym (hack-plain c (d ∷ ds) (high-star c h.past)))
]

pub hack-length : (bs : List ℕ) → IsUtf8 bs → length (hack bs) ≡ length (hack (chars bs))
hack-length bs u = ap (λ z. length (hack z)) (sym (encodes-chars bs u)) ∙ hack-bytes (chars bs)

hack_by-all : (b : Bool) (c : ℕ) (cs : List ℕ) → hack_by b (c ∷ cs) ++ drop (length (hack_by b (c ∷ cs))) (c ∷ cs) ≡ c ∷ cs
hack_by-all true c cs = refl
hack_by-all false c cs = refl

pub hack-all : (cs : List ℕ) → hack cs ++ drop (length (hack cs)) cs ≡ cs
hack-all [] = refl
hack-all (c ∷ cs) = hack_by-all (begins_hack (c ∷ cs)) c cs

star-low : (c : ℕ) (b : Bool) → star_or_line c ≡ b → (b ≡ true → byte_len (c ∷ []) ≡ 1)
star-low c b e h = elim (low_or_high c) [
  | inl l ↦ sym (length-bytes (c ∷ [])) ∙ ap length (front_low c [] l)
  | inr k ↦ absurd (true≢false (sym h ∙ (sym e ∙ high-star c k.past)))
]

hack_by-size : (c : ℕ) (cs : List ℕ) (b : Bool) → (b ≡ true → byte_len (c ∷ []) ≡ 1) → byte_len (hack_by b (c ∷ cs)) ≡ length (hack_by b (c ∷ cs))
hack_by-size c cs true h = h refl
hack_by-size c cs false h = refl

pub hack-size : (cs : List ℕ) → byte_len (hack cs) ≡ length (hack cs)
hack-size [] = refl
hack-size (c ∷ []) = refl
hack-size (c ∷ d ∷ ds) = hack_by-size c (d ∷ ds) (star_or_line c) (star-low c (star_or_line c) refl)

-- Dashes at the start.

dashes-bytes : (cs : List ℕ) → begins_dashes (encodes cs) ≡ begins_dashes cs
dashes-bytes [] = refl
dashes-bytes (c ∷ cs) = elim (low_or_high c) [
  | inl l ↦ ap begins_dashes (front_low c cs l) ∙ after_first c cs
  | inr h ↦ ap begins_dashes (front_high c cs h) ∙ (not_dash h.head (h.tail ++ encodes cs) h.head_high ∙ sym (not_dash c cs h.past))
]
  where
    not_dash : (c : ℕ) (cs : List ℕ) → 128 ≤ c → begins_dashes (c ∷ cs) ≡ false
    not_dash c [] h = refl
    not_dash c (d ∷ ds) h = rw (ne_eqb c 45 (λ e. omega arith)) refl

    second : (c d : ℕ) (ds : List ℕ) → begins_dashes (c ∷ encodes (d ∷ ds)) ≡ begins_dashes (c ∷ d ∷ ds)
    second c d ds = elim (low_or_high d) [
      | inl l ↦ ap (λ z. begins_dashes (c ∷ z)) (front_low d ds l)
      | inr h ↦ ap (λ z. begins_dashes (c ∷ z)) (front_high d ds h) ∙ rw (ne_eqb h.head 45 (λ e. let k = h.head_high in omega arith), ne_eqb d 45 (λ e. let k = h.past in omega arith)) refl
    ]

    after_first : (c : ℕ) (cs : List ℕ) → begins_dashes (c ∷ encodes cs) ≡ begins_dashes (c ∷ cs)
    after_first c [] = refl
    after_first c (d ∷ ds) = second c d ds

pub dashes-same : (bs : List ℕ) → IsUtf8 bs → begins_dashes bs ≡ begins_dashes (chars bs)
dashes-same bs u = ap begins_dashes (sym (encodes-chars bs u)) ∙ dashes-bytes (chars bs)

-- The middle of a comment.

pub record IsMiddle (bs inner : List ℕ) : Type 0 where
  pub long : 2 ≤ length bs
  pub order : 2 ≤ length bs - 2
  pub low : IsCharBoundary bs 2
  pub high : IsCharBoundary bs (length bs - 2)
  pub text : chars (take (length bs - 2 - 2) (drop 2 bs)) ≡ inner

pub middle : (bs inner : List ℕ) → IsUtf8 bs → chars bs ≡ 47 ∷ 42 ∷ (inner ++ 42 ∷ 47 ∷ []) → IsMiddle bs inner
middle bs inner u e =
    let h : IsFrom bs 0 ((47 ∷ 42 ∷ []) ++ (inner ++ 42 ∷ 47 ∷ [])) = subst (IsFrom bs 0) e (from_whole bs u) in
    let n : length bs ≡ 2 + (byte_len inner + 2) = text-length bs u ∙ (ap byte_len e ∙ size inner) in
    let m : length bs - 2 ≡ 2 + byte_len inner = omega arith in
    let k : IsSlice bs 2 (2 + byte_len inner) inner = from_middle bs 0 (47 ∷ 42 ∷ []) inner (42 ∷ 47 ∷ []) h in
    let q : IsSlice bs 2 (length bs - 2) inner = subst (λ z. IsSlice bs 2 z inner) (sym m) k in
    record { long = omega arith; order = q.order; low = q.low; high = q.high; text = slice_chars bs 2 (length bs - 2) inner u q }
  where
    size : (inner : List ℕ) → byte_len (47 ∷ 42 ∷ (inner ++ 42 ∷ 47 ∷ [])) ≡ 2 + (byte_len inner + 2)
    size inner = byte_len-append (47 ∷ 42 ∷ []) (inner ++ 42 ∷ 47 ∷ []) ∙ ap (λ z. 2 + z) (byte_len-append inner (42 ∷ 47 ∷ []))
