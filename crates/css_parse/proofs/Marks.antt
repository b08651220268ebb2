-- The important mark, in bytes and in characters, and at the end of pieces.
use Rattle.std.proofs.Common.{◌≡◌, ℕ, zero, suc, ◌+◌, ◌<◌, ◌≤◌, ◌≢◌, ◌==◌, ◌&&◌, not, Bool, true, false, cond, List, [], ◌∷◌, ◌++◌, length, take, drop, get_or, Option, Some, None, refl, ◌∙◌, sym, ap, inl, inr, add-one, add-zero, drop-cons, take-append-drop, arith}
use Rattle.std.specs.Option.{option_map}
use Rattle.std.specs.Char.{to_ascii_lowercase}
use Rattle.std.proofs.lemmas.Bool.{ne_eqb, eq-eqb, le-ltb}
use Rattle.std.specs.Str.{chars, IsUtf8}
use Rattle.std.proofs.lemmas.Str.{encodes-chars}
use lib.Utf8.{encode, encodes}
use Rattle.css_text.specs.Forms.{shifted}
use Rattle.css_text.proofs.Bytes.{AllHigh, low_or_high, front_low, front_high, weigh, weigh-suc}
use Rattle.css_text.proofs.Transport.{AllLow, length-bytes}
use Rattle.css_tree.specs.Mark.{is_text, mark_at, important_letters}
use Rattle.css_parse.proofs.Ascii.{IsCut, cut_at, more-bytes}

-- The letters.

pub text-step : (ls t : List ℕ) (i d : ℕ) → i < length t → i < length ls
    → is_text (drop i ls) (drop i t) ≡ (to_ascii_lowercase (get_or t i d) == get_or ls i d && is_text (drop (i + 1) ls) (drop (i + 1) t))
text-step ls t i d l k = rw (drop-cons t i d l, drop-cons ls i d k, add-one i) refl

pub text-same : (ls t : List ℕ) (i d : ℕ) → i < length t → i < length ls → to_ascii_lowercase (get_or t i d) ≡ get_or ls i d
    → is_text (drop i ls) (drop i t) ≡ is_text (drop (i + 1) ls) (drop (i + 1) t)
text-same ls t i d l k h = text-step ls t i d l k ∙ ap (λ z. z && is_text (drop (i + 1) ls) (drop (i + 1) t)) (eq-eqb _ _ h)

pub text-other : (ls t : List ℕ) (i d : ℕ) → i < length t → i < length ls → to_ascii_lowercase (get_or t i d) ≢ get_or ls i d → is_text (drop i ls) (drop i t) ≡ false
text-other ls t i d l k h = text-step ls t i d l k ∙ ap (λ z. z && is_text (drop (i + 1) ls) (drop (i + 1) t)) (ne_eqb _ _ h)

pub text-short : (ls t : List ℕ) → length t ≢ length ls → is_text ls t ≡ false
text-short [] [] h = absurd (h refl)
text-short [] (c ∷ cs) h = refl
text-short (p ∷ ps) [] h = refl
text-short (p ∷ ps) (c ∷ cs) h = by_head (to_ascii_lowercase c == p) (text-short ps cs (λ e. h (ap suc e)))
  where
    by_head : (b : Bool) → is_text ps cs ≡ false → (b && is_text ps cs) ≡ false
    by_head true e = e
    by_head false e = refl

drop-all : (xs : List ℕ) (n : ℕ) → length xs ≤ n → drop n xs ≡ []
drop-all [] n l = drop-nil n
  where
    drop-nil : (n : ℕ) → ◌≡◌ {A = List ℕ} (drop n []) []
    drop-nil zero = refl
    drop-nil (suc n) = refl
drop-all (x ∷ xs) zero l = absurd (omega arith)
drop-all (x ∷ xs) (suc n) l = drop-all xs n (omega arith)

pub text-end : (ls t : List ℕ) (i : ℕ) → length t ≤ i → length ls ≤ i → is_text (drop i ls) (drop i t) ≡ true
text-end ls t i a b = rw (drop-all ls i b, drop-all t i a) refl

-- The place of the mark, at an index.

pub mark-step : (h : Bool) (ls t : List ℕ) (i d : ℕ) → i < length t
    → mark_at h ls (drop i t) ≡ cond (not h && (get_or t i d == 33 && is_text ls (drop (i + 1) t))) (Some 0) (option_map suc (mark_at (not h && get_or t i d == 92) ls (drop (i + 1) t)))
mark-step h ls t i d l = rw (drop-cons t i d l, add-one i) refl

shifted-suc : (i : ℕ) (x : Option ℕ) → shifted i (option_map suc x) ≡ shifted (i + 1) x
unfolding shifted
shifted-suc i None = refl
shifted-suc i (Some n) = ap Some (omega arith)

same-index : (i : ℕ) → ◌≡◌ {A = Option ℕ} (Some (i + 0)) (Some i)
same-index i = rw (add-zero i) refl

pub mark-here : (h : Bool) (ls t : List ℕ) (i d : ℕ) → i < length t → (not h && (get_or t i d == 33 && is_text ls (drop (i + 1) t))) ≡ true → shifted i (mark_at h ls (drop i t)) ≡ Some i
unfolding shifted
mark-here h ls t i d l e = let k : mark_at h ls (drop i t) ≡ Some 0 = mark-step h ls t i d l ∙ rw e refl in ap (shifted i) k ∙ same-index i

pub mark-later : (h k : Bool) (ls t : List ℕ) (i d : ℕ) → i < length t → (not h && (get_or t i d == 33 && is_text ls (drop (i + 1) t))) ≡ false → (not h && get_or t i d == 92) ≡ k
    → shifted i (mark_at h ls (drop i t)) ≡ shifted (i + 1) (mark_at k ls (drop (i + 1) t))
mark-later h k ls t i d l e f =
    ap (shifted i) (mark-step h ls t i d l ∙ rw (e, f) refl) ∙ shifted-suc i (mark_at k ls (drop (i + 1) t))

shifted-zero : (x : Option ℕ) → x ≡ shifted 0 x
unfolding shifted
shifted-zero None = refl
shifted-zero (Some n) = ap Some (omega arith)

pub mark-start : (ls t : List ℕ) → mark_at false ls t ≡ shifted 0 (mark_at false ls (drop 0 t))
mark-start ls t = shifted-zero (mark_at false ls t)

pub mark-end : (h : Bool) (ls t : List ℕ) (i : ℕ) → length t ≤ i → shifted i (mark_at h ls (drop i t)) ≡ None
unfolding shifted
mark-end h ls t i l = rw (drop-all t i l) refl

-- From bytes to characters.

lower-high : (c : ℕ) → 128 ≤ c → to_ascii_lowercase c ≡ c
lower-high c h = rw (le-ltb c 65 (omega arith), le-ltb c 91 (omega arith)) refl

letter-high : (c p : ℕ) (b : Bool) → 128 ≤ c → p < 128 → (to_ascii_lowercase c == p && b) ≡ false
letter-high c p b h l = rw (lower-high c h, ne_eqb c p (λ e. omega arith)) refl

text-empty : (c : ℕ) (cs : List ℕ) → is_text [] (encodes (c ∷ cs)) ≡ false
text-empty c cs = let m = more-bytes c cs in ap (is_text []) m.2

text-bytes : (ls cs : List ℕ) → AllLow ls → is_text ls (encodes cs) ≡ is_text ls cs
text-bytes [] [] h = refl
text-bytes [] (c ∷ cs) h = text-empty c cs
text-bytes (p ∷ ps) [] h = refl
text-bytes (p ∷ ps) (c ∷ cs) h = elim (low_or_high c) [
  | inl l ↦ ap (is_text (p ∷ ps)) (front_low c cs l) ∙ ap (λ z. to_ascii_lowercase c == p && z) (text-bytes ps cs h.1)
  | inr k ↦ ap (is_text (p ∷ ps)) (front_high c cs k) ∙ (letter-high k.head p (is_text ps (k.tail ++ encodes cs)) k.head_high h.0 ∙ sym (letter-high c p (is_text ps cs) k.past h.0))
]

mark-other : (h : Bool) (ls t : List ℕ) (c : ℕ) → 128 ≤ c → mark_at h ls (c ∷ t) ≡ option_map suc (mark_at false ls t)
mark-other true ls t c e = refl
mark-other false ls t c e = rw (ne_eqb c 33 (λ z. omega arith), ne_eqb c 92 (λ z. omega arith)) refl

map-suc : (k : ℕ) (x : Option ℕ) → option_map suc (option_map (λ n. k + n) x) ≡ option_map (λ n. suc k + n) x
map-suc k None = refl
map-suc k (Some n) = ap Some (omega arith)

map-zero : (x : Option ℕ) → x ≡ option_map (λ n. 0 + n) x
map-zero None = refl
map-zero (Some n) = ap Some (omega arith)

mark-past : (ls xs ys : List ℕ) → AllHigh xs → mark_at false ls (xs ++ ys) ≡ option_map (λ n. length xs + n) (mark_at false ls ys)
mark-past ls [] ys h = map-zero (mark_at false ls ys)
mark-past ls (x ∷ xs) ys h = mark-other false ls (xs ++ ys) x h.0 ∙ (ap (option_map suc) (mark-past ls xs ys h.1) ∙ map-suc (length xs) (mark_at false ls ys))

weigh-map : (c : ℕ) (cs : List ℕ) (k : ℕ) (x : Option ℕ) → length (encode c) ≡ suc k → option_map (λ n. suc k + n) (option_map (weigh cs) x) ≡ option_map (weigh (c ∷ cs)) (option_map suc x)
weigh-map c cs k None e = refl
weigh-map c cs k (Some m) e = ap Some (sym (weigh-suc c cs m ∙ ap (λ z. z + weigh cs m) e))

low-if : (c : ℕ) (cs : List ℕ) (b : Bool) (x y : Option ℕ) → length (encode c) ≡ 1 → x ≡ option_map (weigh cs) y
    → cond b (Some 0) (option_map suc x) ≡ option_map (weigh (c ∷ cs)) (cond b (Some 0) (option_map suc y))
low-if c cs true x y e h = refl
low-if c cs false x None e h = ap (option_map suc) h
low-if c cs false x (Some m) e h = ap (option_map suc) h ∙ ap Some (let w = weigh-suc c cs m in omega (arith, w, e))

mark-bytes : (cs : List ℕ) (h : Bool) (ls : List ℕ) → AllLow ls → mark_at h ls (encodes cs) ≡ option_map (weigh cs) (mark_at h ls cs)
mark-bytes [] h ls a = refl
mark-bytes (c ∷ cs) h ls a = elim (low_or_high c) [
  | inl l ↦ ap (mark_at h ls) (front_low c cs l)
      ∙ (ap (λ z. cond (not h && (c == 33 && z)) (Some 0) (option_map suc (mark_at (not h && c == 92) ls (encodes cs)))) (text-bytes ls cs a)
      ∙ low-if c cs (not h && (c == 33 && is_text ls cs)) (mark_at (not h && c == 92) ls (encodes cs)) (mark_at (not h && c == 92) ls cs) (ap length l.1) (mark-bytes cs (not h && c == 92) ls a))
  | inr k ↦ ap (mark_at h ls) (front_high c cs k)
      ∙ (mark-other h ls (k.tail ++ encodes cs) k.head k.head_high
      ∙ (ap (option_map suc) (mark-past ls k.tail (encodes cs) k.tail_high)
      ∙ (map-suc (length k.tail) (mark_at false ls (encodes cs))
      ∙ (ap (option_map (λ n. suc (length k.tail) + n)) (mark-bytes cs false ls a)
      ∙ (weigh-map c cs (length k.tail) (mark_at false ls cs) (ap length k.is) ∙ ap (option_map (weigh (c ∷ cs))) (sym (mark-other h ls cs c k.past)))))))
]

pub text-chars : (ls bs : List ℕ) → AllLow ls → IsUtf8 bs → is_text ls bs ≡ is_text ls (chars bs)
text-chars ls bs a u = ap (is_text ls) (sym (encodes-chars bs u)) ∙ text-bytes ls (chars bs) a

some-none : (n : ℕ) → ◌≡◌ {A = Option ℕ} (Some n) None → ⊥
some-none n e = cc

some-inj : (m n : ℕ) → ◌≡◌ {A = Option ℕ} (Some m) (Some n) → m ≡ n
some-inj m n e = cc

map-none : (f : ℕ → ℕ) (x : Option ℕ) → option_map f x ≡ None → x ≡ None
map-none f None e = refl
map-none f (Some n) e = absurd (some-none (f n) e)

map-some : (f : ℕ → ℕ) (x : Option ℕ) (n : ℕ) → option_map f x ≡ Some n → (k : ℕ) × (x ≡ Some k) × (f k ≡ n)
map-some f None n e = absurd (some-none n (sym e))
map-some f (Some k) n e = (k, refl, some-inj (f k) n e)

at-chars : (ls bs : List ℕ) → AllLow ls → IsUtf8 bs → mark_at false ls bs ≡ option_map (weigh (chars bs)) (mark_at false ls (chars bs))
at-chars ls bs a u = ap (mark_at false ls) (sym (encodes-chars bs u)) ∙ mark-bytes (chars bs) false ls a

pub mark-none : (ls bs : List ℕ) → AllLow ls → IsUtf8 bs → mark_at false ls bs ≡ None → mark_at false ls (chars bs) ≡ None
mark-none ls bs a u e = map-none (weigh (chars bs)) (mark_at false ls (chars bs)) (sym (at-chars ls bs a u) ∙ e)

pub record MarkCut (ls bs : List ℕ) (n : ℕ) : Type 0 where
  pub place : ℕ
  pub found : mark_at false ls (chars bs) ≡ Some place
  pub cut : IsCut bs n (take place (chars bs)) (drop place (chars bs))

pub mark-cut : (ls bs : List ℕ) (n : ℕ) → AllLow ls → IsUtf8 bs → mark_at false ls bs ≡ Some n → MarkCut ls bs n
mark-cut ls bs n a u e =
    let h = map-some (weigh (chars bs)) (mark_at false ls (chars bs)) n (sym (at-chars ls bs a u) ∙ e) in
    record {
      place = h.0;
      found = h.1;
      cut = cut_at bs (take h.0 (chars bs)) (drop h.0 (chars bs)) n u (sym (take-append-drop h.0 (chars bs))) (sym (length-bytes (take h.0 (chars bs))) ∙ h.2);
    }

pub important-low : AllLow important_letters
important-low = (omega arith, (omega arith, (omega arith, (omega arith, (omega arith, (omega arith, (omega arith, (omega arith, (omega arith, tt)))))))))
