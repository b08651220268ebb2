-- White space at the ends of a text, in its bytes and in its characters.
use Rattle.std.proofs.Common.{◌≡◌, ℕ, ◌+◌, ◌≤◌, Bool, true, false, cond, List, [], ◌∷◌, ◌++◌, length, take, refl, ◌∙◌, sym, ap, inl, inr, one-add, zero-add}
use Rattle.std.specs.Str.{chars, IsUtf8}
use lib.Utf8.{encodes}
use Rattle.std.proofs.lemmas.Str.{encodes-chars}
use Rattle.std.proofs.lemmas.List.{length-take-le}
use Rattle.css_text.specs.Characters.{is_space}
use Rattle.css_text.specs.Forms.{space_len}
use Rattle.css_text.specs.Ahead.{byte_len}
use Rattle.css_text.proofs.Bytes.{AllHigh, low_or_high, front_low, front_high, is_space-high}
use Rattle.css_text.proofs.Transport.{length-bytes}
use Rattle.css_text.proofs.AsciiTests.{space_len-same, weigh_spaces}
use Rattle.css_tree.proofs.Split.{keep, solid_by, tail_by, lead_by, unlead_by}
use Rattle.css_tree.proofs.Trim.{trim-all, lead-all}
use Rattle.css_parse.proofs.Ascii.{IsCut, cut_at, more-bytes}

-- The white space at the start.

lead_go : (c : ℕ) (cs : List ℕ) (n : ℕ) (b : Bool) → is_space c ≡ b → take n cs ≡ lead_by is_space cs → take (cond b (1 + n) 0) (c ∷ cs) ≡ cond b (c ∷ lead_by is_space cs) []
lead_go c cs n true e ih = rw (one-add n) (ap (λ z. c ∷ z) ih)
lead_go c cs n false e ih = refl

lead-spaces : (cs : List ℕ) → take (space_len cs) cs ≡ lead_by is_space cs
unfolding lead_by
lead-spaces [] = refl
lead-spaces (c ∷ cs) = lead_go c cs (space_len cs) (is_space c) refl (lead-spaces cs)

pub lead-cut : (bs : List ℕ) (n : ℕ) → IsUtf8 bs → n ≡ 0 + space_len bs → IsCut bs n (lead_by is_space (chars bs)) (unlead_by is_space (chars bs))
lead-cut bs n u e =
    let cs = chars bs in
    let m : n ≡ space_len cs = e ∙ (zero-add (space_len bs) ∙ (ap space_len (sym (encodes-chars bs u)) ∙ space_len-same cs)) in
    let w : byte_len (lead_by is_space cs) ≡ space_len cs = ap byte_len (sym (lead-spaces cs)) ∙ (sym (length-bytes (take (space_len cs) cs)) ∙ weigh_spaces cs) in
    cut_at bs (lead_by is_space cs) (unlead_by is_space cs) n u (sym (lead-all is_space cs)) (w ∙ sym m)

-- The white space at the end.

keep-bytes : (b : Bool) (c : ℕ) (cs : List ℕ) → ((ds : List ℕ) → encodes (c ∷ ds) ≡ c ∷ encodes ds) → keep b c (encodes cs) ≡ encodes (keep b c cs)
keep-bytes true c [] k = refl
keep-bytes true c (d ∷ ds) k = let m = more-bytes d ds in ap (λ z. keep true c z) m.2 ∙ (ap (λ z. c ∷ z) (sym m.2) ∙ sym (k (d ∷ ds)))
keep-bytes false c cs k = sym (k cs)

solid-past : (xs ys : List ℕ) → AllHigh xs → solid_by is_space (xs ++ ys) ≡ xs ++ solid_by is_space ys
unfolding solid_by
solid-past [] ys h = refl
solid-past (x ∷ xs) ys h = rw (is_space-high x h.0) (ap (λ z. x ∷ z) (solid-past xs ys h.1))

solid-high : (c : ℕ) (cs : List ℕ) → 128 ≤ c → solid_by is_space (c ∷ cs) ≡ c ∷ solid_by is_space cs
unfolding solid_by
solid-high c cs h = rw (is_space-high c h) refl

solid-cons : (c : ℕ) (cs : List ℕ) → solid_by is_space (c ∷ cs) ≡ keep (is_space c) c (solid_by is_space cs)
unfolding solid_by
solid-cons c cs = refl

solid-none : solid_by is_space [] ≡ []
unfolding solid_by
solid-none = refl

solid-bytes : (cs : List ℕ) → solid_by is_space (encodes cs) ≡ encodes (solid_by is_space cs)
solid-bytes [] = solid-none ∙ ap encodes (sym solid-none)
solid-bytes (c ∷ cs) = elim (low_or_high c) [
  | inl l ↦ ap (solid_by is_space) (front_low c cs l) ∙ (solid-cons c (encodes cs) ∙ (ap (λ z. keep (is_space c) c z) (solid-bytes cs)
      ∙ (keep-bytes (is_space c) c (solid_by is_space cs) (λ ds. front_low c ds l) ∙ ap encodes (sym (solid-cons c cs)))))
  | inr h ↦ ap (solid_by is_space) (front_high c cs h) ∙ (solid-past (h.head ∷ h.tail) (encodes cs) (h.head_high, h.tail_high) ∙ (ap (λ z. h.head ∷ (h.tail ++ z)) (solid-bytes cs)
      ∙ (sym (front_high c (solid_by is_space cs) h) ∙ ap encodes (sym (solid-high c cs h.past)))))
]

pub trail-cut : (bs : List ℕ) (n : ℕ) → IsUtf8 bs → take n bs ≡ solid_by is_space bs → n ≤ length bs → IsCut bs n (solid_by is_space (chars bs)) (tail_by is_space (chars bs))
trail-cut bs n u e l =
    let cs = chars bs in
    let w : n ≡ byte_len (solid_by is_space cs) = sym (length-take-le n bs l) ∙ (ap length (e ∙ (ap (solid_by is_space) (sym (encodes-chars bs u)) ∙ solid-bytes cs)) ∙ length-bytes (solid_by is_space cs)) in
    cut_at bs (solid_by is_space cs) (tail_by is_space cs) n u (sym (trim-all is_space cs)) (sym w)
