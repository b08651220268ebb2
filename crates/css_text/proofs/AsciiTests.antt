-- Tests for ASCII characters, which a caller makes on the bytes of a slice.
use Rattle.std.proofs.Common.{◌≡◌, ℕ, ◌+◌, ◌-◌, ◌<◌, Bool, true, false, List, [], ◌∷◌, length, take, drop, refl, ap, sym, ◌∙◌, inl, inr, one-add, arith}
use lib.Utf8.{encodes}
use Rattle.std.specs.Char.{len_utf8}
use Rattle.std.proofs.lemmas.Bool.{cases_lt, false≢true}
use Rattle.std.proofs.lemmas.List.Sums.{sum_by-cons}
use Rattle.std.proofs.lemmas.Str.{encode_ascii, encodes_same, length-encode}
use Rattle.css_text.specs.Characters.{is_space, is_single}
use Rattle.css_text.specs.Forms.{begins_with, space_len}
use Rattle.css_text.specs.Ahead.{byte_len}
use Rattle.css_text.proofs.Bytes.{front_low, is_space-high, is_single-high, space_len-bytes, weigh, weigh-suc, take_weigh, drop_weigh}
use Rattle.css_text.proofs.Transport.{AllLow, begins_with-bytes}
use Rattle.css_text.proofs.Slices.{IsSlice, slice_length, byte_len_some}

-- ASCII characters are their own bytes, and no other characters have these bytes
pub encodes-low : (w : List ℕ) → AllLow w → encodes w ≡ w
encodes-low [] h = refl
encodes-low (c ∷ cs) h = front_low c cs (h.0, encode_ascii c h.0) ∙ ap (λ x. c ∷ x) (encodes-low cs h.1)

pub low_same : (w cs : List ℕ) → AllLow w → encodes cs ≡ w → cs ≡ w
low_same w cs h e = encodes_same cs w (e ∙ sym (encodes-low w h))

pub slice_begins_with : (bs : List ℕ) (from to : ℕ) (ps cs : List ℕ) → AllLow ps → IsSlice bs from to cs → begins_with ps (take (to - from) (drop from bs)) ≡ begins_with ps cs
slice_begins_with bs from to ps cs l h = ap (begins_with ps) h.bytes ∙ begins_with-bytes ps cs l

pub is_space-low : (c : ℕ) → is_space c ≡ true → c < 128
is_space-low c e = elim (cases_lt c 128) [ inl l ↦ l | inr h ↦ absurd (false≢true (sym (is_space-high c h) ∙ e)) ]

pub is_single-low : (c : ℕ) → is_single c ≡ true → c < 128
is_single-low c e = elim (cases_lt c 128) [ inl l ↦ l | inr h ↦ absurd (false≢true (sym (is_single-high c h) ∙ e)) ]

low_len : (c : ℕ) (cs : List ℕ) → c < 128 → byte_len (c ∷ cs) ≡ 1 + byte_len cs
low_len c cs l = sum_by-cons len_utf8 c cs ∙ ap (λ n. n + byte_len cs) (sym (length-encode c) ∙ ap length (encode_ascii c l))

no_bytes : (cs : List ℕ) → byte_len cs ≡ 0 → cs ≡ []
no_bytes [] e = refl
no_bytes (c ∷ cs) e = absurd (omega (arith, byte_len_some c cs))

-- a text that begins with an ASCII character is that character alone exactly where it has one byte
pub slice_one : (bs : List ℕ) (from to c : ℕ) (cs : List ℕ) → c < 128 → IsSlice bs from to (c ∷ cs) → to ≡ from + 1 → cs ≡ []
slice_one bs from to c cs l h e = no_bytes cs (omega (arith, low_len c cs l, slice_length bs from to (c ∷ cs) h))

pub one_slice : (bs : List ℕ) (from to c : ℕ) → c < 128 → IsSlice bs from to (c ∷ []) → to ≡ from + 1
one_slice bs from to c l h = omega (arith, low_len c [] l, slice_length bs from to (c ∷ []) h)

-- a run of white space has as many bytes as characters
weigh_spaces_go : (c : ℕ) (cs : List ℕ) (b : Bool) → is_space c ≡ b → weigh cs (space_len cs) ≡ space_len cs → weigh (c ∷ cs) (space_len (c ∷ cs)) ≡ space_len (c ∷ cs)
weigh_spaces_go c cs true e ih = let n = space_len cs in
    rw e (ap (weigh (c ∷ cs)) (one-add n) ∙ weigh-suc c cs n ∙ ap (λ k. k + weigh cs n) (ap length (encode_ascii c (is_space-low c e))) ∙ ap (λ k. 1 + k) ih)
weigh_spaces_go c cs false e ih = rw e refl

pub weigh_spaces : (cs : List ℕ) → weigh cs (space_len cs) ≡ space_len cs
weigh_spaces [] = refl
weigh_spaces (c ∷ cs) = weigh_spaces_go c cs (is_space c) refl (weigh_spaces cs)

pub space_len-same : (cs : List ℕ) → space_len (encodes cs) ≡ space_len cs
space_len-same cs = space_len-bytes cs ∙ weigh_spaces cs

pub take_spaces : (cs : List ℕ) → take (space_len cs) (encodes cs) ≡ encodes (take (space_len cs) cs)
take_spaces cs = ap (λ n. take n (encodes cs)) (sym (weigh_spaces cs)) ∙ take_weigh cs (space_len cs)

pub drop_spaces : (cs : List ℕ) → drop (space_len cs) (encodes cs) ≡ encodes (drop (space_len cs) cs)
drop_spaces cs = ap (λ n. drop n (encodes cs)) (sym (weigh_spaces cs)) ∙ drop_weigh cs (space_len cs)
