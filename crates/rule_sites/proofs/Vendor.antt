-- The names of keyframes at-rules are ASCII, so that their bytes are their characters.
use Rattle.std.proofs.Common.{◌≡◌, ℕ, suc, ◌+◌, ◌<◌, ◌≤◌, List, [], ◌∷◌, Bool, true, false, map, refl, ap, sym, ◌∙◌, subst, arith, eqb, cond, drop, codes, IsTrue, ◌↔◌, ◌⊎◌, inl, inr}
use Rattle.std.specs.Prelude.{◌&&◌, ◌||◌, not, bytes_eq, nat_lt}
use Rattle.std.specs.Char.{to_ascii_lowercase, is_ascii_alphabetic}
use Rattle.std.specs.List.{prefix_len}
use Rattle.std.specs.Str.{IsAscii, IsUtf8, chars}
use Rattle.std.proofs.lemmas.Bool.{false≢true, and_parts, eqb-true, ne_eqb}
use Rattle.std.proofs.lemmas.Bool.Decides.{nat_tests}
use Rattle.std.proofs.lemmas.Slice.Eq.{bytes_eq-Decides}
use Rattle.std.proofs.lemmas.List.{drop-map}
use Rattle.std.proofs.lemmas.Str.{chars-IsAscii, encodes-chars}
use Rattle.std.proofs.lemmas.Str.Ascii.{IsAscii-nil, IsAscii-cons, encodes-IsAscii}
use Rattle.rule_sites.specs.Keyframes.{lower, is_prefixed, is_vendor_name, is_keyframes_name}

same_by : (x y : Bool) → (x ≡ true → y ≡ true) → (y ≡ true → x ≡ true) → x ≡ y
same_by true y f g = sym (f refl)
same_by false true f g = g refl
same_by false false f g = refl

or_either : (x y : Bool) → (x || y) ≡ true → (x ≡ true) ⊎ (y ≡ true)
or_either true y e = inl refl
or_either false y e = inr e

-- a byte or character whose lower case is below 128 is so too
low_from_lower : (c : ℕ) → to_ascii_lowercase c < 128 → c < 128
low_from_lower c h = grind (arith, nat_tests)

letter_low : (c : ℕ) → is_ascii_alphabetic c ≡ true → c < 128
letter_low c h = grind (arith, nat_tests)

ascii_tail : (c : ℕ) (cs : List ℕ) → IsAscii (c ∷ cs) → IsAscii cs
ascii_tail c cs h i = h (suc i)

ascii_lower : (cs : List ℕ) → IsAscii (lower cs) → IsAscii cs
ascii_lower [] h = IsAscii-nil
ascii_lower (c ∷ cs) h = IsAscii-cons c cs (low_from_lower c (h 0)) (ascii_lower cs (ascii_tail (to_ascii_lowercase c) (lower cs) h))

abbrev are_low : List ℕ → Bool
are_low [] = true
are_low (c ∷ cs) = nat_lt c 128 && are_low cs

low_from_test : (c : ℕ) → nat_lt c 128 ≡ true → c < 128
low_from_test c h = grind (arith, nat_tests)

ascii_from_test : (cs : List ℕ) → are_low cs ≡ true → IsAscii cs
ascii_from_test [] h = IsAscii-nil
ascii_from_test (c ∷ cs) h = let p = and_parts (nat_lt c 128) (are_low cs) h in IsAscii-cons c cs (low_from_test c p.0) (ascii_from_test cs p.1)

keyframes_ascii : IsAscii (codes "keyframes")
keyframes_ascii = ascii_from_test (codes "keyframes") refl

suffix_ascii : IsAscii (codes "-keyframes")
suffix_ascii = ascii_from_test (codes "-keyframes") refl

-- letters and then ASCII are ASCII
prefixed_ascii : (b : Bool) (c : ℕ) (cs : List ℕ) → is_ascii_alphabetic c ≡ b → (IsAscii (drop (prefix_len is_ascii_alphabetic cs) cs) → IsAscii cs) → IsAscii (drop (cond b (1 + prefix_len is_ascii_alphabetic cs) 0) (c ∷ cs)) → IsAscii (c ∷ cs)
prefixed_ascii true c cs e f h = let g : 1 + prefix_len is_ascii_alphabetic cs ≡ suc (prefix_len is_ascii_alphabetic cs) = omega arith in IsAscii-cons c cs (letter_low c e) (f (subst (λ k. IsAscii (drop k (c ∷ cs))) g h))
prefixed_ascii false c cs e f h = h

letters_then : (cs : List ℕ) → IsAscii (drop (prefix_len is_ascii_alphabetic cs) cs) → IsAscii cs
letters_then [] h = h
letters_then (c ∷ cs) h = prefixed_ascii (is_ascii_alphabetic c) c cs refl (letters_then cs) h

equal_from : (xs ys : List ℕ) → bytes_eq xs ys ≡ true → xs ≡ ys
equal_from xs ys h = (bytes_eq-Decides xs ys).0 h

vendor_ascii : (cs : List ℕ) → is_vendor_name cs ≡ true → IsAscii cs
vendor_ascii [] h = absurd (false≢true h)
vendor_ascii (c ∷ cs) h =
    let p = and_parts (eqb c 45) (is_prefixed cs) h in
    let q = and_parts (not (eqb (prefix_len is_ascii_alphabetic cs) 0)) (bytes_eq (drop (prefix_len is_ascii_alphabetic cs) cs) (codes "-keyframes")) p.1 in
    let e : c ≡ 45 = eqb-true c 45 p.0 in
    IsAscii-cons c cs (omega (arith, e)) (letters_then cs (subst IsAscii (sym (equal_from (drop (prefix_len is_ascii_alphabetic cs) cs) (codes "-keyframes") q.1)) suffix_ascii))

name_ascii : (cs : List ℕ) → is_keyframes_name cs ≡ true → IsAscii cs
unfolding is_keyframes_name
name_ascii cs h =
    elim (or_either (bytes_eq (lower cs) (codes "keyframes")) (is_vendor_name (lower cs)) h) [
      | inl e ↦ ascii_lower cs (subst IsAscii (sym (equal_from (lower cs) (codes "keyframes") e)) keyframes_ascii)
      | inr e ↦ ascii_lower cs (vendor_ascii (lower cs) e)
    ]

-- of bytes as of the characters that they spell
pub name_bytes : (bs : List ℕ) → IsUtf8 bs → is_keyframes_name bs ≡ is_keyframes_name (chars bs)
name_bytes bs u =
    same_by _ _
    (λ h. ap is_keyframes_name (chars-IsAscii bs (name_ascii bs h)) ∙ h)
    (λ h. ap is_keyframes_name (sym (encodes-chars bs u) ∙ encodes-IsAscii (chars bs) (name_ascii (chars bs) h)) ∙ h)

-- what `eq_ignore_ascii_case` answers, where the word is in lower case
pub same_word : (b : Bool) (s w : List ℕ) → (IsTrue b ↔ (map to_ascii_lowercase s ≡ map to_ascii_lowercase w)) → map to_ascii_lowercase w ≡ w → b ≡ bytes_eq (lower s) w
same_word b s w h l =
    same_by b (bytes_eq (lower s) w)
    (λ e. (bytes_eq-Decides (lower s) w).1 (h.0 e ∙ l))
    (λ e. h.1 (equal_from (lower s) w e ∙ sym l))

letter_lower : (c : ℕ) → is_ascii_alphabetic (to_ascii_lowercase c) ≡ is_ascii_alphabetic c
letter_lower c = grind (arith, nat_tests)

-- as many letters in lower case
pub letters_lower : (cs : List ℕ) → prefix_len is_ascii_alphabetic (lower cs) ≡ prefix_len is_ascii_alphabetic cs
letters_lower [] = refl
letters_lower (c ∷ cs) = rw (letter_lower c, letters_lower cs) refl

-- a name after its letters
pub prefixed_at : (name : List ℕ) (n : ℕ) → n ≡ prefix_len is_ascii_alphabetic name → (not (eqb n 0) && bytes_eq (lower (drop n name)) (codes "-keyframes")) ≡ is_prefixed (lower name)
prefixed_at name n e =
    ap (λ z. not (eqb n 0) && bytes_eq z (codes "-keyframes")) (sym (drop-map to_ascii_lowercase n name))
    ∙ ap (λ z. not (eqb z 0) && bytes_eq (drop z (lower name)) (codes "-keyframes")) (e ∙ sym (letters_lower name))

pub where_some : (n : ℕ) (b : Bool) → 0 < n → b ≡ (not (eqb n 0) && b)
where_some n b h = let e : eqb n 0 ≡ false = ne_eqb n 0 (λ z. absurd (omega (arith, z))) in rw e refl

pub where_none : (n : ℕ) (b : Bool) → n ≤ 0 → nat_lt 0 n ≡ (not (eqb n 0) && b)
where_none n b h = let e : n ≡ 0 = omega arith in rw e refl
