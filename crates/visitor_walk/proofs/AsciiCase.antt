-- Lower ASCII case of characters, and of their bytes.
use Rattle.std.proofs.Common.{rules, ◌≡◌, ℕ, ◌<◌, ◌≤◌, List, [], ◌∷◌, ◌++◌, Bool, true, false, map, refl, ap, sym, ◌∙◌, inl, inr, arith}
use Rattle.std.specs.Prelude.{IsTrue, ◌↔◌, nat_eq}
use Rattle.std.specs.Char.{to_ascii_lowercase}
use Rattle.std.specs.Str.{chars, IsUtf8}
use Rattle.std.proofs.lemmas.Str.{encodes-chars, chars-encodes, scalars-chars}
use Rattle.std.proofs.lemmas.List.{map-append}
use Rattle.std.proofs.lemmas.Bool.{and_parts, and_from}
use Rattle.std.proofs.lemmas.Bool.Decides.{nat_tests}
use Rattle.std.specs.Cmp.Lexicographic.{pointwise}
use lib.Utf8.{encode, encodes, scalar, scalars}
use Rattle.css_text.proofs.Bytes.{AllHigh, low_or_high, front_low, front_high}
use Rattle.css_tree.specs.Changes.{same_text}
use Rattle.node_rows.proofs.SameText.{same_equal, equal_same, same_chars}

lower_high : (c : ℕ) → 128 ≤ c → to_ascii_lowercase c ≡ c
lower_high c h = grind arith

lower_low : (c : ℕ) → c < 128 → to_ascii_lowercase c < 128
lower_low c h = grind arith

lower_all_high : (xs : List ℕ) → AllHigh xs → map to_ascii_lowercase xs ≡ xs
lower_all_high [] h = refl
lower_all_high (x ∷ xs) h = let a = lower_high x h.0 in let b = lower_all_high xs h.1 in cc

pub lower_bytes : (cs : List ℕ) → map to_ascii_lowercase (encodes cs) ≡ encodes (map to_ascii_lowercase cs)
lower_bytes [] = refl
lower_bytes (c ∷ cs) = elim (low_or_high c) [
  | inl l ↦
      let k : to_ascii_lowercase c < 128 = lower_low c l.0 in
      let same : (to_ascii_lowercase c < 128) × (encode (to_ascii_lowercase c) ≡ to_ascii_lowercase c ∷ []) = elim (low_or_high (to_ascii_lowercase c)) [ inl m ↦ m | inr h ↦ absurd (let p = h.past in omega arith) ] in
      ap (map to_ascii_lowercase) (front_low c cs l) ∙ (ap (λ x. to_ascii_lowercase c ∷ x) (lower_bytes cs) ∙ sym (front_low (to_ascii_lowercase c) (map to_ascii_lowercase cs) same))
  | inr h ↦
      ap (map to_ascii_lowercase) (front_high c cs h) ∙ (map-append to_ascii_lowercase (h.head ∷ h.tail) (encodes cs)
      ∙ (ap (λ x. x ++ map to_ascii_lowercase (encodes cs)) (lower_all_high (h.head ∷ h.tail) (h.head_high, h.tail_high))
      ∙ (ap (λ x. (h.head ∷ h.tail) ++ x) (lower_bytes cs)
      ∙ (sym (front_high c (map to_ascii_lowercase cs) h) ∙ ap (λ d. encodes (d ∷ map to_ascii_lowercase cs)) (sym (lower_high c h.past))))))
]

same_by : (x y : Bool) → (x ≡ true → y ≡ true) → (y ≡ true → x ≡ true) → x ≡ y
same_by true y f g = sym (f refl)
same_by false true f g = g refl
same_by false false f g = refl

pub same_text_comm : (a b : List ℕ) → same_text a b ≡ same_text b a
same_text_comm a b = same_by _ _ (λ h. equal_same b a (sym (same_equal a b h))) (λ h. equal_same a b (sym (same_equal b a h)))

scalar_low : (c : ℕ) → c < 128 → scalar c ≡ true
scalar_low c h = grind (arith, nat_tests)

scalar_lower : (c : ℕ) → scalar c ≡ true → scalar (to_ascii_lowercase c) ≡ true
scalar_lower c h = elim (low_or_high c) [ inl l ↦ scalar_low (to_ascii_lowercase c) (lower_low c l.0) | inr k ↦ ap scalar (lower_high c k.past) ∙ h ]

scalars_lower : (cs : List ℕ) → scalars cs ≡ true → scalars (map to_ascii_lowercase cs) ≡ true
scalars_lower [] h = refl
scalars_lower (c ∷ cs) h = let p = and_parts (scalar c) (scalars cs) h in and_from (scalar (to_ascii_lowercase c)) (scalars (map to_ascii_lowercase cs)) (scalar_lower c p.0) (scalars_lower cs p.1)

lower_chars : (a : List ℕ) → IsUtf8 a → chars (map to_ascii_lowercase a) ≡ map to_ascii_lowercase (chars a)
lower_chars a u = ap (λ x. chars (map to_ascii_lowercase x)) (sym (encodes-chars a u)) ∙ (ap chars (lower_bytes (chars a)) ∙ chars-encodes (map to_ascii_lowercase (chars a)) (scalars_lower (chars a) (scalars-chars a u)))

lower_encodes : (a : List ℕ) → IsUtf8 a → encodes (map to_ascii_lowercase (chars a)) ≡ map to_ascii_lowercase a
lower_encodes a u = sym (lower_bytes (chars a)) ∙ ap (map to_ascii_lowercase) (encodes-chars a u)

-- texts whose bytes are equal in lower case
pub same_lower : (a b : List ℕ) (r : Bool) → IsUtf8 a → IsUtf8 b → (IsTrue r ↔ (map to_ascii_lowercase a ≡ map to_ascii_lowercase b)) → r ≡ same_text (map to_ascii_lowercase (chars a)) (map to_ascii_lowercase (chars b))
same_lower a b r u v h = same_by _ _
    (λ i. equal_same _ _ (sym (lower_chars a u) ∙ (ap chars (h.0 (search (rules, i))) ∙ lower_chars b v)))
    (λ i. let e : map to_ascii_lowercase a ≡ map to_ascii_lowercase b = sym (lower_encodes a u) ∙ (ap encodes (same_equal _ _ i) ∙ lower_encodes b v) in let t : IsTrue r = h.1 e in search rules)

star_text : IsUtf8 (42 ∷ [])
unfolding encode
star_text = (42 ∷ [], (refl, refl))

star_chars : chars (42 ∷ []) ≡ 42 ∷ []
unfolding encode
star_chars = chars-encodes (42 ∷ []) refl

pub same_star : (a t : List ℕ) → IsUtf8 a → chars a ≡ t → pointwise nat_eq a (42 ∷ []) ≡ same_text t (42 ∷ [])
same_star a t u e = same_chars a (42 ∷ []) t u star_text e ∙ (ap (λ x. same_text x t) star_chars ∙ same_text_comm (42 ∷ []) t)
