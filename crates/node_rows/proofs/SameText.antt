-- Texts are the same where their characters are.
use Rattle.std.proofs.Common.{◌≡◌, ℕ, List, [], ◌∷◌, Bool, true, false, refl, sym, ap, subst, ◌∙◌, eqb, eq-eqb, length, arith}
use Rattle.std.specs.Prelude.{nat_eq}
use Rattle.std.specs.Str.{chars, IsUtf8}
use Rattle.std.specs.Cmp.Lexicographic.{pointwise, same_text as same_bytes}
use Rattle.std.proofs.lemmas.Bool.{false≢true, and_parts}
use Rattle.std.proofs.lemmas.Cmp.{nat_list_eq_equiv}
use Rattle.std.proofs.lemmas.Str.{encodes-chars, chars-nil, IsUtf8-nil}
use lib.Utf8.{encodes}
use Rattle.css_tree.specs.Changes.{same_text, is_empty_text}
use Rattle.node_rows.proofs.Climb.{same_from_eqb}

one_text : (a b : List ℕ) → IsUtf8 a → IsUtf8 b → chars a ≡ chars b → a ≡ b
one_text a b h k e = sym (encodes-chars a h) ∙ ap encodes e ∙ encodes-chars b k

pub same_by : (x y : Bool) → (x ≡ true → y ≡ true) → (y ≡ true → x ≡ true) → x ≡ y
same_by true y f g = sym (f refl)
same_by false true f g = g refl
same_by false false f g = refl

same_self : (t : List ℕ) → same_text t t ≡ true
same_self [] = refl
same_self (x ∷ xs) = rw (eq-eqb x x refl) (same_self xs)

pub same_equal : (t s : List ℕ) → same_text t s ≡ true → t ≡ s
same_equal [] [] h = refl
same_equal [] (y ∷ ys) h = absurd (false≢true h)
same_equal (x ∷ xs) [] h = absurd (false≢true h)
same_equal (x ∷ xs) (y ∷ ys) h =
    let p = and_parts (eqb x y) (same_text xs ys) h in
    let a = same_from_eqb x y p.0 in let b = same_equal xs ys p.1 in cc

pub equal_same : (t s : List ℕ) → t ≡ s → same_text t s ≡ true
equal_same t s e = subst (λ z. same_text t z ≡ true) e (same_self t)

bytes_same : (a b : List ℕ) → a ≡ b → pointwise nat_eq a b ≡ true
bytes_same a b e = subst (λ z. pointwise nat_eq a z ≡ true) e (nat_list_eq_equiv.refl a)

-- the bytes of a text t are those of b where t has b's characters
pub same_chars : (a b t : List ℕ) → IsUtf8 a → IsUtf8 b → chars a ≡ t → pointwise nat_eq a b ≡ same_text (chars b) t
same_chars a b t h k e =
    same_by _ _ (λ i. equal_same (chars b) t (sym (ap chars (same_bytes a b (sym i))) ∙ e)) (λ i. bytes_same a b (one_text a b h k (e ∙ sym (same_equal (chars b) t i))))

empty_text : (s cs : List ℕ) → IsUtf8 s → chars s ≡ cs → is_empty_text cs ≡ true → s ≡ []
empty_text s [] h e i = one_text s [] h IsUtf8-nil (e ∙ sym chars-nil)
empty_text s (c ∷ cs) h e i = absurd (false≢true i)

-- a text has no bytes where it has no characters
pub empty_chars : (s : List ℕ) → IsUtf8 s → eqb (length s) 0 ≡ is_empty_text (chars s)
empty_chars [] h = rw chars-nil refl
empty_chars (x ∷ xs) h =
    same_by _ _ (λ i. absurd (let e = same_from_eqb (length (x ∷ xs)) 0 i in omega arith)) (λ i. absurd (let e = empty_text (x ∷ xs) (chars (x ∷ xs)) h refl i in cc))
