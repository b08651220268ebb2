-- Two words are one where their characters are.
use Rattle.std.proofs.Common.{◌≡◌, ℕ, List, [], ◌∷◌, Bool, true, false, refl, sym, ap, subst, ◌∙◌, eqb, eq-eqb, arith}
use Rattle.std.specs.Prelude.{bytes_eq, codes}
use Rattle.std.specs.Str.{chars, IsUtf8}
use Rattle.std.proofs.lemmas.Bool.{false≢true, and_parts}
use Rattle.std.proofs.lemmas.Bool.Decides.{nat_tests}
use Rattle.std.proofs.lemmas.Slice.Eq.{bytes_eq-Decides}
use Rattle.std.proofs.lemmas.Str.{encodes-chars}
use lib.Utf8.{encodes}
use Rattle.css_tree.specs.Changes.{same_text}
use Rattle.command_words.specs.Words.{is_end}

one_text : (a b : List ℕ) → IsUtf8 a → IsUtf8 b → chars a ≡ chars b → a ≡ b
one_text a b h k e = sym (encodes-chars a h) ∙ ap encodes e ∙ encodes-chars b k

pub same_by : (x y : Bool) → (x ≡ true → y ≡ true) → (y ≡ true → x ≡ true) → x ≡ y
same_by true y f g = sym (f refl)
same_by false true f g = g refl
same_by false false f g = refl

pub same_from_eqb : (x y : ℕ) → eqb x y ≡ true → x ≡ y
same_from_eqb x y e = grind (arith, nat_tests)

same_self : (t : List ℕ) → same_text t t ≡ true
same_self [] = refl
same_self (x ∷ xs) = rw (eq-eqb x x refl) (same_self xs)

pub same_equal : (t s : List ℕ) → same_text t s ≡ true → t ≡ s
same_equal [] [] h = refl
same_equal [] (y ∷ ys) h = absurd (false≢true h)
same_equal (x ∷ xs) [] h = absurd (false≢true h)
same_equal (x ∷ xs) (y ∷ ys) h =
    let p = and_parts (eqb x y) (same_text xs ys) h in
    let a = same_from_eqb x y p.0 in let b = same_equal xs ys p.1 in cc

pub equal_same : (t s : List ℕ) → t ≡ s → same_text t s ≡ true
equal_same t s e = subst (λ z. same_text t z ≡ true) e (same_self t)

pub same_words : (a b : List ℕ) → IsUtf8 a → IsUtf8 b → bytes_eq a b ≡ same_text (chars a) (chars b)
same_words a b h k =
    let d = bytes_eq-Decides a b in
    same_by _ _ (λ i. equal_same (chars a) (chars b) (ap chars (d.0 i))) (λ i. d.1 (one_text a b h k (same_equal (chars a) (chars b) i)))

-- the dashes as the code has them
pub is_end_chars : (w : List ℕ) → same_text (chars w) (chars (codes "--")) ≡ is_end (chars w)
unfolding chars
is_end_chars w = refl
