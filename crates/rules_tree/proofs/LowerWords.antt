-- Words in lower-case ASCII, and names that are equal to them in lower case.
use Rattle.std.proofs.Common.{◌≡◌, ℕ, ◌+◌, ◌<◌, List, [], ◌∷◌, Bool, true, false, map, refl, ap, sym, ◌∙◌, subst, arith, eqb, IsTrue, ◌↔◌}
use Rattle.std.specs.Prelude.{◌&&◌, ◌==◌, bytes_eq, nat_lt}
use Rattle.std.specs.Char.{to_ascii_lowercase}
use Rattle.std.specs.List.{list_all}
use Rattle.std.specs.Str.{IsAscii, IsUtf8, chars}
use Rattle.std.proofs.lemmas.Bool.{false≢true, and_parts, eqb-true}
use Rattle.std.proofs.lemmas.Bool.Decides.{nat_tests}
use Rattle.std.proofs.lemmas.Str.{chars-IsAscii, encodes-chars}
use Rattle.std.proofs.lemmas.Str.Ascii.{IsAscii-nil, IsAscii-cons, encodes-IsAscii}
use Rattle.css_tree.specs.Mark.{is_text}
use Rattle.rule_sites.specs.Keyframes.{lower}
use Rattle.rule_sites.proofs.Vendor.{same_word}
use Rattle.rules_tree.specs.Names.{is_lower}

pub same_by : (x y : Bool) → (x ≡ true → y ≡ true) → (y ≡ true → x ≡ true) → x ≡ y
same_by true y f g = sym (f refl)
same_by false true f g = g refl
same_by false false f g = refl

-- a name is compared character by character
pub text_is : (w xs : List ℕ) → bytes_eq (lower xs) w ≡ is_text w xs
text_is [] [] = refl
text_is [] (c ∷ cs) = refl
text_is (p ∷ ps) [] = refl
text_is (p ∷ ps) (c ∷ cs) = ap (λ b. (to_ascii_lowercase c == p) && b) (text_is ps cs)

low : (c p : ℕ) → (nat_lt p 128 && (to_ascii_lowercase p == p)) ≡ true → (to_ascii_lowercase c == p) ≡ true → c < 128
low c p h e = grind (arith, nat_tests)

ascii_text : (w xs : List ℕ) → is_lower w ≡ true → is_text w xs ≡ true → IsAscii xs
ascii_text [] [] h e = IsAscii-nil
ascii_text [] (c ∷ cs) h e = absurd (false≢true e)
ascii_text (p ∷ ps) [] h e = absurd (false≢true e)
ascii_text (p ∷ ps) (c ∷ cs) h e =
    let a = and_parts (nat_lt p 128 && (to_ascii_lowercase p == p)) (is_lower ps) h in
    let b = and_parts (to_ascii_lowercase c == p) (is_text ps cs) e in
    IsAscii-cons c cs (low c p a.0 b.0) (ascii_text ps cs a.1 b.1)

pub lower_same : (w : List ℕ) → is_lower w ≡ true → map to_ascii_lowercase w ≡ w
lower_same [] h = refl
lower_same (p ∷ ps) h =
    let a = and_parts (nat_lt p 128 && (to_ascii_lowercase p == p)) (is_lower ps) h in
    let b = and_parts (nat_lt p 128) (to_ascii_lowercase p == p) a.0 in
    ap (λ z. z ∷ map to_ascii_lowercase ps) (eqb-true (to_ascii_lowercase p) p b.1) ∙ ap (λ z. p ∷ z) (lower_same ps a.1)

text_bytes : (w bs : List ℕ) → is_lower w ≡ true → IsUtf8 bs → is_text w bs ≡ is_text w (chars bs)
text_bytes w bs l u =
    same_by _ _
    (λ h. ap (is_text w) (chars-IsAscii bs (ascii_text w bs l h)) ∙ h)
    (λ h. ap (is_text w) (sym (encodes-chars bs u) ∙ encodes-IsAscii (chars bs) (ascii_text w (chars bs) l h)) ∙ h)

pub text_test : (b : Bool) (s w : List ℕ) → is_lower w ≡ true → IsUtf8 s → (IsTrue b ↔ (map to_ascii_lowercase s ≡ map to_ascii_lowercase w)) → b ≡ is_text w (chars s)
text_test b s w l u h = same_word b s w h (lower_same w l) ∙ (text_is w s ∙ text_bytes w s l u)
