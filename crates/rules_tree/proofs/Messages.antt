-- Messages in ASCII are their own characters.
use Rattle.std.proofs.Common.{◌≡◌, ℕ, ◌<◌, ◌≤◌, ◌^◌, List, [], ◌∷◌, ◌++◌, Bool, true, ap, ◌∙◌, refl, arith, codes}
use Rattle.std.specs.Prelude.{decimal, nat_lt}
use Rattle.std.specs.List.{list_all}
use Rattle.std.specs.Str.{IsAscii, IsUtf8, chars}
use Rattle.std.proofs.lemmas.Bool.{and_parts}
use Rattle.std.proofs.lemmas.Bool.Decides.{nat_tests}
use Rattle.std.proofs.lemmas.Fmt.{IsAscii-decimal}
use Rattle.std.proofs.lemmas.Str.{chars-IsAscii, chars-append, IsAscii-append, IsUtf8-from_ascii}
use Rattle.std.proofs.lemmas.Str.Ascii.{IsAscii-nil, IsAscii-cons}

low : (c : ℕ) → nat_lt c 128 ≡ true → c < 128
low c h = grind (arith, nat_tests)

pub ascii : (cs : List ℕ) → list_all (λ c. nat_lt c 128) cs ≡ true → IsAscii cs
ascii [] h = IsAscii-nil
ascii (c ∷ cs) h = let p = and_parts (nat_lt c 128) (list_all (λ c. nat_lt c 128) cs) h in IsAscii-cons c cs (low c p.0) (ascii cs p.1)

pub with_number : (bs front : List ℕ) (n : ℕ) → n < 2 ^ 64 → list_all (λ c. nat_lt c 128) front ≡ true → bs ≡ front ++ decimal n → chars bs ≡ front ++ decimal n
with_number bs front n b h e = ap chars e ∙ chars-IsAscii (front ++ decimal n) (IsAscii-append front (decimal n) (ascii front h) (IsAscii-decimal n b))

-- a text between others, of which the first is in ASCII
pub with_text : (bs front s rest out : List ℕ) → IsUtf8 s → list_all (λ c. nat_lt c 128) front ≡ true → chars rest ≡ out → bs ≡ front ++ (s ++ rest) → chars bs ≡ front ++ (chars s ++ out)
with_text bs front s rest out u h k e =
    ap chars e ∙ (chars-append front (s ++ rest) (IsUtf8-from_ascii front (ascii front h))
    ∙ (ap (λ z. z ++ chars (s ++ rest)) (chars-IsAscii front (ascii front h)) ∙ ap (λ z. front ++ z) (chars-append s rest u ∙ ap (λ z. chars s ++ z) k)))

pub ascii_chars : (s : List ℕ) → list_all (λ c. nat_lt c 128) s ≡ true → chars s ≡ s
ascii_chars s h = chars-IsAscii s (ascii s h)

-- two texts, each in quotes
pub two_quoted : (bs front s middle t : List ℕ) → IsUtf8 s → IsUtf8 t → list_all (λ c. nat_lt c 128) front ≡ true → list_all (λ c. nat_lt c 128) middle ≡ true
    → bs ≡ front ++ (s ++ (middle ++ (t ++ 34 ∷ []))) → chars bs ≡ front ++ (chars s ++ (middle ++ (chars t ++ 34 ∷ [])))
two_quoted bs front s middle t u v h k e =
    with_text bs front s (middle ++ (t ++ 34 ∷ [])) (middle ++ (chars t ++ 34 ∷ [])) u h
    (with_text (middle ++ (t ++ 34 ∷ [])) middle t (34 ∷ []) (34 ∷ []) v k (ascii_chars (34 ∷ []) refl) refl) e
