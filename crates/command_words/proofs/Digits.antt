-- What `parse` makes of digits.
use Rattle.std.proofs.Common.{◌≡◌, ℕ, ◌<◌, ◌≤◌, ◌^◌, List, [], ◌∷◌, true, false, Option, Some, None, Result, if◌then◌else◌, length, refl, ap, sym, ◌∙◌, subst, arith, rules}
use Rattle.std.specs.Prelude.{nat_le}
use Rattle.std.specs.List.{list_all}
use Rattle.std.specs.Char.{is_ascii_digit}
use Rattle.std.specs.Str.{chars, IsUtf8, IsAscii}
use Rattle.std.specs.Str.Parse.{digits_value, ParsesUnsigned}
use Rattle.std.specs.Result.{result_ok, OkIff}
use Rattle.std.proofs.lemmas.Str.{chars-IsAscii, encodes-IsAscii, encodes-chars}
use Rattle.std.proofs.lemmas.Str.Ascii.{IsAscii-cons}
use Rattle.std.proofs.lemmas.Str.Parse.{IsNumeralModel, numerals_by_value, parse_digits}
use Rattle.std.proofs.lemmas.Bool.Decides.{nat_tests}
use Rattle.std.proofs.lemmas.Bool.{and_parts}
use Rattle.command_words.specs.Words.{number}
use Rattle.command_words.proofs.SameWord.{same_by}

digits : IsNumeralModel (λ ds. list_all is_ascii_digit ds ≡ true) (digits_value 10)
digits = numerals_by_value _ (search rules)

digit_small : (c : ℕ) → is_ascii_digit c ≡ true → c < 128
digit_small c h = grind (arith, nat_tests)

ascii : (ds : List ℕ) → list_all is_ascii_digit ds ≡ true → IsAscii ds
ascii [] h = λ i. omega arith
ascii (d ∷ ds) h = let p = and_parts (is_ascii_digit d) (list_all is_ascii_digit ds) h in IsAscii-cons d ds (digit_small d p.0) (ascii ds p.1)

-- digits are their own characters
pub plain : (bs : List ℕ) → list_all is_ascii_digit bs ≡ true → chars bs ≡ bs
plain bs h = chars-IsAscii bs (ascii bs h)

plain_back : (bs : List ℕ) → IsUtf8 bs → list_all is_ascii_digit (chars bs) ≡ true → bs ≡ chars bs
plain_back bs u h = sym (encodes-chars bs u) ∙ encodes-IsAscii (chars bs) (ascii (chars bs) h)

all_same : (bs : List ℕ) → IsUtf8 bs → list_all is_ascii_digit bs ≡ list_all is_ascii_digit (chars bs)
all_same bs u = same_by _ _ (λ e. rw (plain bs e) e) (λ e. subst (λ x. list_all is_ascii_digit x ≡ true) (sym (plain_back bs u e)) e)

none_unless : (most : ℕ) (t : List ℕ) → list_all is_ascii_digit t ≡ false → None ≡ number most t
none_unless most t e = rw e refl

-- what isn't digits is no number
pub none_other : (most : ℕ) (bs : List ℕ) → IsUtf8 bs → list_all is_ascii_digit bs ≡ false → None ≡ number most (chars bs)
none_other most bs u e = none_unless most (chars bs) (sym (all_same bs u) ∙ e)

long : (most : ℕ) (t : List ℕ) → 10 < length t → None ≡ number most t
long most t h = grind (arith, nat_tests)

-- more than ten bytes are no number
pub none_long : (most : ℕ) (bs : List ℕ) → IsUtf8 bs → 10 < length bs → None ≡ number most (chars bs)
none_long most bs u h = elim (list_all is_ascii_digit bs) as (λ b. list_all is_ascii_digit bs ≡ b → None ≡ number most (chars bs)) [
  | true ↦ λ e. rw (plain bs e) (long most bs h)
  | false ↦ λ e. none_other most bs u e
] refl

abbrev pub within : ℕ → Option ℕ → Option ℕ
within most None = None
within most (Some n) = if nat_le n most then Some n else None

chosen : {E : Type 0} (most : ℕ) (bs : List ℕ) (r : Result ℕ E) → most < 2 ^ 64 → length bs ≤ 10 → list_all is_ascii_digit bs ≡ true → OkIff r ((0 < length bs) × (digits_value 10 bs < 2 ^ 64)) (digits_value 10 bs)
    → within most (result_ok r) ≡ number most bs
chosen most bs r small short all h = grind (arith, nat_tests)

parsed : {E : Type 0} (most : ℕ) (bs : List ℕ) (r : Result ℕ E) → most < 2 ^ 64 → length bs ≤ 10 → ParsesUnsigned 64 10 bs r → list_all is_ascii_digit bs ≡ true → within most (result_ok r) ≡ number most (chars bs)
parsed most bs r small short h all = chosen most bs r small short all (parse_digits digits 64 bs r h all) ∙ ap (number most) (sym (plain bs all))

-- what was parsed is the number, where it is in its range
pub parsed_as : {E : Type 0} (most : ℕ) (bs : List ℕ) (r : Result ℕ E) (o n : Option ℕ) → most < 2 ^ 64 → length bs ≤ 10 → ParsesUnsigned 64 10 bs r → list_all is_ascii_digit bs ≡ true → o ≡ result_ok r → n ≡ within most o → n ≡ number most (chars bs)
parsed_as most bs r o n small short h all e f = f ∙ ap (within most) e ∙ parsed most bs r small short h all

pub within_more : (most n : ℕ) → most < n → None ≡ within most (Some n)
within_more most n h = grind (arith, nat_tests)

pub within_less : (most n : ℕ) → n ≤ most → Some n ≡ within most (Some n)
within_less most n h = grind (arith, nat_tests)
