-- What `parse` makes of digits.
use Rattle.std.proofs.Common.{◌≡◌, ℕ, ◌<◌, ◌^◌, Bool, List, Option, true, false, ◌&&◌, Some, None, Result, if◌then◌else◌, length, nat_lt, refl, ◌∙◌, arith, rules}
use Rattle.std.specs.Prelude.{not}
use Rattle.std.specs.List.{list_all}
use Rattle.std.specs.Char.{is_ascii_digit}
use Rattle.std.specs.Str.Parse.{digits_value, ParsesUnsigned}
use Rattle.std.specs.Result.{result_ok, OkIff}
use Rattle.std.proofs.lemmas.Str.Parse.{IsNumeralModel, numerals_by_value, parse_digits}
use Rattle.std.proofs.lemmas.Bool.{and_parts}
use Rattle.std.proofs.lemmas.Bool.Decides.{nat_tests}
use Rattle.lint_config.specs.RuleValues.{has_leading_zero, is_numeral, short_number}

digits : IsNumeralModel (λ ds. list_all is_ascii_digit ds ≡ true) (digits_value 10)
digits = numerals_by_value _ (search rules)

chosen : {E : Type 0} (bs : List ℕ) (r : Result ℕ E) → OkIff r ((0 < length bs) × (digits_value 10 bs < 2 ^ 16)) (digits_value 10 bs)
    → result_ok r ≡ (if nat_lt 0 (length bs) && nat_lt (digits_value 10 bs) 65536 then Some (digits_value 10 bs) else None)
chosen bs r h = grind (arith, nat_tests)

are_digits : (bs : List ℕ) → is_numeral bs ≡ true → list_all is_ascii_digit bs ≡ true
unfolding is_numeral
are_digits bs h = let p = and_parts (list_all is_ascii_digit bs) (not (has_leading_zero bs)) h in p.0

tested : (b c : Bool) (n : Option ℕ) → (if b && c then n else None) ≡ (if b && true && c then n else None)
tested true c n = refl
tested false c n = refl

failed : (b c : Bool) (n : Option ℕ) → None ≡ (if b && false && c then n else None)
failed true c n = refl
failed false c n = refl

pub parsed : {E : Type 0} (bs : List ℕ) (r : Result ℕ E) → ParsesUnsigned 16 10 bs r → is_numeral bs ≡ true → result_ok r ≡ short_number bs
parsed bs r h e = chosen bs r (parse_digits digits 16 bs r h (are_digits bs e)) ∙ rw e (tested (nat_lt 0 (length bs)) (nat_lt (digits_value 10 bs) 65536) (Some (digits_value 10 bs)))

pub unread : (bs : List ℕ) → is_numeral bs ≡ false → None ≡ short_number bs
unread bs h = rw h (failed (nat_lt 0 (length bs)) (nat_lt (digits_value 10 bs) 65536) (Some (digits_value 10 bs)))
