-- The number at the start of a word by lengths, with which definitions compute: that it is what the grammar (Number) tells is a law. All that it
-- takes is ASCII, so lengths count characters and bytes alike.
use Rattle.std.specs.Prelude.{ℕ, ◌+◌, Bool, not, ◌==◌, ◌&&◌, ◌||◌, if◌then◌else◌, List, length, drop, Option, Some, None}
use Rattle.std.specs.Char.{is_ascii_digit, is_ascii_alphabetic}
use Rattle.std.specs.List.{prefix_len, list_all}
use Rattle.css_text.specs.declared.lexer.Span.{Span}
use Rattle.css_text.specs.Forms.{begins}
use Rattle.value_parse.specs.Number.{span}

-- the longest run of digits
abbrev pub digits_len : List ℕ → ℕ
digits_len s = prefix_len is_ascii_digit s

-- `+` or `-`, if one stands there
unfoldable pub sign_len : List ℕ → ℕ
sign_len s = if begins 43 s || begins 45 s then 1 else 0

-- k characters with the digits behind them, or nothing where no digit stands there
unfoldable pub with_digits : ℕ → List ℕ → ℕ
with_digits k s = if digits_len (drop k s) == 0 then 0 else k + digits_len (drop k s)

-- `.` with digits
unfoldable pub fraction_len : List ℕ → ℕ
fraction_len s = if begins 46 s then with_digits 1 s else 0

-- `e` or `E`, an optional sign, digits
unfoldable pub exponent_len : List ℕ → ℕ
exponent_len s = if begins 101 s || begins 69 s then with_digits (1 + sign_len (drop 1 s)) s else 0

-- digits, digits with a fraction, or a fraction alone
unfoldable pub decimal_len : List ℕ → ℕ
decimal_len s = digits_len s + fraction_len (drop (digits_len s) s)

-- an optional sign, a decimal number, an optional exponent
unfoldable pub number_len : List ℕ → ℕ
number_len s =
    let start = sign_len s in
    let end = start + decimal_len (drop start s) in
    if end == start then 0 else end + exponent_len (drop end s)

-- `%`, or ASCII letters, or nothing
unfoldable pub is_unit : List ℕ → Bool
is_unit s = (length s == 1 && begins 37 s) || list_all is_ascii_alphabetic s

-- The number at the start of a word and the unit that is the rest of it, or None where the word isn't both.
unfoldable pub number_and_unit : List ℕ → Option (Span × Span)
number_and_unit s =
    let end = number_len s in
    if end == 0 || not (is_unit (drop end s)) then None else Some (span 0 end, span end (length s))
