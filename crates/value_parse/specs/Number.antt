-- Numbers with a unit, as `-.5E3px`, by cases and concatenation. All that they hold is ASCII, so lengths count characters
-- and bytes alike.
use Rattle.std.specs.Prelude.{◌≡◌, ℕ, ◌<◌, true, List, [], ◌∷◌, ◌++◌, ◌⊎◌, length, Option, Some, None}
use Rattle.std.specs.List.{list_all}
use Rattle.std.specs.Char.{is_ascii_digit, is_ascii_alphabetic}
use Rattle.css_text.specs.declared.lexer.Span.{Span}

-- at least one digit
pub record IsDigits (s : List ℕ) : Type 0 where
  pub all : list_all is_ascii_digit s ≡ true
  pub some : 0 < length s

-- `+`, `-` or nothing
pub data IsSign (s : List ℕ) : Type 0 where
  no_sign : s ≡ [] → IsSign s
  plus : s ≡ 43 ∷ [] → IsSign s
  minus : s ≡ 45 ∷ [] → IsSign s

-- digits, digits with `.` and digits, or `.` and digits
pub data IsDecimal (s : List ℕ) : Type 0 where
  whole : IsDigits s → IsDecimal s
  mixed : (front back : List ℕ) → s ≡ front ++ 46 ∷ back → IsDigits front → IsDigits back → IsDecimal s
  fraction : (back : List ℕ) → s ≡ 46 ∷ back → IsDigits back → IsDecimal s

-- `e` or `E`, an optional sign and digits; or nothing
pub data IsExponent (s : List ℕ) : Type 0 where
  no_exponent : s ≡ [] → IsExponent s
  with_exponent : (e : ℕ) (sign digits : List ℕ) → s ≡ e ∷ sign ++ digits → (e ≡ 101) ⊎ (e ≡ 69) → IsSign sign → IsDigits digits → IsExponent s

-- a sign, a decimal number and an exponent, one after another
pub record IsNumber (s : List ℕ) : Type 0 where
  pub sign : List ℕ
  pub decimal : List ℕ
  pub exponent : List ℕ
  pub text : s ≡ sign ++ (decimal ++ exponent)
  pub is_sign : IsSign sign
  pub is_decimal : IsDecimal decimal
  pub is_exponent : IsExponent exponent

-- `%`, or ASCII letters, or nothing
pub data IsUnit (s : List ℕ) : Type 0 where
  percent : s ≡ 37 ∷ [] → IsUnit s
  letters : list_all is_ascii_alphabetic s ≡ true → IsUnit s

-- The word is a number and then its unit. An `e` without digits after it begins the unit, since it is no exponent.
pub record IsNumberWithUnit (word number unit : List ℕ) : Type 0 where
  pub text : word ≡ number ++ unit
  pub is_number : IsNumber number
  pub is_unit : IsUnit unit

abbrev pub span : ℕ → ℕ → Span
span start end = record { start = start; end = end }

-- The spans of the number and of the unit, or None exactly where the word is anything else.
abbrev pub TellsNumber : List ℕ → Option (Span × Span) → Type 0
TellsNumber word None = (number unit : List ℕ) → IsNumberWithUnit word number unit → ⊥
TellsNumber word (Some p) = (number : List ℕ) × (unit : List ℕ) × IsNumberWithUnit word number unit × (p ≡ (span 0 (length number), span (length number) (length word)))

-- A word has at most one number with a unit.
abbrev pub OneNumber : Type 0
OneNumber = (word n u m v : List ℕ) → IsNumberWithUnit word n u → IsNumberWithUnit word m v → (n ≡ m) × (u ≡ v)
