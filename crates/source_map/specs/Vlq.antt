-- The numbers of a mappings text, in Base64 VLQ, as the Source Map revision 3 text has it: a number's lowest bit is
-- its sign; each digit has five bits of it, from the lowest up, and is 32 more where further digits follow.
use Rattle.std.specs.Prelude.{ℕ, zero, suc, ◌+◌, ◌-◌, ◌*◌, ◌/◌, ◌%◌, ◌==◌, ◌&&◌, nat_le, nat_lt, Bool, List, [], ◌∷◌, map, Option, Some, None, Result, Ok, Err, if◌then◌else◌}

-- the digits of the Base64 alphabet: A to Z, a to z, 0 to 9, + and /
abbrev pub digit_code : ℕ → ℕ
digit_code d = if nat_lt d 26 then d + 65 else if nat_lt d 52 then d + 71 else if nat_lt d 62 then d - 4 else if d == 62 then 43 else 47

-- the number of such a digit; none for another character
unfoldable pub digit_of : ℕ → Option ℕ
digit_of c =
    if nat_le 65 c && nat_le c 90 then Some (c - 65) else if nat_le 97 c && nat_le c 122 then Some (c - 71)
    else if nat_le 48 c && nat_le c 57 then Some (c + 4) else if c == 43 then Some 62 else if c == 47 then Some 63 else None

-- a digit that is no number's last
abbrev pub goes_on : ℕ → Bool
goes_on d = nat_le 32 d

abbrev pub with_number : ℕ → Result (List ℕ) ℕ → Result (List ℕ) ℕ
with_number n (Ok ns) = Ok (n ∷ ns)
with_number n (Err at) = Err at

-- five bits below the first number
abbrev pub with_low_digit : ℕ → Result (List ℕ) ℕ → Result (List ℕ) ℕ
with_low_digit d (Ok []) = Ok []
with_low_digit d (Ok (n ∷ ns)) = Ok ((d + 32 * n) ∷ ns)
with_low_digit d (Err at) = Err at

-- a digit at the byte `at` behind `k` digits of its number, and what follows it
abbrev pub numbers_by : Option ℕ → ℕ → ℕ → (ℕ → Result (List ℕ) ℕ) → Result (List ℕ) ℕ
numbers_by None at k rest = Err at
numbers_by (Some d) at k rest = if k == 7 then Err at else if goes_on d then with_low_digit (d - 32) (rest (k + 1)) else with_number d (rest 0)

-- The numbers of a text that begins at the byte `at`, behind `k` digits of its first number; or the byte of the first
-- fault, which is a character that is no digit, an eighth digit of a number, or the end of the text within a number.
unfoldable pub numbers : ℕ → ℕ → List ℕ → Result (List ℕ) ℕ
numbers at k [] = if k == 0 then Ok [] else Err at
numbers at k (c ∷ cs) = numbers_by (digit_of c) at k (λ n. numbers (at + 1) n cs)

-- the fewest digits of a number, which takes at most so many
unfoldable pub digits : ℕ → ℕ → List ℕ
digits zero n = []
digits (suc most) n = if nat_lt n 32 then n ∷ [] else (n % 32 + 32) ∷ digits most (n / 32)

-- the text of a number below 2 ^ 35
abbrev pub number_text : ℕ → List ℕ
number_text n = map digit_code (digits 7 n)
