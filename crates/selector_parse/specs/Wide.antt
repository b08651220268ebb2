-- The proof's own: numbers as words of 64 bits, the lowest first.
use Rattle.std.specs.Prelude.{ℕ, zero, suc, ◌+◌, ◌*◌, ◌^◌, List, slice_index}

-- what a 1 counts in a word
unfoldable pub weight : ℕ → ℕ
weight i = (2 ^ 64) ^ i

-- the number that the first n words hold
unfoldable pub value : List ℕ → ℕ → ℕ
value words zero = 0
value words (suc i) = value words i + slice_index words i * weight i
