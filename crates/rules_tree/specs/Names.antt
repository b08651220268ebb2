-- Words to which names are compared.
use Rattle.std.specs.Prelude.{ℕ, List, Bool, ◌&&◌, ◌==◌, nat_lt}
use Rattle.std.specs.Char.{to_ascii_lowercase}
use Rattle.std.specs.List.{list_all}

-- a word in ASCII without upper-case letters
abbrev pub is_lower : List ℕ → Bool
is_lower word = list_all (λ c. nat_lt c 128 && to_ascii_lowercase c == c) word
