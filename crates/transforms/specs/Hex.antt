-- Hexadecimal digits in pairs, and values with a changed text of each word.
use Rattle.std.specs.Prelude.{ℕ, Bool, true, false, ◌==◌, ◌&&◌, List, [], ◌∷◌}
use Rattle.std.specs.Char.{to_ascii_lowercase}
use Rattle.css_text.specs.declared.lexer.PieceKind.TheVariants.{Word}
use Rattle.css_text.specs.ValueParts.{ValueForm, plain, function}
use Rattle.plugin_api.specs.Effect.{is_hex, short_plain}

-- two digits that are equal in lower ASCII case
abbrev pub is_pair : ℕ → ℕ → Bool
is_pair c d = is_hex c && (is_hex d && to_ascii_lowercase c == to_ascii_lowercase d)

-- digits in equal pairs
abbrev pub is_paired : List ℕ → Bool
is_paired [] = true
is_paired (c ∷ []) = false
is_paired (c ∷ d ∷ cs) = is_pair c d && is_paired cs

-- the first of each pair
abbrev pub firsts : List ℕ → List ℕ
firsts [] = []
firsts (c ∷ []) = c ∷ []
firsts (c ∷ d ∷ cs) = c ∷ firsts cs

abbrev pub is_word : ValueForm → Bool
is_word (plain Word) = true
is_word _ = false

-- what a part's own text becomes
abbrev pub short_own : ValueForm → List ℕ → List ℕ
short_own (plain k) t = short_plain k t
short_own function t = t
