-- The first part of what follows an index, by indices, nesting left aside.
use Rattle.std.specs.Prelude.{ℕ, ◌+◌, List, [], ◌∷◌}
use Rattle.css_text.specs.declared.lexer.PieceKind.{PieceKind}
use Rattle.css_text.specs.ValueParts.{ValueForm, plain, function, first_part}

unfoldable pub found : ℕ → PieceKind × ℕ → ValueForm × ℕ
found at p = (plain p.0, at + 1 + p.1)

-- the first part of s, which stands at the place `at`: its form and where it ends
abbrev pub first_at : ℕ → List ℕ → ValueForm × ℕ
first_at at [] = (function, at)
first_at at (c ∷ cs) = found at (first_part c cs)
