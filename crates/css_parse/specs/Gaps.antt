-- The text of a gap as its pieces.
use Rattle.std.specs.Prelude.{ℕ, List, [], ◌∷◌}
use Rattle.css_text.specs.declared.lexer.PieceKind.TheVariants.{Space}
use Rattle.css_tree.specs.Pieces.{Lexeme}

-- As for their text, the pieces of a gap may be one.
abbrev pub gap_of : List ℕ → List Lexeme
gap_of text = record { kind = Space; at = 0; text = text } ∷ []
