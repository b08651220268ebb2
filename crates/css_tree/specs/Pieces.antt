-- The pieces that reading goes by: those of the text, each with its characters and the byte at which it begins. Texts are lists of
-- characters, places count bytes, and every test of a character is for ASCII alone. The shapes are this project's own.
use Rattle.std.specs.Prelude.{ℕ, ◌+◌, ◌==◌, List, [], ◌∷◌, Bool, true, false, if◌then◌else◌}
use Rattle.std.specs.List.{flat_map}
use Rattle.css_text.specs.declared.lexer.PieceKind.{PieceKind}
use Rattle.css_text.specs.declared.lexer.PieceKind.TheVariants as K
use Rattle.css_text.specs.Pieces.{Token, cut}
use Rattle.css_text.specs.Ahead.{byte_len, bom_len, without_bom}

-- a piece with its characters, and the byte at which it begins
pub record Lexeme : Type 0 where
  pub kind : PieceKind
  pub at : ℕ
  pub text : List ℕ

-- pieces one behind another, of which the first begins at that byte
abbrev pub located : ℕ → List Token → List Lexeme
located at [] = []
located at (t ∷ ts) = record { kind = t.kind; at = at; text = t.text } ∷ located (at + byte_len t.text) ts

-- the pieces of a text, or those before its first lexical fault
unfoldable pub pieces_of : List ℕ → List Lexeme
pieces_of s = located (bom_len s) (cut (without_bom s)).tokens

-- the text that pieces make
unfoldable pub join : List Lexeme → List ℕ
join ps = flat_map (λ p. p.text) ps

-- the byte behind a piece
abbrev pub end_of : Lexeme → ℕ
end_of p = p.at + byte_len p.text

-- the byte behind pieces that begin at that byte
abbrev pub last_end : ℕ → List Lexeme → ℕ
last_end at [] = at
last_end at (p ∷ ps) = last_end (end_of p) ps

-- round and square brackets
pub data Bracket : Type 0 where
  round square : Bracket

-- What the rules of reading tell apart: white space, a comment, the single characters, an at-word without a name
-- or with one, a word, and every other piece.
pub data Shape : Type 0 where
  space comment semicolon colon brace_open brace_close bare_at at_name word other : Shape
  left right : Bracket → Shape

abbrev pub single_shape : List ℕ → Shape
single_shape [] = Shape.other
single_shape (c ∷ cs) =
    if c == 59 then Shape.semicolon
    else if c == 58 then Shape.colon
    else if c == 123 then Shape.brace_open
    else if c == 125 then Shape.brace_close
    else if c == 40 then Shape.left round
    else if c == 41 then Shape.right round
    else if c == 91 then Shape.left square
    else if c == 93 then Shape.right square
    else Shape.other

abbrev pub at_shape : List ℕ → Shape
at_shape (at ∷ c ∷ cs) = Shape.at_name
at_shape _ = Shape.bare_at

abbrev pub shape_of : PieceKind → List ℕ → Shape
shape_of K.Space text = Shape.space
shape_of K.Comment text = Shape.comment
shape_of K.Quoted text = Shape.other
shape_of K.Url text = Shape.other
shape_of K.AtWord text = at_shape text
shape_of K.Word text = Shape.word
shape_of K.Single text = single_shape text

unfoldable pub shape : Lexeme → Shape
shape p = shape_of p.kind p.text

abbrev pub is_blank_shape : Shape → Bool
is_blank_shape Shape.space = true
is_blank_shape Shape.comment = true
is_blank_shape _ = false

-- white space or a comment
unfoldable pub is_blank : Lexeme → Bool
is_blank p = is_blank_shape (shape p)
