-- What is known of the pieces behind a statement's first: blanks so far, a colon next, or another piece.
use Rattle.std.specs.Prelude.{List, [], ◌∷◌, Bool, true, false}
use Rattle.css_parse.specs.declared.run.Head.{Head}
use Rattle.css_parse.specs.declared.run.Head.TheVariants.{Blank, Colon, Other}
use Rattle.css_tree.specs.Pieces.{Lexeme, Shape, shape}

abbrev pub behind : List Lexeme → List Lexeme
behind [] = []
behind (p ∷ ps) = ps

abbrev pub head_by : Shape → Head
head_by Shape.space = Blank
head_by Shape.comment = Blank
head_by Shape.colon = Colon
head_by _ = Other

-- with one more piece, of that shape
abbrev pub head_step : Head → Shape → Head
head_step Blank s = head_by s
head_step Colon s = Colon
head_step Other s = Other

abbrev pub then_head : Head → Head → Head
then_head Blank h = h
then_head Colon h = Colon
then_head Other h = Other

unfoldable pub head_of : List Lexeme → Head
head_of [] = Blank
head_of (p ∷ ps) = then_head (head_by (shape p)) (head_of ps)

abbrev pub is_colon : Head → Bool
is_colon Blank = false
is_colon Colon = true
is_colon Other = false
