-- A text without its comments, by this project's own pieces.
use Rattle.std.specs.Prelude.{ℕ, List, [], ◌∷◌, ◌++◌, take, drop, length, if◌then◌else◌}
use Rattle.css_text.specs.declared.lexer.PieceKind.TheVariants.{Comment, Space, Quoted, Url, AtWord, Word, Single}
use Rattle.css_text.specs.declared.lexer.PieceKind.{PieceKind}
use Rattle.css_text.specs.Pieces.{Token, cut, joined}
use Rattle.css_text.specs.Ahead.{begins_bom, without_bom}

-- what is kept of a piece
abbrev pub kept : PieceKind → List ℕ → List ℕ
kept Comment text = []
kept Space text = text
kept Quoted text = text
kept Url text = text
kept AtWord text = text
kept Word text = text
kept Single text = text

abbrev pub without_comments : List Token → List ℕ
without_comments [] = []
without_comments (t ∷ ts) = kept t.kind t.text ++ without_comments ts

-- A byte order mark at the start is kept, and from a lexical fault on the rest stays as it is.
unfoldable pub clean_of : List ℕ → List ℕ
clean_of s =
    let ts = (cut (without_bom s)).tokens in
    (if begins_bom s then take 1 s else []) ++ (without_comments ts ++ drop (length (joined ts)) (without_bom s))
