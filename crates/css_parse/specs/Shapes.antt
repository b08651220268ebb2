-- The shapes of the parser as those of the rules of reading.
use Rattle.css_tree.specs.Pieces.{Shape as S, round, square}
use Rattle.css_parse.specs.declared.piece.Shape.{Shape}
use Rattle.css_parse.specs.declared.piece.Shape.TheVariants.{Space, Comment, Semicolon, Colon, BraceOpen, BraceClose, BareAt, AtName, Word, RoundOpen, RoundClose, SquareOpen, SquareClose, Other}

abbrev pub named : Shape → S
named Space = S.space
named Comment = S.comment
named Semicolon = S.semicolon
named Colon = S.colon
named BraceOpen = S.brace_open
named BraceClose = S.brace_close
named BareAt = S.bare_at
named AtName = S.at_name
named Word = S.word
named RoundOpen = S.left round
named RoundClose = S.right round
named SquareOpen = S.left square
named SquareClose = S.right square
named Other = S.other
