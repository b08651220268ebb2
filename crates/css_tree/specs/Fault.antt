-- The first fault of a text, by recursion on the list of its pieces. Its kinds and places are this project's own. Whether one is found at a
-- place is told by the open blocks, the awaited brackets and the statement or at-rule in progress there.
use Rattle.std.specs.Prelude.{ℕ, suc, List, [], ◌∷◌, ◌++◌, nat_le, length, take, Option, Some, None, if◌then◌else◌}
use Rattle.css_text.specs.Pieces.{Unclosed, string, comment, url, cut}
use Rattle.css_text.specs.Ahead.{bom_len, without_bom}
use Rattle.css_tree.specs.declared.fault.SyntaxKind.{SyntaxKind}
use Rattle.css_tree.specs.declared.fault.SyntaxKind.TheVariants as K
use Rattle.css_tree.specs.Pieces.{Lexeme, Shape, shape, pieces_of, last_end}
use Rattle.css_tree.specs.Turn.{Turn, within, gap, alone, ends, closes, opens, turn, is_allowed}

-- a kind of fault, and the byte at which it stands
pub record Fault : Type 0 where
  pub kind : SyntaxKind
  pub at : ℕ

-- Behind some pieces: the `{` of the open blocks, the opening pieces of the awaited brackets, innermost first, and the
-- pieces since the statement or at-rule in progress began, none where nothing is in progress.
pub data State : Type 0 where
  state : (opened awaited since : List Lexeme) → State

-- without the innermost one
abbrev pub outer : List Lexeme → List Lexeme
outer [] = []
outer (x ∷ blocks) = blocks

abbrev pub step_by : List Lexeme → List Lexeme → Lexeme → Turn → State
step_by blocks run p (within brackets) = state blocks brackets (run ++ p ∷ [])
step_by blocks run p gap = state blocks [] []
step_by blocks run p alone = state blocks [] []
step_by blocks run p ends = state blocks [] []
step_by blocks run p closes = state (outer blocks) [] []
step_by blocks run p opens = state (p ∷ blocks) [] []

abbrev pub step : State → Lexeme → State
step (state blocks brackets run) p = step_by blocks run p (turn run brackets p)

-- the state behind these pieces
unfoldable pub after : State → List Lexeme → State
after s [] = s
after s (p ∷ ps) = after (step s p) ps

-- at the start of a text
abbrev pub begin : State
begin = state [] [] []

abbrev pub opened_of : State → List Lexeme
opened_of (state blocks brackets run) = blocks

abbrev pub awaited_of : State → List Lexeme
awaited_of (state blocks brackets run) = brackets

abbrev pub since_of : State → List Lexeme
since_of (state blocks brackets run) = run

-- Behind the first k pieces of a text: the `{` of the open blocks, innermost first.
abbrev pub opened : List ℕ → ℕ → List Lexeme
opened s k = opened_of (after begin (take k (pieces_of s)))

-- there, the opening pieces of the awaited brackets, innermost first
abbrev pub awaited : List ℕ → ℕ → List Lexeme
awaited s k = awaited_of (after begin (take k (pieces_of s)))

-- there, the pieces of the statement or at-rule in progress
abbrev pub since : List ℕ → ℕ → List Lexeme
since s k = since_of (after begin (take k (pieces_of s)))

abbrev pub first_of : List Lexeme → Option Lexeme
first_of [] = None
first_of (p ∷ ps) = Some p

-- the first of these, where one is in progress: the piece with which the statement or at-rule began
abbrev pub begun : List ℕ → ℕ → Option Lexeme
begun s k = first_of (since s k)

-- Where two are found at one place, the first of them is the answer: in the order AtRuleWithoutName, UnclosedBracket, UnknownWord,
-- UnexpectedClose, TooDeep, UnclosedBlock.
abbrev pub first_of_two : Option Fault → Option Fault → Option Fault
first_of_two (Some f) g = Some f
first_of_two None g = g

abbrev pub fault_at : SyntaxKind → ℕ → Option Fault
fault_at kind at = Some (record { kind = kind; at = at })

-- a statement that may not end without a block, at its first piece
abbrev pub unknown : List Lexeme → Option Fault
unknown [] = None
unknown (q ∷ run) = if is_allowed (q ∷ run) then None else fault_at K.UnknownWord q.at

-- a `}` outside every block
abbrev pub unexpected : List Lexeme → Lexeme → Option Fault
unexpected [] p = fault_at K.UnexpectedClose p.at
unexpected (x ∷ blocks) p = None

abbrev pub nameless_by : Shape → Lexeme → Option Fault
nameless_by Shape.bare_at p = fault_at K.AtRuleWithoutName p.at
nameless_by _ p = None

-- an at-word without a name that begins an at-rule
abbrev pub nameless : List Lexeme → Lexeme → Option Fault
nameless [] p = nameless_by (shape p) p
nameless (q ∷ run) p = None

-- the `{` of a block inside 200 others
abbrev pub deep : List Lexeme → Lexeme → Option Fault
deep blocks p = if nat_le 200 (length blocks) then fault_at K.TooDeep p.at else None

-- the fault that is found at a piece, by its turn
abbrev pub fits_by : List Lexeme → List Lexeme → Lexeme → Turn → Option Fault
fits_by blocks run p (within brackets) = nameless run p
fits_by blocks run p gap = None
fits_by blocks run p alone = None
fits_by blocks run p ends = unknown run
fits_by blocks run p closes = first_of_two (unknown run) (unexpected blocks p)
fits_by blocks run p opens = deep blocks p

abbrev pub fits : State → Lexeme → Option Fault
fits (state blocks brackets run) p = fits_by blocks run p (turn run brackets p)

-- the place of the last one, the outermost
abbrev pub last_at : Lexeme → List Lexeme → ℕ
last_at q [] = q.at
last_at q (p ∷ ps) = last_at p ps

abbrev pub unclosed_awaited : List Lexeme → Option Fault
unclosed_awaited [] = None
unclosed_awaited (q ∷ brackets) = fault_at K.UnclosedBracket (last_at q brackets)

abbrev pub unclosed_opened : List Lexeme → Option Fault
unclosed_opened [] = None
unclosed_opened (q ∷ blocks) = fault_at K.UnclosedBlock q.at

-- the fault that is found at the end of the text
abbrev pub fits_end : State → Option Fault
fits_end (state blocks brackets run) = first_of_two (unclosed_awaited brackets) (first_of_two (unknown run) (unclosed_opened blocks))

-- the fault that is found behind the last piece: the lexical one there, or that of the end of the text
abbrev pub end_fault : Option Fault → State → Option Fault
end_fault (Some f) s = Some f
end_fault None s = fits_end s

-- the fault that is found at the first place where one is
unfoldable pub fault_from : State → List Lexeme → Option Fault → Option Fault
fault_from s [] lexical = end_fault lexical s
fault_from s (p ∷ ps) lexical = elim (fits s p) [ Some f ↦ Some f | None ↦ fault_from (step s p) ps lexical ]

-- how many pieces stand before that place
unfoldable pub stop_from : State → List Lexeme → Option Fault → Option ℕ
stop_from s [] lexical = elim (end_fault lexical s) [ Some f ↦ Some 0 | None ↦ None ]
stop_from s (p ∷ ps) lexical = elim (fits s p) [ Some f ↦ Some 0 | None ↦ elim (stop_from (step s p) ps lexical) [ Some k ↦ Some (suc k) | None ↦ None ] ]

abbrev pub kind_of_unclosed : Unclosed → SyntaxKind
kind_of_unclosed string = K.UnclosedString
kind_of_unclosed comment = K.UnclosedComment
kind_of_unclosed url = K.UnclosedUrl

abbrev pub lexical_at : ℕ → Option Unclosed → Option Fault
lexical_at at None = None
lexical_at at (Some u) = fault_at (kind_of_unclosed u) at

-- the lexical fault of a text, which stands behind its pieces
unfoldable pub lexical_fault : List ℕ → Option Fault
lexical_fault s = lexical_at (last_end (bom_len s) (pieces_of s)) (cut (without_bom s)).fault

-- how many pieces of the text stand before the first place where a fault is found
unfoldable pub stop : List ℕ → Option ℕ
stop s = stop_from begin (pieces_of s) (lexical_fault s)

unfoldable pub fault : List ℕ → Option Fault
fault s = fault_from begin (pieces_of s) (lexical_fault s)
