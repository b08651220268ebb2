-- Where the pieces stand, and what a reader of pieces has ahead.
use Rattle.std.specs.Prelude.{◌≡◌, ◌-◌, zero, suc, take, encode_utf8_all, ℕ, ◌+◌, Bool, List, [], ◌∷◌, drop, length, Option, Some, None, Result, Ok, Err, if◌then◌else◌}
use Rattle.std.specs.Option.{option_map}
use Rattle.std.specs.List.{sum_by}
use Rattle.std.specs.Char.{len_utf8}
use Rattle.css_text.specs.declared.lexer.Piece.{Piece}
use Rattle.css_text.specs.declared.lexer.LexFault.{LexFault}
use Rattle.css_text.specs.declared.lexer.LexFault.TheVariants.{UnclosedString, UnclosedComment, UnclosedUrl}
use Rattle.css_text.specs.declared.lexer.PieceKind.{PieceKind}
use Rattle.css_text.specs.Forms.{begins}
use Rattle.css_text.specs.Pieces.{Unclosed, string, comment, url, Token, cut}

-- the pieces that are still to come, and what comes after them
pub record Ahead : Type 0 where
  pub pieces : List Piece
  pub fault : Option LexFault

-- the fault of a form without its end that begins at the place
abbrev pub unclosed_at : ℕ → Unclosed → LexFault
unclosed_at at string = UnclosedString at
unclosed_at at comment = UnclosedComment at
unclosed_at at url = UnclosedUrl at

abbrev pub piece : PieceKind → ℕ → ℕ → Piece
piece kind start end = record { kind = kind; span = record { start = start; end = end } }

abbrev pub more : Piece → Ahead → Ahead
more p a = record { pieces = p ∷ a.pieces; fault = a.fault }

-- the pieces from the place `at` on, where a text takes as much as `size` says
abbrev pub placed : (List ℕ → ℕ) → ℕ → List Token → Option Unclosed → Ahead
placed size at [] fault = record { pieces = []; fault = option_map (unclosed_at at) fault }
placed size at (t ∷ ts) fault = more (piece t.kind at (at + size t.text)) (placed size (at + size t.text) ts fault)

-- what is ahead at the place `at`, before these bytes
unfoldable pub ahead : ℕ → List ℕ → Ahead
ahead at bytes = let c = cut bytes in placed length at c.tokens c.fault

-- what is ahead of a reader that has met a fault: that fault alone
abbrev pub met : Option LexFault → Ahead → Ahead
met None a = a
met (Some e) a = record { pieces = []; fault = Some e }

-- how many bytes the characters take
abbrev pub byte_len : List ℕ → ℕ
byte_len cs = sum_by len_utf8 cs

-- a byte order mark stands at the text's start
abbrev pub begins_bom : List ℕ → Bool
begins_bom s = begins 0xfeff s

-- the text without it, and how many bytes it takes
abbrev pub without_bom : List ℕ → List ℕ
without_bom s = if begins_bom s then drop 1 s else s

abbrev pub bom_len : List ℕ → ℕ
bom_len s = if begins_bom s then 3 else 0

-- The pieces of a text, by the bytes at which they start and end, or those before the first fault with that fault.
unfoldable pub pieces : List ℕ → Ahead
pieces s = let c = cut (without_bom s) in placed byte_len (bom_len s) c.tokens c.fault

-- what a reader answers next, and what it has ahead then
abbrev pub next_of : List Piece → Option LexFault → Result (Option Piece) LexFault
next_of (p ∷ ps) fault = Ok (Some p)
next_of [] None = Ok None
next_of [] (Some e) = Err e

abbrev pub rest_of : List Piece → List Piece
rest_of [] = []
rest_of (p ∷ ps) = ps

-- what is ahead behind the next piece
abbrev pub behind : Ahead → Ahead
behind a = record { pieces = rest_of a.pieces; fault = a.fault }

-- where the piece ends, or else that place
abbrev pub end_or : ℕ → Option Piece → ℕ
end_or at None = at
end_or at (Some p) = p.span.end

-- what so many calls answer a reader, one after another
abbrev pub answers : ℕ → Ahead → List (Result (Option Piece) LexFault)
answers zero a = []
answers (suc n) a = next_of a.pieces a.fault ∷ answers n (record { pieces = rest_of a.pieces; fault = a.fault })

-- the answer after all pieces: the fault, or None
abbrev pub last_answer : Option LexFault → Result (Option Piece) LexFault
last_answer None = Ok None
last_answer (Some e) = Err e

-- Each piece has its token's kind, and the bytes of its span are the bytes of the token's characters.
abbrev pub Spell : List ℕ → List Piece → List Token → Type 0
Spell bytes [] [] = Unit {0}
Spell bytes (p ∷ ps) (t ∷ ts) = (p.kind ≡ t.kind) × (take (p.span.end - p.span.start) (drop p.span.start bytes) ≡ encode_utf8_all t.text) × Spell bytes ps ts
Spell bytes ps ts = ⊥
