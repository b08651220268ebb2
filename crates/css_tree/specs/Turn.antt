-- What a piece is to reading, by the pieces of the statement or at-rule in progress and the brackets that are awaited. The grammar
-- of statements and at-rules is this project's own. No node, no field and no raw stands here.
use Rattle.std.specs.Prelude.{ℕ, ◌==◌, ◌&&◌, List, [], ◌∷◌, Bool, true, false, if◌then◌else◌}
use Rattle.css_tree.specs.Pieces.{Lexeme, Shape, round, square, shape}

-- the shape of a closing piece is what the opening piece awaits
abbrev pub awaits : Shape → Shape → Bool
awaits (Shape.left round) (Shape.right round) = true
awaits (Shape.left square) (Shape.right square) = true
awaits Shape.brace_open Shape.brace_close = true
awaits _ _ = false

-- what is awaited behind a closing piece, where `q` is the innermost piece that awaits one
abbrev pub closing : List Lexeme → Lexeme → Shape → List Lexeme
closing brackets q s = if awaits (shape q) s then brackets else q ∷ brackets

abbrev pub colon_by : Shape → Bool → Bool
colon_by Shape.space next = next
colon_by Shape.comment next = next
colon_by Shape.colon next = true
colon_by _ next = false

-- the first of these pieces that isn't blank is a colon
unfoldable pub colon_next : List Lexeme → Bool
colon_next [] = false
colon_next (p ∷ ps) = colon_by (shape p) (colon_next ps)

abbrev pub begins_dashes : List ℕ → Bool
begins_dashes (a ∷ b ∷ cs) = a == 45 && b == 45
begins_dashes _ = false

abbrev pub is_word_shape : Shape → Bool
is_word_shape Shape.word = true
is_word_shape _ = false

-- These pieces begin a custom property: a word that begins `--`, and its colon.
unfoldable pub is_custom : List Lexeme → Bool
is_custom [] = false
is_custom (p ∷ ps) = is_word_shape (shape p) && (begins_dashes p.text && colon_next ps)

abbrev pub allowed_by : Shape → Bool → Bool
allowed_by Shape.at_name next = true
allowed_by Shape.word next = next
allowed_by _ next = false

-- what may end without a block: an at-rule, or a word with its colon
unfoldable pub is_allowed : List Lexeme → Bool
is_allowed [] = true
is_allowed (p ∷ ps) = allowed_by (shape p) (colon_next ps)

-- A piece is of the statement or at-rule in progress, behind which these are awaited; or of the gap between nodes; a comment
-- by itself; the `;` that ends what is in progress; a `}` that closes a block, or would; or the `{` of a block.
pub data Turn : Type 0 where
  within : List Lexeme → Turn
  gap : Turn
  alone : Turn
  ends : Turn
  closes : Turn
  opens : Turn

-- with nothing in progress
abbrev pub idle : Lexeme → Shape → Turn
idle p Shape.space = gap
idle p Shape.semicolon = gap
idle p Shape.comment = alone
idle p Shape.brace_close = closes
idle p Shape.brace_open = opens
idle p (Shape.left b) = within (p ∷ [])
idle p _ = within []

-- with a statement or at-rule in progress, a custom property or another; `brackets` are awaited, innermost first
abbrev pub busy : Bool → List Lexeme → Lexeme → Shape → Turn
busy custom brackets p (Shape.left b) = within (p ∷ brackets)
busy custom [] p (Shape.right b) = within []
busy custom (q ∷ brackets) p (Shape.right b) = within (closing brackets q (Shape.right b))
busy true brackets p Shape.brace_open = within (p ∷ brackets)
busy false [] p Shape.brace_open = opens
busy false (q ∷ brackets) p Shape.brace_open = within (q ∷ brackets)
busy custom [] p Shape.brace_close = closes
busy custom (q ∷ brackets) p Shape.brace_close = within (closing brackets q Shape.brace_close)
busy custom [] p Shape.semicolon = ends
busy custom (q ∷ brackets) p Shape.semicolon = within (q ∷ brackets)
busy custom brackets p _ = within brackets

-- by the pieces in progress so far, none where nothing is, and what is awaited
unfoldable pub turn : List Lexeme → List Lexeme → Lexeme → Turn
turn [] brackets p = idle p (shape p)
turn (q ∷ run) brackets p = busy (is_custom (q ∷ run)) brackets p (shape p)
