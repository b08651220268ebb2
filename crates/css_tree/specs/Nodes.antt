-- The nodes of a sheet by their pieces: which pieces stand before a node, which it is made of, and which end it. The kinds of nodes are
-- PostCSS 8's; the grammar is this project's own.
use Rattle.std.specs.Prelude.{◌≡◌, ℕ, suc, List, [], ◌∷◌, ◌++◌, Bool, true, false, nat_le, Option, Some, None}
use Rattle.css_tree.specs.Pieces.{Lexeme, Shape, shape, is_blank}
use Rattle.css_tree.specs.Turn.{Turn, within, gap, alone, ends, closes, opens, turn, is_custom, is_allowed}
use Rattle.css_tree.specs.Classes.{Each, EndsWithout}

-- The nodes of a container in order: a comment; a declaration or an at-rule without a block, with the `;` behind it if
-- there is one; a rule or an at-rule with its block.
pub data Nodes : Type 0 where
  none : Nodes
  comment : (before : List Lexeme) (piece : Lexeme) (rest : Nodes) → Nodes
  leaf : (before run ending : List Lexeme) (rest : Nodes) → Nodes
  block : (before run : List Lexeme) (opening : Lexeme) (children : Nodes) (after : List Lexeme) (closing : Lexeme) (rest : Nodes) → Nodes

-- all their pieces in order
unfoldable pub line : Nodes → List Lexeme
line none = []
line (comment before piece rest) = before ++ piece ∷ line rest
line (leaf before run ending rest) = before ++ (run ++ (ending ++ line rest))
line (block before run opening children after closing rest) = before ++ (run ++ opening ∷ (line children ++ (after ++ closing ∷ line rest)))

abbrev pub is_space_shape : Shape → Bool
is_space_shape Shape.space = true
is_space_shape _ = false

-- white space
abbrev pub is_space : Lexeme → Bool
is_space p = is_space_shape (shape p)

abbrev pub is_gap_shape : Shape → Bool
is_gap_shape Shape.space = true
is_gap_shape Shape.semicolon = true
is_gap_shape _ = false

-- white space or a `;`
abbrev pub is_gap : Lexeme → Bool
is_gap p = is_gap_shape (shape p)

abbrev pub go_on : Turn → (List Lexeme → Option (List Lexeme)) → Option (List Lexeme)
go_on (within brackets) k = k brackets
go_on gap k = None
go_on alone k = None
go_on ends k = None
go_on closes k = None
go_on opens k = None

-- The brackets that are awaited behind further pieces of one statement or at-rule, of which these were read; none where a `;`,
-- `{` or `}` at depth 0 stands among them.
unfoldable pub awaited_after : List Lexeme → List Lexeme → List Lexeme → Option (List Lexeme)
awaited_after read brackets [] = Some brackets
awaited_after read brackets (p ∷ ps) = go_on (turn read brackets p) (λ brackets'. awaited_after (read ++ p ∷ []) brackets' ps)

-- what a statement or at-rule may begin with
abbrev pub begins_shape : Shape → Bool
begins_shape Shape.space = false
begins_shape Shape.comment = false
begins_shape Shape.semicolon = false
begins_shape Shape.brace_open = false
begins_shape Shape.brace_close = false
begins_shape Shape.bare_at = false
begins_shape _ = true

-- The pieces of a statement or at-rule: no `;`, `{` or `}` stands among them at depth 0, and the depth at their end is 0.
abbrev pub IsRun : List Lexeme → Type 0
IsRun [] = ⊥
IsRun (p ∷ ps) = (begins_shape (shape p) ≡ true) × (awaited_after [] [] (p ∷ ps) ≡ Some [])

-- what stands before the `{` of a block: nothing, or no beginning of a custom property
abbrev pub IsPrelude : List Lexeme → Type 0
IsPrelude [] = Unit {0}
IsPrelude (p ∷ ps) = IsRun (p ∷ ps) × (is_custom (p ∷ ps) ≡ false)

-- only blanks stand up to the container's end
abbrev pub OnlyBlanks : Nodes → List Lexeme → Type 0
OnlyBlanks none behind = Each is_space behind
OnlyBlanks (comment before piece rest) behind = Each is_space before × OnlyBlanks rest behind
OnlyBlanks (leaf before run ending rest) behind = ⊥
OnlyBlanks (block before run opening children after closing rest) behind = ⊥

-- a `;` follows, or the run ends with a piece that isn't blank and only blanks stand behind it
abbrev pub Ends : List Lexeme → List Lexeme → Nodes → List Lexeme → Type 0
Ends run [] rest behind = EndsWithout is_blank run × OnlyBlanks rest behind
Ends run (p ∷ []) rest behind = shape p ≡ Shape.semicolon
Ends run (p ∷ q ∷ ps) rest behind = ⊥

-- The nodes of a container inside so many blocks, and the pieces behind the last of them. No more than 200 blocks stand inside
-- one another.
abbrev pub AreNodes : ℕ → Nodes → List Lexeme → Type 0
AreNodes depth none behind = Each is_gap behind
AreNodes depth (comment before piece rest) behind = Each is_gap before × (shape piece ≡ Shape.comment) × AreNodes depth rest behind
AreNodes depth (leaf before run ending rest) behind =
    Each is_gap before × IsRun run × (is_allowed run ≡ true) × Ends run ending rest behind × AreNodes depth rest behind
AreNodes depth (block before run opening children after closing rest) behind =
    Each is_gap before × IsPrelude run × (shape opening ≡ Shape.brace_open) × (nat_le 200 depth ≡ false)
    × AreNodes (suc depth) children after × (shape closing ≡ Shape.brace_close) × AreNodes depth rest behind

abbrev pub has_piece : List Lexeme → Bool
has_piece [] = false
has_piece (p ∷ ps) = true

-- The last node that isn't a comment is a declaration or an at-rule without a block, and a `;` follows it; where these
-- nodes are comments alone, as it was before them.
unfoldable pub ends_with_semicolon : Bool → Nodes → Bool
ends_with_semicolon so_far none = so_far
ends_with_semicolon so_far (comment before piece rest) = ends_with_semicolon so_far rest
ends_with_semicolon so_far (leaf before run ending rest) = ends_with_semicolon (has_piece ending) rest
ends_with_semicolon so_far (block before run opening children after closing rest) = ends_with_semicolon false rest
