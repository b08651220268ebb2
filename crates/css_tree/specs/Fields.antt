-- The fields and raws of each kind of node, which are PostCSS 8's but for `tail`: which pieces of the text, or parts of pieces, each of
-- them holds, and of which class these are. The classes are this project's own. A piece is cut inside only behind the hack or the `@` of a
-- word, before the `!` of the mark, and within a comment.
use Rattle.std.specs.Prelude.{◌≡◌, ◌⊎◌, ℕ, ◌+◌, ◌==◌, ◌||◌, List, [], ◌∷◌, ◌++◌, Bool, true, false, Option, Some, None, length}
use Rattle.css_text.specs.declared.lexer.Span.{Span}
use Rattle.css_text.specs.Characters.{is_space}
use Rattle.css_tree.specs.declared.node.Block.{Block}
use Rattle.css_tree.specs.declared.node.Source.{Source}
use Rattle.css_tree.specs.declared.node.NodeText.{NodeText}
use Rattle.css_tree.specs.declared.node.NodeText.TheVariants as N
use Rattle.css_tree.specs.Clean.{clean_of}
use Rattle.css_tree.specs.Pieces.{Lexeme, Shape, shape, is_blank, join, end_of, last_end}
use Rattle.css_tree.specs.Classes.{Each, BeginsWithout, EndsWithout}
use Rattle.css_tree.specs.Mark.{EndsInMark}

abbrev pub source_text : List Lexeme → Source
source_text ps = record { source = join ps; clean = clean_of (join ps) }

abbrev pub span_of : ℕ → ℕ → Option Span
span_of start end = Some (record { start = start; end = end })

-- A comment, of its one piece: `left` and `right` are white space, `text` neither begins nor ends with any, and `right` is empty
-- where `text` is.
pub record IsComment (before : List Lexeme) (piece : Lexeme) (node : NodeText) (span : Option Span) : Type 0 where
  pub left : List ℕ
  pub text : List ℕ
  pub right : List ℕ
  pub all : piece.text ≡ 47 ∷ 42 ∷ (left ++ (text ++ (right ++ 42 ∷ 47 ∷ [])))
  pub left_class : Each is_space left
  pub text_begins : BeginsWithout is_space text
  pub text_ends : EndsWithout is_space text
  pub right_class : Each is_space right
  pub right_empty : text ≡ [] → right ≡ []
  pub is_node : node ≡ N.Comment (Some (join before)) left text right
  pub is_span : span ≡ span_of piece.at (end_of piece)

-- An at-rule: an at-word, with one character of its name at least, and what stands behind it. `after_name` and `between` are blanks,
-- `params` begins and ends with no blank, and `after_name` is empty where `params` is.
pub record IsAtRule (before run : List Lexeme) (block : Option Block) (end : ℕ) (node : NodeText) (span : Option Span) : Type 0 where
  pub word : Lexeme
  pub name : List ℕ
  pub after_name : List Lexeme
  pub params : List Lexeme
  pub between : List Lexeme
  pub all : run ≡ word ∷ (after_name ++ (params ++ between))
  pub word_class : shape word ≡ Shape.at_name
  pub word_text : word.text ≡ 64 ∷ name
  pub after_name_class : Each is_blank after_name
  pub params_begins : BeginsWithout is_blank params
  pub params_ends : EndsWithout is_blank params
  pub between_class : Each is_blank between
  pub after_name_empty : params ≡ [] → after_name ≡ []
  pub is_node : node ≡ N.AtRule (Some (join before)) name (join after_name) (source_text params) (join between) block
  pub is_span : span ≡ span_of word.at end

-- these pieces begin with no at-word that has a name
abbrev pub BeginsNoAtRule : List Lexeme → Type 0
BeginsNoAtRule [] = Unit {0}
BeginsNoAtRule (p ∷ ps) = shape p ≡ Shape.at_name → ⊥

-- where these pieces begin, or else that one
abbrev pub begins_at : List Lexeme → Lexeme → ℕ
begins_at [] p = p.at
begins_at (q ∷ ps) p = q.at

-- A rule: `selector` begins and ends with no blank and begins no at-rule, `between` is blanks, and it is empty where `selector` is.
pub record IsRule (before run : List Lexeme) (opening : Lexeme) (block : Block) (end : ℕ) (node : NodeText) (span : Option Span) : Type 0 where
  pub selector : List Lexeme
  pub between : List Lexeme
  pub all : run ≡ selector ++ between
  pub selector_kind : BeginsNoAtRule selector
  pub selector_begins : BeginsWithout is_blank selector
  pub selector_ends : EndsWithout is_blank selector
  pub between_class : Each is_blank between
  pub between_empty : selector ≡ [] → between ≡ []
  pub is_node : node ≡ N.Rule (Some (join before)) (source_text selector) (join between) block
  pub is_span : span ≡ span_of (begins_at run opening) end

-- `*` or `_` before more characters
abbrev pub begins_hack : List ℕ → Bool
begins_hack (c ∷ d ∷ cs) = c == 42 || c == 95
begins_hack _ = false

-- what a word begins with before its `prop`: nothing, or a hack before more characters
abbrev pub IsHack : List ℕ → List ℕ → Type 0
IsHack [] word = begins_hack word ≡ false
IsHack (c ∷ []) word = begins_hack word ≡ true
IsHack (c ∷ d ∷ cs) word = ⊥

-- With a mark: `value` begins and ends with no blank, and the blanks before the mark and the mark are `important`, which begins with
-- the mark where `value` is empty.
pub record IsMarked (body value : List Lexeme) (important : List ℕ) : Type 0 where
  pub blanks : List Lexeme
  pub mark : List ℕ
  pub found : EndsInMark body (value ++ blanks) mark
  pub value_begins : BeginsWithout is_blank value
  pub value_ends : EndsWithout is_blank value
  pub blanks_class : Each is_blank blanks
  pub blanks_empty : value ≡ [] → blanks ≡ []
  pub is_important : important ≡ join blanks ++ mark

-- without a mark: `value` is all of it, and `important` is empty
pub record IsUnmarked (body value : List Lexeme) (important : List ℕ) : Type 0 where
  pub no_mark : (front : List Lexeme) → (mark : List ℕ) → EndsInMark body front mark → ⊥
  pub is_value : value ≡ body
  pub is_important : important ≡ []

-- `value`, `important` and its flag, of what stands between the blanks behind the colon and `tail`
abbrev pub AreValueAndMark : List Lexeme → List Lexeme → Bool → List ℕ → Type 0
AreValueAndMark body value true important = IsMarked body value important
AreValueAndMark body value false important = IsUnmarked body value important

-- A declaration: a word, of which `prop` is what follows its hack; blanks, the colon and blanks, which are `between`; value and mark,
-- which begin and end with no blank; and `tail`, which is blanks, and empty where value and mark are.
pub record IsDeclaration (before run : List Lexeme) (node : NodeText) (span : Option Span) : Type 0 where
  pub word : Lexeme
  pub hack : List ℕ
  pub prop : List ℕ
  pub front : List Lexeme
  pub colon : Lexeme
  pub back : List Lexeme
  pub body : List Lexeme
  pub value : List Lexeme
  pub marked : Bool
  pub important : List ℕ
  pub tail : List Lexeme
  pub all : run ≡ word ∷ (front ++ colon ∷ (back ++ (body ++ tail)))
  pub word_class : shape word ≡ Shape.word
  pub word_text : word.text ≡ hack ++ prop
  pub hack_class : IsHack hack word.text
  pub front_class : Each is_blank front
  pub colon_class : shape colon ≡ Shape.colon
  pub back_class : Each is_blank back
  pub body_begins : BeginsWithout is_blank body
  pub body_ends : EndsWithout is_blank body
  pub value_and_mark : AreValueAndMark body value marked important
  pub tail_class : Each is_blank tail
  pub tail_empty : body ≡ [] → tail ≡ []
  pub is_node : node ≡ N.Declaration (Some (join before ++ hack)) prop (join (front ++ colon ∷ back)) (source_text value) marked important (join tail)
  pub is_span : span ≡ span_of (word.at + length hack) (last_end (end_of word) (front ++ colon ∷ (back ++ (body ++ tail))))

-- an at-rule without a block, or a declaration
abbrev pub IsLeaf : List Lexeme → List Lexeme → NodeText → Option Span → Type 0
IsLeaf before run node span = IsAtRule before run None (last_end 0 run) node span ⊎ IsDeclaration before run node span

-- an at-rule with its block, or a rule
abbrev pub IsBlock : List Lexeme → List Lexeme → Lexeme → Block → ℕ → NodeText → Option Span → Type 0
IsBlock before run opening block end node span = IsAtRule before run (Some block) end node span ⊎ IsRule before run opening block end node span
