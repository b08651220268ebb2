-- Statements that are read from their bytes at once: a declaration `name:value;` and the head of a rule `selector{`. All their
-- characters are ASCII; none is a quote, a square or curly bracket, `@`, `/` or a backslash, `!` stands in a mark alone, and round brackets
-- are closed and open no `url(`.
use Rattle.std.specs.Prelude.{◌≡◌, ◌⊎◌, ℕ, zero, suc, if◌then◌else◌, Option, Some, None, ◌+◌, ◌<◌, ◌==◌, ◌&&◌, ◌||◌, not, nat_lt, Bool, false, List, [], ◌∷◌, ◌++◌, length, drop}
use Rattle.css_text.specs.Characters.{is_space, ends_word}
use Rattle.css_tree.specs.Classes.{Each, BeginsWithout, EndsWithout}
use Rattle.css_tree.specs.Fields.{begins_hack, BeginsNoAtRule}
use Rattle.css_tree.specs.Mark.{important_letters}
use Rattle.css_tree.specs.Pieces.{Lexeme, Shape, shape, is_blank, end_of, last_end}
use Rattle.css_parse.specs.declared.plain.PlainLeaf.{PlainLeaf}
use Rattle.css_parse.specs.declared.plain.PlainHead.{PlainHead}
use Rattle.css_parse.specs.declared.plain.Plain.{Plain}
use Rattle.css_parse.specs.declared.plain.Plain.TheVariants as P
use Rattle.css_parse.specs.Standing.{Stand}

-- a word unit wherever it stands
unfoldable pub is_name : ℕ → Bool
is_name c = nat_lt c 128 && not (ends_word c || c == 33 || c == 47 || c == 92)

-- the same, white space, `:` and `,`
unfoldable pub is_flat : ℕ → Bool
is_flat c = is_name c || is_space c || c == 58 || c == 44

-- the same and round brackets
unfoldable pub is_calm : ℕ → Bool
is_calm c = is_flat c || c == 40 || c == 41

abbrev pub less : ℕ → Option ℕ
less zero = None
less (suc n) = Some n

-- how many round brackets are open behind a character, where so many were before it; none where it closes none
abbrev pub bracket : ℕ → ℕ → Option ℕ
bracket n c = if c == 40 then Some (suc n) else if c == 41 then less n else Some n

abbrev pub and_then : Option ℕ → (ℕ → Option ℕ) → Option ℕ
and_then None f = None
and_then (Some n) f = f n

-- the same of characters
abbrev pub brackets : ℕ → List ℕ → Option ℕ
brackets n [] = Some n
brackets n (c ∷ cs) = and_then (bracket n c) (λ m. brackets m cs)

-- no `(` stands directly behind an `l`
abbrev pub OpensNoUrl : List ℕ → Type 0
OpensNoUrl [] = Unit {0}
OpensNoUrl (c ∷ []) = Unit {0}
OpensNoUrl (c ∷ d ∷ cs) = ((d == 40 && (c == 108 || c == 76)) ≡ false) × OpensNoUrl (d ∷ cs)

-- all round brackets are closed, and none opens `url(`
pub record IsClosed (cs : List ℕ) : Type 0 where
  pub closed : brackets 0 cs ≡ Some 0
  pub no_url : OpensNoUrl cs

-- `!important`
abbrev pub mark_text : List ℕ
mark_text = 33 ∷ important_letters

-- nothing, or blanks and the mark; without a blank the mark is a part of the value's last word
abbrev pub IsEnding : List ℕ → List ℕ → Type 0
IsEnding blanks mark = ((blanks ≡ []) × (mark ≡ [])) ⊎ ((0 < length blanks) × Each is_space blanks × (mark ≡ mark_text))

-- the first of the characters is neither `*` nor `_`
abbrev pub BeginsNoHack : List ℕ → Type 0
BeginsNoHack [] = Unit {0}
BeginsNoHack (c ∷ cs) = (c == 42 || c == 95) ≡ false

-- at the byte `at` stands such a declaration, with its `;`
pub record IsPlainLeaf (bytes : List ℕ) (at : ℕ) (p : PlainLeaf) : Type 0 where
  pub name : List ℕ
  pub back : List ℕ
  pub value : List ℕ
  pub blanks : List ℕ
  pub mark : List ℕ
  pub rest : List ℕ
  pub all : drop at bytes ≡ name ++ 58 ∷ (back ++ (value ++ (blanks ++ (mark ++ 59 ∷ rest))))
  pub name_some : 0 < length name
  pub name_class : Each is_name name
  pub name_begins : BeginsNoHack name
  pub back_class : Each is_space back
  pub value_some : 0 < length value
  pub value_class : Each is_calm value
  pub value_brackets : IsClosed value
  pub value_begins : BeginsWithout is_space value
  pub value_ends : EndsWithout is_space value
  pub ending : IsEnding blanks mark
  pub colon_at : p.colon ≡ at + length name
  pub value_at : p.value ≡ p.colon + 1 + length back
  pub end_at : p.end ≡ p.value + length value
  pub semicolon_at : p.semicolon ≡ p.end + (length blanks + length mark)

-- at the byte `at` stands such a head, with its `{`; the first character is neither `-` nor `(`
pub record IsPlainHead (bytes : List ℕ) (at : ℕ) (p : PlainHead) : Type 0 where
  pub selector : List ℕ
  pub between : List ℕ
  pub rest : List ℕ
  pub all : drop at bytes ≡ selector ++ (between ++ 123 ∷ rest)
  pub selector_some : 0 < length selector
  pub selector_class : Each is_calm selector
  pub selector_brackets : IsClosed selector
  pub selector_begins : BeginsWithout (λ c. is_space c || c == 45 || c == 40) selector
  pub selector_ends : EndsWithout is_space selector
  pub between_class : Each is_space between
  pub end_at : p.end ≡ at + length selector
  pub brace_at : p.brace ≡ p.end + length between

-- at the byte `at` stands such a statement
abbrev pub IsPlain : List ℕ → ℕ → Plain → Type 0
IsPlain bytes at (P.Leaf p) = IsPlainLeaf bytes at p
IsPlain bytes at (P.Head p) = IsPlainHead bytes at p

-- a piece of calm characters
abbrev pub IsCalm : Lexeme → Type 0
IsCalm p = Each is_calm p.text

abbrev pub AreCalm : List Lexeme → Type 0
AreCalm [] = Unit {0}
AreCalm (p ∷ ps) = IsCalm p × AreCalm ps

-- the word `!important`
abbrev pub IsMarkPieces : List Lexeme → Type 0
IsMarkPieces [] = ⊥
IsMarkPieces (p ∷ []) = (shape p ≡ Shape.word) × (p.text ≡ mark_text)
IsMarkPieces (p ∷ q ∷ ps) = ⊥

-- these pieces are those of the declaration
pub record IsLeafRun (bytes : List ℕ) (at : ℕ) (p : PlainLeaf) (run : List Lexeme) : Type 0 where
  pub word : Lexeme
  pub colon : Lexeme
  pub back : List Lexeme
  pub value : List Lexeme
  pub blanks : List Lexeme
  pub mark : List Lexeme
  pub all : run ≡ word ∷ colon ∷ (back ++ (value ++ (blanks ++ mark)))
  pub is_word : shape word ≡ Shape.word
  pub no_hack : begins_hack word.text ≡ false
  pub is_colon : shape colon ≡ Shape.colon
  pub back_class : Each is_blank back
  pub value_some : 0 < length value
  pub value_calm : AreCalm value
  pub value_begins : BeginsWithout is_blank value
  pub value_ends : EndsWithout is_blank value
  pub blanks_class : Each is_blank blanks
  pub ending : ((blanks ≡ []) × (mark ≡ []) × (p.semicolon ≡ p.end)) ⊎ (IsMarkPieces mark × (p.end < p.semicolon))
  pub stand : Stand bytes at run
  pub word_end : end_of word ≡ p.colon
  pub value_at : last_end p.colon (colon ∷ back) ≡ p.value
  pub end_at : last_end p.value value ≡ p.end
  pub semicolon_at : last_end p.end (blanks ++ mark) ≡ p.semicolon

-- these pieces are those of the head
pub record IsHeadRun (bytes : List ℕ) (at : ℕ) (p : PlainHead) (run : List Lexeme) : Type 0 where
  pub selector : List Lexeme
  pub between : List Lexeme
  pub all : run ≡ selector ++ between
  pub selector_some : 0 < length selector
  pub selector_calm : AreCalm selector
  pub selector_kind : BeginsNoAtRule selector
  pub selector_begins : BeginsWithout is_blank selector
  pub selector_ends : EndsWithout is_blank selector
  pub between_class : Each is_blank between
  pub stand : Stand bytes at run
  pub end_at : last_end at selector ≡ p.end
  pub brace_at : last_end p.end between ≡ p.brace
