-- The important mark, which CSS Cascading and Inheritance defines; that it is looked for at the end of words is this project's own.
use Rattle.std.specs.Prelude.{◌≡◌, ◌⊎◌, ℕ, suc, ◌==◌, ◌&&◌, not, if◌then◌else◌, List, [], ◌∷◌, ◌++◌, Bool, true, false, Option, Some, None, take, drop}
use Rattle.std.specs.Option.{option_map}
use Rattle.std.specs.Char.{to_ascii_lowercase}
use Rattle.css_tree.specs.Pieces.{Lexeme, Shape, shape, is_blank, join}
use Rattle.css_tree.specs.Classes.{Each}

-- the whole text is these letters in any ASCII case
abbrev pub is_text : List ℕ → List ℕ → Bool
is_text [] [] = true
is_text [] (c ∷ cs) = false
is_text (p ∷ ps) [] = false
is_text (p ∷ ps) (c ∷ cs) = to_ascii_lowercase c == p && is_text ps cs

-- The place from which on the text is `!` and these letters in any ASCII case, where no backslash hides the `!`; a backslash
-- stands directly before the text where its first character is hidden. With `important` for letters that is the mark in one word, and with none
-- a lone `!` at the word's end, which begins the mark in two.
abbrev pub mark_at : Bool → List ℕ → List ℕ → Option ℕ
mark_at hidden letters [] = None
mark_at hidden letters (c ∷ cs) = if not hidden && (c == 33 && is_text letters cs) then Some 0 else option_map suc (mark_at (not hidden && c == 92) letters cs)

-- `important`
abbrev pub important_letters : List ℕ
important_letters = 105 ∷ 109 ∷ 112 ∷ 111 ∷ 114 ∷ 116 ∷ 97 ∷ 110 ∷ 116 ∷ []

-- a text as a part of a piece; an empty one is none
abbrev pub part_by : Lexeme → List ℕ → List Lexeme
part_by p [] = []
part_by p (c ∷ cs) = record p { text = c ∷ cs } ∷ []

-- the first n characters of a piece
abbrev pub part : Lexeme → ℕ → List Lexeme
part p n = part_by p (take n p.text)

-- the last piece is a word that ends with `!important`
pub record EndsInOne (body front : List Lexeme) (mark : List ℕ) : Type 0 where
  pub pieces : List Lexeme
  pub word : Lexeme
  pub place : ℕ
  pub all : pieces ++ word ∷ [] ≡ body
  pub is_word : shape word ≡ Shape.word
  pub found : mark_at false important_letters word.text ≡ Some place
  pub is_front : front ≡ pieces ++ part word place
  pub is_mark : mark ≡ drop place word.text

-- the last piece is the word `important`, and the last one before it that isn't blank is a word that ends with `!`
pub record EndsInTwo (body front : List Lexeme) (mark : List ℕ) : Type 0 where
  pub pieces : List Lexeme
  pub word : Lexeme
  pub blanks : List Lexeme
  pub last : Lexeme
  pub place : ℕ
  pub all : pieces ++ word ∷ (blanks ++ last ∷ []) ≡ body
  pub is_word : shape word ≡ Shape.word
  pub blank : Each is_blank blanks
  pub is_last : shape last ≡ Shape.word
  pub letters : is_text important_letters last.text ≡ true
  pub found : mark_at false [] word.text ≡ Some place
  pub is_front : front ≡ pieces ++ part word place
  pub is_mark : mark ≡ drop place word.text ++ (join blanks ++ last.text)

-- a value with its mark ends with that mark, and that stands before it
abbrev pub EndsInMark : List Lexeme → List Lexeme → List ℕ → Type 0
EndsInMark body front mark = EndsInOne body front mark ⊎ EndsInTwo body front mark
