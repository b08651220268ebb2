-- What the search for the important mark answers.
use Rattle.std.specs.Prelude.{◌≡◌, ℕ, ◌+◌, List, [], ◌∷◌, ◌++◌, false, Option, Some, None, length, take, drop, reverse}
use Rattle.std.specs.Str.{chars}
use Rattle.css_text.specs.Ahead.{byte_len}
use Rattle.css_tree.specs.Pieces.{Lexeme, join}
use Rattle.css_tree.specs.Pieces.{Shape, shape, is_blank}
use Rattle.css_tree.specs.Classes.{Each}
use Rattle.css_tree.specs.Mark.{mark_at, part}
use Rattle.css_tree.proofs.Split.{mark_of, mark_of_two, lead, unlead}
use Rattle.css_parse.specs.declared.mark.Split.{Split}
use Rattle.css_parse.specs.declared.mark.Mark.{Mark}

-- the text in two where its mark begins; none where there is none
abbrev pub IsSplit : Option Split → List ℕ → List ℕ → Type 0
IsSplit None letters text = mark_at false letters text ≡ None
IsSplit (Some s) letters text = (n : ℕ) × (mark_at false letters text ≡ Some n) × (chars s.front.now ≡ take n text) × (chars s.back.now ≡ drop n text) × (length s.front.now ≡ byte_len (take n text))

-- the mark begins in that word, behind its first n characters
pub record IsIn (m : Mark) (pieces : List Lexeme) : Type 0 where
  pub front : List Lexeme
  pub word : Lexeme
  pub back : List Lexeme
  pub n : ℕ
  pub all : pieces ≡ front ++ word ∷ back
  pub place : m.before ≡ length front
  pub is_word : shape word ≡ Shape.word
  pub before : chars m.word.front.now ≡ take n word.text
  pub behind : chars m.word.back.now ≡ drop n word.text
  pub size : length m.word.front.now ≡ byte_len (take n word.text)

-- the byte at which the mark begins
abbrev pub IsMarkStart : ℕ → Mark → List Lexeme → Type 0
IsMarkStart n m pieces = (h : IsIn m pieces) → n ≡ h.word.at + length m.word.front.now

-- the last of the pieces that isn't blank is a word that ends with `!`
pub record IsBang (m : Mark) (pieces : List Lexeme) : Type 0 where
  pub at : IsIn m pieces
  pub blanks : Each is_blank at.back
  pub found : mark_at false [] at.word.text ≡ Some at.n

abbrev pub IsFoundBang : Option Mark → List Lexeme → Type 0
IsFoundBang None pieces = (last : Lexeme) → mark_of_two last (lead (reverse pieces)) (unlead (reverse pieces)) ≡ None
IsFoundBang (Some m) pieces = IsBang m pieces

-- the mark of the pieces
pub record IsMarkOf (m : Mark) (body : List Lexeme) : Type 0 where
  pub at : IsIn m body
  pub found : mark_of body ≡ Some (record { front = at.front ++ part at.word at.n; mark = drop at.n at.word.text ++ join at.back })

abbrev pub IsFoundMark : Option Mark → List Lexeme → Type 0
IsFoundMark None body = mark_of body ≡ None
IsFoundMark (Some m) body = IsMarkOf m body
