-- The value of a declaration and its mark, by the pieces of both.
use Rattle.std.specs.Prelude.{◌≡◌, ℕ, ◌<◌, ◌≤◌, ◌++◌, List, length, take, drop}
use Rattle.css_tree.specs.Pieces.{Lexeme}
use Rattle.css_tree.specs.Fields.{source_text}
use Rattle.css_tree.proofs.Split.{solid, rest_of, first_list, mark_of, value_of, important_of, is_marked}
use Rattle.css_parse.specs.declared.mark.Mark.{Mark}
use Rattle.css_parse.specs.declared.fields.Value.{Value}

pub record IsValue (v : Value) (body : List Lexeme) : Type 0 where
  pub source : v.source ≡ source_text (value_of (mark_of body) body)
  pub important : v.important ≡ is_marked (mark_of body)
  pub raw : v.important_raw ≡ important_of (mark_of body)

-- how many pieces before the mark's word are no trailing blanks of the value
pub record IsValueLen (n : ℕ) (m : Mark) (body : List Lexeme) : Type 0 where
  pub within : n ≤ m.before
  pub bare : length m.word.front.now ≡ 0 → take n (take m.before body) ≡ solid (take m.before body)
  pub whole : 0 < length m.word.front.now → n ≡ m.before

-- behind the piece at the place n, if there is one
pub record IsPast (m n : ℕ) (pieces : List Lexeme) : Type 0 where
  pub within : m ≤ length pieces
  pub back : drop m pieces ≡ rest_of (drop n pieces)
  pub front : take m pieces ≡ take n pieces ++ first_list (drop n pieces)
