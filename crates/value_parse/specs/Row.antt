-- What has been read of a value.
use Rattle.std.specs.Prelude.{◌≡◌, ◌≤◌, ℕ, ◌+◌, List, ◌++◌, length, drop, encode_utf8_all}
use Rattle.css_text.specs.declared.lexer.PieceKind.TheVariants.{Word}
use Rattle.css_text.specs.Ahead.{byte_len}
use Rattle.css_text.specs.ValueParts.{ValueForm, plain, ValueParts, written, AreParts, Stops, StandAt}

-- The parts stand, inside so many Functions, from the byte `start` up to the byte `end`.
pub record IsRow (bs : List ℕ) (start depth : ℕ) (parts : ValueParts) (end : ℕ) : Type 0 where
  pub ahead : List ℕ
  pub fits : end ≤ length bs
  pub here : drop end bs ≡ encode_utf8_all ahead
  pub text : drop start bs ≡ encode_utf8_all (written parts ++ ahead)
  pub size : end ≡ start + byte_len (written parts)
  pub are : AreParts depth parts ahead
  pub places : StandAt start parts

-- The same, and no part follows them there.
pub record IsWholeRow (bs : List ℕ) (start depth : ℕ) (parts : ValueParts) (end : ℕ) : Type 0 where
  pub row : IsRow bs start depth parts end
  pub stops : Stops depth row.ahead

-- where the name of a Function that begins with this part ends: behind a Word, and else before the part
abbrev pub name_end : ValueForm → ℕ → ℕ → ℕ
name_end (plain Word) at end = end
name_end form at end = at
