-- Pieces that stand side by side in the sheet, and the gap before them.
use Rattle.std.specs.Prelude.{◌≡◌, ◌≤◌, ℕ, List, [], ◌∷◌, length, encode_utf8_all}
use Rattle.std.specs.Str.{chars, IsUtf8}
use Rattle.css_text.specs.Shared.{part, IsPart}
use Rattle.css_text.proofs.Slices.{IsSlice}
use Rattle.css_tree.specs.Pieces.{Lexeme, end_of}
use Rattle.css_parse.specs.declared.gap.Gap.{Gap}
use Rattle.css_parse.specs.declared.texts.Texts.{Texts}

-- the bytes of the sheet
abbrev pub sheet : Texts → List ℕ
sheet t = encode_utf8_all t.sheet.now

-- the bytes are a text's, and few enough
pub record IsSheet (bytes : List ℕ) : Type 0 where
  pub utf8 : IsUtf8 bytes
  pub short : length bytes ≤ 67108864

-- from the byte `at` on these pieces stand in the bytes, one behind another
abbrev pub Stand : List ℕ → ℕ → List Lexeme → Type 0
Stand bytes at [] = Unit {0}
Stand bytes at (p ∷ ps) = (p.at ≡ at) × IsSlice bytes p.at (end_of p) p.text × Stand bytes (end_of p) ps

-- they stand so from some byte on
pub record AreParts (bytes : List ℕ) (pieces : List Lexeme) : Type 0 where
  pub is_sheet : IsSheet bytes
  pub at : ℕ
  pub stand : Stand bytes at pieces

-- the text of a gap
unfoldable pub gap_text : List ℕ → Gap → List ℕ
gap_text bytes g = chars (part bytes g.start g.end)

-- the gap stands in the bytes, and the pieces directly behind it
pub record IsBehind (bytes : List ℕ) (g : Gap) (pieces : List Lexeme) : Type 0 where
  pub is_sheet : IsSheet bytes
  pub gap : IsPart bytes g.start g.end
  pub stand : Stand bytes g.end pieces
