-- Parts as the grammar sees them.
use Rattle.std.specs.Prelude.{Bool, true, false, List, [], ◌∷◌, map}
use Rattle.css_text.specs.declared.lexer.PieceKind.TheVariants as piece
use Rattle.css_text.specs.ValueParts.{ValueForm, plain, function, ValueParts, none, value}
use Rattle.value_parse.specs.declared.part.ValueKind.{ValueKind}
use Rattle.value_parse.specs.declared.part.ValueKind.TheVariants.{Space, Comment, Quoted, Url, Mark, Word, Function}
use Rattle.value_parse.specs.declared.part.ValuePart.{ValuePart}
use Rattle.value_parse.specs.declared.part.ValuePart.TheOpen.{ValuePart-F}
use Rattle.value_parse.specs.declared.part.ValuePart.TheFolds.{fold-ValuePart}

abbrev pub form_of : ValueKind → ValueForm
form_of Space = plain piece.Space
form_of Comment = plain piece.Comment
form_of Quoted = plain piece.Quoted
form_of Url = plain piece.Url
form_of Mark = plain piece.Single
form_of Word = plain piece.Word
form_of Function = function

abbrev pub is_function : ValueForm → Bool
is_function function = true
is_function (plain k) = false

-- what each of these puts before the parts after it, one after another
abbrev pub in_turn : List (ValueParts → ValueParts) → ValueParts → ValueParts
in_turn [] rest = rest
in_turn (f ∷ fs) rest = f (in_turn fs rest)

-- one part before others, each part inside it given in the same way
abbrev pub part_step : ValuePart-F (ValueParts → ValueParts) → ValueParts → ValueParts
part_step p rest = value (form_of p.kind) p.at p.text (in_turn p.inner.items none) p.closed rest

-- a part before others
abbrev pub before : ValuePart → ValueParts → ValueParts
before = fold-ValuePart (ValueParts → ValueParts) part_step

-- parts before others
abbrev pub parts_before : List ValuePart → ValueParts → ValueParts
parts_before ps rest = in_turn (map before ps) rest

-- The parts of a list.
abbrev pub parts_of : List ValuePart → ValueParts
parts_of ps = parts_before ps none
