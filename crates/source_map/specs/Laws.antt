-- The law of mappings texts.
use Rattle.std.specs.Prelude.{◌≡◌, ◌<◌, ◌^◌, List, All, Option, Some, None, Ok}
use Rattle.std.specs.List.Sorted.{IsNonDecreasingBy}
use Rattle.source_map.specs.declared.segment.Segment.{Segment}
use Rattle.source_map.specs.declared.segment.Origin.{Origin}
use Rattle.source_map.specs.Lines.{line_of}
use Rattle.source_map.specs.Written.{mappings_text}
use Rattle.source_map.specs.Decode.{decode}

pub record FitsOrigin (o : Origin) : Type 0 where
  pub source : o.source < 2 ^ 32
  pub line : o.line < 2 ^ 32
  pub column : o.column < 2 ^ 32

abbrev pub FitsIfAny : Option Origin → Type 0
FitsIfAny None = Unit {0}
FitsIfAny (Some o) = FitsOrigin o

-- each number is one of 32 bits
pub record FitsSegment (g : Segment) : Type 0 where
  pub line : g.line < 2 ^ 32
  pub column : g.column < 2 ^ 32
  pub origin : FitsIfAny g.origin

-- the mappings text of segments stands for them
abbrev pub DecodesBack : Type 0
DecodesBack = (gs : List Segment) → IsNonDecreasingBy line_of gs → All FitsSegment gs → decode (mappings_text gs) ≡ Ok gs
