-- The lines of segments.
use Rattle.std.specs.Prelude.{ℕ}
use Rattle.source_map.specs.declared.segment.Segment.{Segment}

abbrev pub line_of : Segment → ℕ
line_of g = g.line
