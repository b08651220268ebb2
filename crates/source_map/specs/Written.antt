-- The mappings text of segments, as the Source Map revision 3 text has it: lines are separated by `;` and segments by
-- `,`; a segment's first field is its column, relative to the last one on its line; the other fields, if it has them,
-- are the source, line and column of its origin, each relative to the last one in the text.
use Rattle.std.specs.Prelude.{ℕ, ◌+◌, ◌-◌, ◌*◌, ◌==◌, nat_le, Bool, true, false, List, [], ◌∷◌, ◌++◌, Option, Some, None, unwrap_or, replicate, if◌then◌else◌}
use Rattle.source_map.specs.declared.segment.Segment.{Segment}
use Rattle.source_map.specs.declared.segment.Origin.{Origin}
use Rattle.source_map.specs.Vlq.{number_text}

-- Of the segments before a place the latest comes first: the line that it stands on, its column if that is on the line asked for,
-- and the latest origin; all count from 0 where there is none.
abbrev pub line_before : List Segment → ℕ
line_before [] = 0
line_before (g ∷ before) = g.line

abbrev pub latest_column : List Segment → ℕ
latest_column [] = 0
latest_column (g ∷ before) = g.column

abbrev pub column_before : List Segment → ℕ → ℕ
column_before before line = if line_before before == line then latest_column before else 0

abbrev pub origin_before : List Segment → Origin
origin_before [] = record { source = 0; line = 0; column = 0 }
origin_before (g ∷ before) = unwrap_or g.origin (origin_before before)

abbrev pub is_none : List Segment → Bool
is_none [] = true
is_none (g ∷ before) = false

-- the number of a difference: its size, and its sign as the lowest bit
abbrev pub difference : ℕ → ℕ → ℕ
difference from to = if nat_le from to then 2 * (to - from) else 2 * (from - to) + 1

abbrev pub field_text : ℕ → ℕ → List ℕ
field_text from to = number_text (difference from to)

abbrev pub origin_text : Origin → Option Origin → List ℕ
origin_text o None = []
origin_text o (Some p) = field_text o.source p.source ++ (field_text o.line p.line ++ field_text o.column p.column)

abbrev pub segment_text : List Segment → Segment → List ℕ
segment_text before g = field_text (column_before before g.line) g.column ++ origin_text (origin_before before) g.origin

-- what stands between the segments before and a segment on that line
abbrev pub separator : List Segment → ℕ → List ℕ
separator before line = if line_before before == line then (if is_none before then [] else 44 ∷ []) else replicate (line - line_before before) 59

unfoldable pub written : List Segment → List Segment → List ℕ
written before [] = []
written before (g ∷ gs) = separator before g.line ++ (segment_text before g ++ written (g ∷ before) gs)

-- the text of segments whose lines don't decrease
abbrev pub mappings_text : List Segment → List ℕ
mappings_text gs = written [] gs
