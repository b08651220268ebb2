-- The proof's own: what Written and Decode say, by the code's record of what the fields of the next segment are relative to.
use Rattle.std.specs.Prelude.{ℕ, ◌+◌, ◌-◌, ◌==◌, true, false, List, [], ◌∷◌, ◌++◌, length, Option, None, unwrap_or, replicate, Result, Ok, Err, if◌then◌else◌}
use Rattle.source_map.specs.declared.segment.Segment.{Segment}
use Rattle.source_map.specs.declared.last.Last.{Last}
use Rattle.source_map.specs.Vlq.{numbers}
use Rattle.source_map.specs.Written.{field_text, origin_text, line_before, latest_column, origin_before, is_none}
use Rattle.source_map.specs.Decode.{Slot, slots, moved, moved_origin, plain_segment, full_segment, or_fault, decoded_by}

abbrev pub nothing_yet : Last
nothing_yet = record { line = 0; is_first = true; column = 0; origin = record { source = 0; line = 0; column = 0 } }

-- the column that a column on that line is relative to
abbrev pub last_column : Last → ℕ → ℕ
last_column l line = if l.line == line then l.column else 0

abbrev pub after : Last → Segment → Last
after l g = record { line = g.line; is_first = false; column = g.column; origin = unwrap_or g.origin l.origin }

-- the record after these segments, of which the latest comes first
abbrev pub last_of : List Segment → Last
last_of before = record { line = line_before before; is_first = is_none before; column = latest_column before; origin = origin_before before }

abbrev pub segment_text : Last → Segment → List ℕ
segment_text l g = field_text (last_column l g.line) g.column ++ origin_text l.origin g.origin

abbrev pub separator : Last → ℕ → List ℕ
separator l line = if l.line == line then (if l.is_first then [] else 44 ∷ []) else replicate (line - l.line) 59

unfoldable pub written : Last → List Segment → List ℕ
written l [] = []
written l (g ∷ gs) = separator l g.line ++ (segment_text l g ++ written (after l g) gs)

abbrev pub running_text : List Segment → List ℕ
running_text gs = written nothing_yet gs

abbrev pub segment_from : Last → ℕ → List ℕ → Option Segment
segment_from l line (c ∷ []) = plain_segment line (moved (last_column l line) c)
segment_from l line (c ∷ s ∷ i ∷ k ∷ []) = full_segment line (moved (last_column l line) c) (moved_origin l.origin s i k)
segment_from l line (c ∷ s ∷ i ∷ k ∷ n ∷ []) = full_segment line (moved (last_column l line) c) (moved_origin l.origin s i k)
segment_from l line _ = None

abbrev pub segment_by : Result (List ℕ) ℕ → Last → ℕ → ℕ → Result Segment ℕ
segment_by (Ok ns) l line end = or_fault end (segment_from l line ns)
segment_by (Err at) l line end = Err at

abbrev pub segment_in : Last → Slot → Result Segment ℕ
segment_in l s = segment_by (numbers s.at 0 s.text) l s.line (s.at + length s.text)

abbrev pub decoded_slot : Last → Slot → List ℕ → (Last → Result (List Segment) ℕ) → Result (List Segment) ℕ
decoded_slot l s [] rest = rest l
decoded_slot l s (c ∷ cs) rest = decoded_by (segment_in l s) (λ g. rest (after l g))

unfoldable pub decoded : Last → List Slot → Result (List Segment) ℕ
decoded l [] = Ok []
decoded l (s ∷ ss) = decoded_slot l s s.text (λ k. decoded k ss)

unfoldable pub running_decode : List ℕ → Result (List Segment) ℕ
running_decode text = decoded nothing_yet (slots 0 0 text)
