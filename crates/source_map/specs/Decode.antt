-- The segments that a mappings text stands for, or the byte of its first fault, as the Source Map revision 3 text has
-- it. Which texts are faults, and where they stand, is this project's own. A text may be given by its characters or its
-- bytes: all that isn't ASCII is a fault.
use Rattle.std.specs.Prelude.{ℕ, ◌+◌, ◌-◌, ◌/◌, ◌%◌, ◌^◌, ◌==◌, ◌||◌, Bool, nat_le, nat_lt, List, [], ◌∷◌, length, Option, Some, None, Result, Ok, Err, if◌then◌else◌}
use Rattle.source_map.specs.declared.segment.Segment.{Segment}
use Rattle.source_map.specs.declared.segment.Origin.{Origin}
use Rattle.source_map.specs.Vlq.{numbers}
use Rattle.source_map.specs.Written.{column_before, origin_before}

-- `,` and `;`
abbrev pub is_separator : ℕ → Bool
is_separator c = c == 44 || c == 59

-- what stands between two separators: on which line, from which byte on
pub record Slot : Type 0 where
  pub line : ℕ
  pub at : ℕ
  pub text : List ℕ

abbrev pub with_first : ℕ → ℕ → ℕ → List Slot → List Slot
with_first line at c [] = record { line = line; at = at; text = c ∷ [] } ∷ []
with_first line at c (s ∷ ss) = record { line = line; at = at; text = c ∷ s.text } ∷ ss

-- the slots of a text that begins on that line, at the byte `at`
unfoldable pub slots : ℕ → ℕ → List ℕ → List Slot
slots line at [] = record { line = line; at = at; text = [] } ∷ []
slots line at (c ∷ cs) =
    if c == 44 then record { line = line; at = at; text = [] } ∷ slots line (at + 1) cs
    else if c == 59 then record { line = line; at = at; text = [] } ∷ slots (line + 1) (at + 1) cs
    else with_first line at c (slots line (at + 1) cs)

-- what a field gives, from what it is relative to, where that is a number of 32 bits
abbrev pub moved : ℕ → ℕ → Option ℕ
moved from n =
    if n % 2 == 1 then (if nat_le (n / 2) from then Some (from - n / 2) else None)
    else (if nat_lt (from + n / 2) (2 ^ 32) then Some (from + n / 2) else None)

abbrev pub origin_of : Option ℕ → Option ℕ → Option ℕ → Option Origin
origin_of (Some s) (Some i) (Some c) = Some (record { source = s; line = i; column = c })
origin_of _ _ _ = None

abbrev pub plain_segment : ℕ → Option ℕ → Option Segment
plain_segment line (Some c) = Some (record { line = line; column = c; origin = None })
plain_segment line None = None

abbrev pub full_segment : ℕ → Option ℕ → Option Origin → Option Segment
full_segment line (Some c) (Some o) = Some (record { line = line; column = c; origin = Some o })
full_segment line _ _ = None

abbrev pub moved_origin : Origin → ℕ → ℕ → ℕ → Option Origin
moved_origin o s i c = origin_of (moved o.source s) (moved o.line i) (moved o.column c)

-- the segment of one, four or five fields after these segments, of which the latest comes first; the fifth, a name's number, is
-- ignored
abbrev pub segment_from : List Segment → ℕ → List ℕ → Option Segment
segment_from before line (c ∷ []) = plain_segment line (moved (column_before before line) c)
segment_from before line (c ∷ s ∷ i ∷ k ∷ []) = full_segment line (moved (column_before before line) c) (moved_origin (origin_before before) s i k)
segment_from before line (c ∷ s ∷ i ∷ k ∷ n ∷ []) = full_segment line (moved (column_before before line) c) (moved_origin (origin_before before) s i k)
segment_from before line _ = None

abbrev pub or_fault : ℕ → Option Segment → Result Segment ℕ
or_fault at (Some g) = Ok g
or_fault at None = Err at

-- the segment of these numbers, or the fault in them, or at the end of their slot
abbrev pub segment_by : Result (List ℕ) ℕ → List Segment → ℕ → ℕ → Result Segment ℕ
segment_by (Ok ns) before line end = or_fault end (segment_from before line ns)
segment_by (Err at) before line end = Err at

abbrev pub segment_in : List Segment → Slot → Result Segment ℕ
segment_in before s = segment_by (numbers s.at 0 s.text) before s.line (s.at + length s.text)

abbrev pub with_segment : Segment → Result (List Segment) ℕ → Result (List Segment) ℕ
with_segment g (Ok gs) = Ok (g ∷ gs)
with_segment g (Err at) = Err at

abbrev pub decoded_by : Result Segment ℕ → (Segment → Result (List Segment) ℕ) → Result (List Segment) ℕ
decoded_by (Ok g) rest = with_segment g (rest g)
decoded_by (Err at) rest = Err at

-- a slot after these segments, and what follows it; where nothing stands between separators there is no segment
abbrev pub decoded_slot : List Segment → Slot → List ℕ → (List Segment → Result (List Segment) ℕ) → Result (List Segment) ℕ
decoded_slot before s [] rest = rest before
decoded_slot before s (c ∷ cs) rest = decoded_by (segment_in before s) (λ g. rest (g ∷ before))

unfoldable pub decoded : List Segment → List Slot → Result (List Segment) ℕ
decoded before [] = Ok []
decoded before (s ∷ ss) = decoded_slot before s s.text (λ k. decoded k ss)

unfoldable pub decode : List ℕ → Result (List Segment) ℕ
decode text = decoded [] (slots 0 0 text)
