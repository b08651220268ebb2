-- Small mappings texts, and the segments that they stand for.
use Rattle.std.specs.Prelude.{◌≡◌, ℕ, [], ◌∷◌, codes, Some, None, Ok, Err}
use Rattle.source_map.specs.declared.segment.Segment.{Segment}
use Rattle.source_map.specs.Vlq.{number_text, numbers}
use Rattle.source_map.specs.Written.{mappings_text}
use Rattle.source_map.specs.Decode.{decode}

-- a segment of the output's line and column, which comes from that line and column of the first source
abbrev from_first : ℕ → ℕ → ℕ → ℕ → Segment
from_first line column source_line source_column = record { line = line; column = column; origin = Some (record { source = 0; line = source_line; column = source_column }) }

abbrev without_source : ℕ → ℕ → Segment
without_source line column = record { line = line; column = column; origin = None }

-- five bits a digit, so 32 takes two digits
abbrev pub Numbers : Type 0
Numbers = (number_text 0 ≡ codes "A") × (number_text 3 ≡ codes "D") × (number_text 32 ≡ codes "gB") × (numbers 0 0 (codes "ADgB") ≡ Ok (0 ∷ 3 ∷ 32 ∷ []))

-- Columns begin anew on each line. Lines and columns of the source go on.
abbrev pub Texts : Type 0
Texts = (mappings_text [] ≡ [])
    × (mappings_text (from_first 0 0 0 0 ∷ from_first 1 2 1 2 ∷ []) ≡ codes "AAAA;EACE")
    × (mappings_text (from_first 0 4 3 1 ∷ from_first 0 6 2 0 ∷ []) ≡ codes "IAGC,EADD")
    × (mappings_text (without_source 2 0 ∷ without_source 2 1 ∷ []) ≡ codes ";;A,C")

abbrev pub Segments : Type 0
Segments = (decode (codes "AAAA;EACE") ≡ Ok (from_first 0 0 0 0 ∷ from_first 1 2 1 2 ∷ []))
    × (decode (codes "IAGC,EADD") ≡ Ok (from_first 0 4 3 1 ∷ from_first 0 6 2 0 ∷ []))
    × (decode (codes ";;A,,C;") ≡ Ok (without_source 2 0 ∷ without_source 2 1 ∷ []))
    × (decode (codes "AAAAA") ≡ Ok (from_first 0 0 0 0 ∷ []))

-- The byte at which it shows: the end of a slot with two fields, a character that is no digit, the end of a slot within a
-- number, a number's eighth digit, and the end of a slot that leads before the first column.
abbrev pub Faults : Type 0
Faults = (decode (codes "AA") ≡ Err 2) × (decode (codes "AA=A") ≡ Err 2) × (decode (codes "g") ≡ Err 1) × (decode (codes "gggggggA") ≡ Err 7) × (decode (codes "A,D") ≡ Err 3)
