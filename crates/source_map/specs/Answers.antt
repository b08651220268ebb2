-- What the calls of this crate answer.
use Rattle.std.specs.Prelude.{◌≡◌, ℕ, List, [], ◌∷◌, ◌++◌, length, nat_lt, take, Result, Ok, Err, Vec, if◌then◌else◌, true, false, slice_index, ◌<◌, ◌≤◌, ◌&&◌, ◌==◌, ◌+◌}
use Rattle.std.specs.declared.alloc.Global.{Global}
use Rattle.css_text.specs.declared.stop.Stop.{Stop}
use Rattle.css_text.specs.declared.stop.Stop.TheVariants.{Fault, Memory}
use Rattle.source_map.specs.declared.segment.MapFault.{MapFault}
use Rattle.source_map.specs.Decode.{is_separator, Slot}
use Rattle.source_map.specs.declared.last.Last.{Last}
use Rattle.source_map.specs.declared.segment.Segment.{Segment}
use Rattle.source_map.specs.Running.{decoded_slot}

-- a value that is the definition's, or its fault; of memory nothing is said
abbrev pub Answers : {A : Type 0} → Result A ℕ → Result A (Stop MapFault) → Type 0
Answers expected (Ok value) = expected ≡ Ok value
Answers expected (Err (Fault f)) = expected ≡ Err f.at
Answers expected (Err (Memory e)) = Unit {0}

-- the same of a list
abbrev pub AnswersList : Result (List Segment) ℕ → Result (Vec Segment Global) (Stop MapFault) → Type 0
AnswersList expected (Ok value) = expected ≡ Ok value.items
AnswersList expected (Err (Fault f)) = expected ≡ Err f.at
AnswersList expected (Err (Memory e)) = Unit {0}

-- the first six of these
abbrev pub first_six : Result (List ℕ) ℕ → Result (List ℕ) ℕ
first_six (Ok ns) = Ok (take 6 ns)
first_six (Err at) = Err at

-- six numbers are kept
abbrev pub with_sixth : List ℕ → ℕ → List ℕ
with_sixth ns n = if nat_lt (length ns) 6 then ns ++ n ∷ [] else ns

-- the first six numbers are put in a list, or there is the fault in them
abbrev pub PutsNumbers : Result (List ℕ) ℕ → List ℕ → Result (Unit {0}) (Stop MapFault) → Type 0
PutsNumbers numbers put (Ok u) = first_six numbers ≡ Ok put
PutsNumbers numbers put (Err (Fault f)) = numbers ≡ Err f.at
PutsNumbers numbers put (Err (Memory e)) = Unit {0}

-- no separator stands from that place up to the end, and one stands there, or nothing
pub record IsSlotEnd (text : List ℕ) (from end : ℕ) : Type 0 where
  pub after : from ≤ end
  pub within : end ≤ length text
  pub none : (i : ℕ) → from ≤ i → i < end → is_separator (slice_index text i) ≡ false
  pub one : end < length text → is_separator (slice_index text end) ≡ true

-- the line behind the separator at that place, if there is one
abbrev pub line_behind : List ℕ → ℕ → ℕ → ℕ
line_behind text line end = if nat_lt end (length text) && slice_index text end == 59 then line + 1 else line

-- segments in front of what follows
abbrev pub behind : List Segment → Result (List Segment) ℕ → Result (List Segment) ℕ
behind gs (Ok hs) = Ok (gs ++ hs)
behind gs (Err at) = Err at

-- a slot is read: what follows it is read from what fields are relative to then, behind the segments that there are then
abbrev pub ReadsSlot : Slot → Last → Last → List Segment → List Segment → Result (Unit {0}) (Stop MapFault) → Type 0
ReadsSlot s old new before now (Ok u) = (rest : Last → Result (List Segment) ℕ) → behind before (decoded_slot old s s.text rest) ≡ behind now (rest new)
ReadsSlot s old new before now (Err (Fault f)) = (rest : Last → Result (List Segment) ℕ) → decoded_slot old s s.text rest ≡ Err f.at
ReadsSlot s old new before now (Err (Memory e)) = Unit {0}
