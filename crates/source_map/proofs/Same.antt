-- The code's record says what the segments before say.
use Rattle.std.proofs.Common.{◌≡◌, List, [], ◌∷◌, ◌++◌, ℕ, ◌+◌, length, Result, Ok, Err, All, refl, ap, ◌∙◌}
use Rattle.std.specs.List.Sorted.{IsNonDecreasingBy}
use Rattle.source_map.specs.declared.segment.Segment.{Segment}
use Rattle.source_map.specs.Vlq.{numbers}
use Rattle.source_map.specs.Lines.{line_of}
use Rattle.source_map.specs.Laws.{FitsSegment}
use Rattle.source_map.specs.Written as W
use Rattle.source_map.specs.Decode as D
use Rattle.source_map.specs.Running as R
use Rattle.source_map.proofs.Lawful.{running_back}

written_same : (before gs : List Segment) → W.written before gs ≡ R.written (R.last_of before) gs
unfolding W.written R.written
written_same before [] = refl
written_same before (g ∷ gs) = ap (λ t. W.separator before g.line ++ (W.segment_text before g ++ t)) (written_same (g ∷ before) gs)

pub mappings_same : (gs : List Segment) → W.mappings_text gs ≡ R.running_text gs
mappings_same gs = written_same [] gs

from_same : (before : List Segment) (line : ℕ) (ns : List ℕ) → D.segment_from before line ns ≡ R.segment_from (R.last_of before) line ns
from_same before line [] = refl
from_same before line (c ∷ []) = refl
from_same before line (c ∷ s ∷ []) = refl
from_same before line (c ∷ s ∷ i ∷ []) = refl
from_same before line (c ∷ s ∷ i ∷ k ∷ []) = refl
from_same before line (c ∷ s ∷ i ∷ k ∷ n ∷ []) = refl
from_same before line (c ∷ s ∷ i ∷ k ∷ n ∷ m ∷ ns) = refl

by_same : (before : List Segment) (line end : ℕ) (r : Result (List ℕ) ℕ) → D.segment_by r before line end ≡ R.segment_by r (R.last_of before) line end
by_same before line end (Ok ns) = ap (D.or_fault end) (from_same before line ns)
by_same before line end (Err at) = refl

in_same : (before : List Segment) (s : D.Slot) → D.segment_in before s ≡ R.segment_in (R.last_of before) s
in_same before s = by_same before s.line (s.at + length s.text) (numbers s.at 0 s.text)

by_segment : (before : List Segment) (ss : List D.Slot) (r : Result Segment ℕ) → ((k : List Segment) → D.decoded k ss ≡ R.decoded (R.last_of k) ss)
    → D.decoded_by r (λ g. D.decoded (g ∷ before) ss) ≡ D.decoded_by r (λ g. R.decoded (R.after (R.last_of before) g) ss)
by_segment before ss (Ok g) h = ap (D.with_segment g) (h (g ∷ before))
by_segment before ss (Err at) h = refl

by_slot : (before : List Segment) (ss : List D.Slot) (s : D.Slot) (t : List ℕ) → ((k : List Segment) → D.decoded k ss ≡ R.decoded (R.last_of k) ss)
    → D.decoded_slot before s t (λ k. D.decoded k ss) ≡ R.decoded_slot (R.last_of before) s t (λ k. R.decoded k ss)
by_slot before ss s [] h = h before
by_slot before ss s (c ∷ cs) h = by_segment before ss (D.segment_in before s) h ∙ ap (λ r. D.decoded_by r (λ g. R.decoded (R.after (R.last_of before) g) ss)) (in_same before s)

decoded_same : (before : List Segment) (ss : List D.Slot) → D.decoded before ss ≡ R.decoded (R.last_of before) ss
unfolding D.decoded R.decoded
decoded_same before [] = refl
decoded_same before (s ∷ ss) = by_slot before ss s s.text (λ k. decoded_same k ss)

pub decode_same : (text : List ℕ) → D.decode text ≡ R.running_decode text
unfolding D.decode R.running_decode
decode_same text = decoded_same [] (D.slots 0 0 text)

pub decodes_back : (gs : List Segment) → IsNonDecreasingBy line_of gs → All FitsSegment gs → D.decode (W.mappings_text gs) ≡ Ok gs
decodes_back gs o f = decode_same (W.mappings_text gs) ∙ ap R.running_decode (mappings_same gs) ∙ running_back gs o f
