use Rattle.std.proofs.Common.{◌≡◌, ◌-◌, ◌<◌, ◌≤◌, ℕ, length, slice_index, false}
use Rattle.source_map.specs.Decode.{is_separator}
use Rattle.source_map.proofs.reading.slot_end.Given as goal

abbrev pub invariant-loop-end : goal.invariant-loop-end
invariant-loop-end l = record {
  after : l.from ≤ l.end;
  within : l.end ≤ length l.text;
  none : (i : ℕ) → l.from ≤ i → i < l.end → is_separator (slice_index l.text i) ≡ false;
}

abbrev pub decreases-loop-end : goal.decreases-loop-end
decreases-loop-end l = length l.text - l.end
