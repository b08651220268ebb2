use Rattle.std.proofs.Common.{◌+◌, ◌-◌, length}
use Rattle.source_map.proofs.Slots.{IsReadUpTo}
use Rattle.source_map.proofs.reading.read_mappings.Given as goal

abbrev pub invariant-loop-at : goal.invariant-loop-at
invariant-loop-at l = IsReadUpTo l.bytes l.line l.at l.last l.segments.items

abbrev pub decreases-loop-at : goal.decreases-loop-at
decreases-loop-at l = length l.bytes + 1 - l.at
