use Rattle.source_map.proofs.SoFar.{IsSoFar}
use Rattle.source_map.proofs.vlq.put_numbers.Given as goal

abbrev pub invariant-loop-i : goal.invariant-loop-i
invariant-loop-i l = IsSoFar l.at l.slot l.i l.fields.items l.number
