use Rattle.std.proofs.Common.{◌≡◌, ◌+◌, ◌-◌, ◌≤◌, length, drop}
use Rattle.value_parse.specs.NumberLengths.{digits_len}
use Rattle.value_parse.proofs.number.digits_end.Given as goal

abbrev pub invariant-loop-i : goal.invariant-loop-i
invariant-loop-i l = (l.from ≤ l.i) × (l.i ≤ length l.s) × (l.i + digits_len (drop l.i l.s) ≡ l.from + digits_len (drop l.from l.s))

abbrev pub decreases-loop-i : goal.decreases-loop-i
decreases-loop-i l = length l.s - l.i
