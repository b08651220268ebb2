use Rattle.std.proofs.Common.{◌≡◌, ◌+◌, ◌-◌, ◌≤◌, false, length, drop}
use Rattle.css_text.specs.ValueParts.{value_len}
use Rattle.value_parse.proofs.scan.word_end.Given as goal

abbrev pub invariant-loop-i : goal.invariant-loop-i
invariant-loop-i l = (l.i ≤ length l.s) × (l.i + value_len false (drop l.i l.s) ≡ l.from + value_len false (drop l.from l.s))

abbrev pub decreases-loop-i : goal.decreases-loop-i
decreases-loop-i l = length l.s - l.i
