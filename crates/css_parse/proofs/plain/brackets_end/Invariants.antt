use Rattle.std.proofs.Common.{◌-◌, ◌≤◌, length}
use Rattle.css_parse.specs.PlainScan.{IsCalmRun}
use Rattle.css_parse.proofs.plain.brackets_end.Given as goal

abbrev pub invariant-loop-behind : goal.invariant-loop-behind
invariant-loop-behind l = (l.depth ≤ l.i) × IsCalmRun l.bytes l.from l.i 0 l.depth

abbrev pub decreases-loop-behind : goal.decreases-loop-behind
decreases-loop-behind l = length l.bytes - l.i
