use Rattle.std.proofs.Common.{◌≡◌, ◌+◌, ◌-◌, ◌≤◌, length, drop}
use Rattle.selector_parse.specs.Reading.{scan_len, scan_last}
use Rattle.selector_parse.proofs.scan.scan.Given as goal

abbrev pub invariant-loop-end : goal.invariant-loop-end
invariant-loop-end l =
    (l.from ≤ l.end) × (l.end ≤ length l.s) × (l.end + scan_len l.reading (drop l.end l.s) ≡ l.from + scan_len l.fn.start (drop l.from l.s))
    × (scan_last l.reading (drop l.end l.s) ≡ scan_last l.fn.start (drop l.from l.s))

abbrev pub decreases-loop-end : goal.decreases-loop-end
decreases-loop-end l = length l.s - l.end
