use Rattle.std.proofs.Common.{◌<◌, ◌≤◌, ◌-◌, length}
use Rattle.std.specs.List.{AllAdjacentBelow}
use Rattle.source_map.specs.Lines.{line_of}
use Rattle.source_map.proofs.writing.lines_rise.Given as goal

abbrev pub invariant-loop-i : goal.invariant-loop-i
invariant-loop-i l = record { begun : 0 < l.i; so_far : AllAdjacentBelow (λ x y. line_of x ≤ line_of y) l.segments l.i }

abbrev pub decreases-loop-i : goal.decreases-loop-i
decreases-loop-i l = length l.segments - l.i
