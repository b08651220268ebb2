use Rattle.std.proofs.Common.{◌+◌, ◌-◌, ◌*◌, length}
use Rattle.value_parse.specs.Tree.{parts_of}
use Rattle.value_parse.specs.Row.{IsRow}
use Rattle.value_parse.proofs.parse.+parts.Given as goal

abbrev pub decreases-part_from : goal.decreases-part_from
decreases-part_from l = 2 * (100 - l.depth)

abbrev pub decreases-parts_from : goal.decreases-parts_from
decreases-parts_from l = 2 * (100 - l.depth) + 1

abbrev pub invariant-parts_from-loop-end : goal.invariant-parts_from-loop-end
invariant-parts_from-loop-end l = IsRow l.src l.start l.depth (parts_of l.parts.items) l.end

abbrev pub decreases-parts_from-loop-end : goal.decreases-parts_from-loop-end
decreases-parts_from-loop-end l = length l.bytes - l.end
