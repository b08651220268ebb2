use Rattle.std.proofs.Common.{◌≡◌, ◌*◌, ◌+◌, ◌≤◌, drop, map}
use Rattle.selector_parse.specs.Wide.{weight}
use Rattle.selector_parse.specs.Worth.{worth_of_part, worth_of_complex, sum_from, greatest_from, nothing, deepest, depth_of_part, depth_of_complex, size}
use Rattle.selector_parse.proofs.specificity.+count.Given as goal

abbrev pub decreases-list_counts : goal.decreases-list_counts
decreases-list_counts l = 3 * deepest (map depth_of_complex l.list.now) + 2

abbrev pub decreases-parts_counts : goal.decreases-parts_counts
decreases-parts_counts l = 3 * deepest (map depth_of_part l.parts.now) + 1

abbrev pub decreases-add_part : goal.decreases-add_part
decreases-add_part l = 3 * depth_of_part l.part.now

abbrev pub invariant-parts_counts-loop-part : goal.invariant-parts_counts-loop-part
invariant-parts_counts-loop-part l =
    (sum_from l.sum (map worth_of_part (drop l.part-index l.parts)) ≡ sum_from nothing (map worth_of_part l.parts)) × (size l.sum ≤ l.part-index * weight (deepest (map depth_of_part l.parts)))

abbrev pub invariant-list_counts-loop-complex : goal.invariant-list_counts-loop-complex
invariant-list_counts-loop-complex l =
    (greatest_from l.greatest (map worth_of_complex (drop l.complex-index l.list)) ≡ greatest_from nothing (map worth_of_complex l.list)) × (size l.greatest ≤ weight (deepest (map depth_of_complex l.list) + 1))
