use Rattle.std.proofs.Common.{◌≡◌, ◌≤◌, ◌+◌, ◌-◌, ◌*◌, true, length, map}
use Rattle.selector_parse.specs.declared.phase.Phase.TheVariants.{Fresh}
use Rattle.selector_parse.specs.Row.{IsRow, IsEnded, complex_parts, list_parts, stops}
use Rattle.selector_parse.specs.Worth.{deepest, depth_of_part, depth_of_complex}
use Rattle.selector_parse.proofs.parse.+parse.Given as goal

abbrev pub decreases-list_arguments : goal.decreases-list_arguments
decreases-list_arguments l = 10 * (100 - l.depth) + 7

abbrev pub decreases-list_from : goal.decreases-list_from
decreases-list_from l = 10 * (100 - l.depth) + 6

abbrev pub decreases-complex_from : goal.decreases-complex_from
decreases-complex_from l = 10 * (100 - l.depth) + 5

abbrev pub decreases-part_from : goal.decreases-part_from
decreases-part_from l = 10 * (100 - l.depth) + 4

abbrev pub decreases-gap_or_simple : goal.decreases-gap_or_simple
decreases-gap_or_simple l = 10 * (100 - l.depth) + 3

abbrev pub decreases-simple_from : goal.decreases-simple_from
decreases-simple_from l = 10 * (100 - l.depth) + 2

abbrev pub decreases-arguments_from : goal.decreases-arguments_from
decreases-arguments_from l = 10 * (100 - l.depth) + 1

abbrev pub invariant-complex_from-parts : goal.invariant-complex_from-parts
invariant-complex_from-parts l = IsRow l.src l.start l.depth Fresh (complex_parts l.parts.items) l.phase l.end × (l.depth + deepest (map depth_of_part l.parts.items) ≤ 100)

abbrev pub decreases-complex_from-parts : goal.decreases-complex_from-parts
decreases-complex_from-parts l = length l.src - l.end

abbrev pub invariant-list_from-list : goal.invariant-list_from-list
invariant-list_from-list l = IsEnded l.src l.start l.depth (list_parts l.list.items) l.end × (stops l.src l.end l.depth ≡ true) × (l.depth + deepest (map depth_of_complex l.list.items) ≤ 100)

abbrev pub decreases-list_from-list : goal.decreases-list_from-list
decreases-list_from-list l = length l.src - l.end
