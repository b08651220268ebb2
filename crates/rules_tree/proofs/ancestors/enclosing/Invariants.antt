use Rattle.std.proofs.Common.{◌≡◌, ◌+◌, ◌<◌, ◌≤◌, length, map}
use Rattle.node_rows.specs.NumberTrees.{tree_at}
use Rattle.rule_sites.specs.ContextAt.{ancestors_of}
use Rattle.rules_tree.specs.MaxNestingDepth.{enclosing}
use Rattle.rules_tree.proofs.ancestors.enclosing.Given as goal

abbrev pub invariant-up : goal.invariant-up
invariant-up l =
    let ns = l.work.nodes in
    (l.at < length ns) × (l.levels + l.at ≤ l.fn.n)
    × (l.levels + enclosing (map (tree_at ns) (ancestors_of ns l.at)) ≡ enclosing (map (tree_at ns) (ancestors_of ns l.fn.n)))

abbrev pub decreases-up : goal.decreases-up
decreases-up l = l.at
