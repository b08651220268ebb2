use Rattle.std.proofs.Common.{◌≡◌, ◌<◌, length, map}
use Rattle.std.specs.List.{list_any}
use Rattle.node_rows.specs.NumberTrees.{tree_at}
use Rattle.rule_sites.specs.ContextAt.{ancestors_of}
use Rattle.rule_sites.specs.Keyframes.{is_keyframes}
use Rattle.rules_tree.proofs.ancestors.in_keyframes.Given as goal

abbrev pub invariant-up : goal.invariant-up
invariant-up l =
    let ns = l.work.nodes in
    (l.at < length ns)
    × (list_any (λ t. is_keyframes t.text) (map (tree_at ns) (ancestors_of ns l.at)) ≡ list_any (λ t. is_keyframes t.text) (map (tree_at ns) (ancestors_of ns l.fn.n)))

abbrev pub decreases-up : goal.decreases-up
decreases-up l = l.at
