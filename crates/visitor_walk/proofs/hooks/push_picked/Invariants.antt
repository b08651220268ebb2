use Rattle.std.proofs.Common.{◌≡◌, ◌++◌, filter, drop}
use Rattle.visitor_walk.specs.Groups.{in_group, shown_hooks, listed_hooks}
use Rattle.visitor_walk.proofs.hooks.push_picked.Given as goal

abbrev pub invariant-loop-at : goal.invariant-loop-at
invariant-loop-at g l = shown_hooks l.group.items ++ filter (in_group l.event l.filtered) (listed_hooks l.shelf.items (drop l.at l.picked)) ≡ shown_hooks l.initial.group.items ++ filter (in_group l.event l.filtered) (listed_hooks l.shelf.items l.picked)
