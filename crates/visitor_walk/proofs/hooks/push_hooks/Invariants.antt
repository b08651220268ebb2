use Rattle.std.proofs.Common.{◌≡◌, ◌++◌, filter, drop}
use Rattle.visitor_walk.specs.Groups.{in_group, shown_hooks, listed_from}
use Rattle.visitor_walk.proofs.hooks.push_hooks.Given as goal

abbrev pub invariant-loop-place : goal.invariant-loop-place
invariant-loop-place g l = shown_hooks l.group.items ++ filter (in_group l.event l.filtered) (listed_from l.plugin l.place (drop l.place l.hooks)) ≡ shown_hooks l.initial.group.items ++ filter (in_group l.event l.filtered) (listed_from l.plugin 0 l.hooks)
