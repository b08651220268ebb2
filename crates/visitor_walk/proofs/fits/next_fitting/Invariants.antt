use Rattle.std.proofs.Common.{◌≡◌, drop, ◌-◌}
use Rattle.node_store.specs.Cursors.{through}
use Rattle.visitor_machine.specs.Hooks.{fits}
use Rattle.visitor_machine.specs.Machine.{key_at}
use Rattle.visitor_walk.specs.Groups.{shown_hooks}
use Rattle.visitor_walk.proofs.Fitting.{ahead_by}
use Rattle.visitor_walk.proofs.fits.next_fitting.Given as goal

abbrev pub invariant-loop-at : goal.invariant-loop-at
invariant-loop-at l = through (fits (key_at l.work.nodes l.node)) (drop l.from (shown_hooks l.hooks)) ≡ ahead_by (l.at - l.from) (through (fits (key_at l.work.nodes l.node)) (drop l.at (shown_hooks l.hooks)))
