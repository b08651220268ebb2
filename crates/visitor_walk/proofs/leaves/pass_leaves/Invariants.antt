use Rattle.std.proofs.Common.{ℕ, List, ◌≤◌}
use Rattle.visitor_machine.specs.Hooks.{PickedHook}
use Rattle.visitor_machine.specs.Machine.{State}
use Rattle.visitor_walk.specs.declared.turn.Open.{Open}
use Rattle.visitor_walk.specs.Groups.{IsGrouped}
use Rattle.visitor_walk.specs.Turns.{dirty_total}
use Rattle.visitor_walk.specs.Leaves.{KeepsTexts, AtChildren, ComesTo}
use Rattle.visitor_walk.proofs.leaves.pass_leaves.Given as goal

abbrev pub invariant-loop-child : goal.invariant-loop-child
invariant-loop-child l = record {
  walked : (hs : List PickedHook) (most : ℕ) (k : ℕ) (os : List Open) (s : State) → IsGrouped l.hooks hs → AtChildren hs l.fn.work l.visit k os s → (j : ℕ) × ComesTo hs most l.fn.work l.visit k os s l.work j;
  less : dirty_total l.work.nodes ≤ dirty_total l.fn.work.nodes;
  texts : KeepsTexts l.fn.work l.work;
}

abbrev pub decreases-loop-child : goal.decreases-loop-child
decreases-loop-child l = dirty_total l.work.nodes
