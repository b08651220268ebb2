use Rattle.std.proofs.Common.{◌≡◌, ℕ, List, reverse, length, ◌+◌, ◌*◌, ◌≤◌}
use Rattle.visitor_machine.specs.Hooks.{PickedHook}
use Rattle.visitor_machine.specs.Machine.{State}
use Rattle.visitor_walk.specs.Groups.{IsGrouped}
use Rattle.visitor_walk.specs.Turns.{Shows, IsPass, dirty_total}
use Rattle.visitor_walk.proofs.Passing.{Stood}
use Rattle.visitor_walk.proofs.pass.advance.Given as goal

abbrev pub invariant-loop-top : goal.invariant-loop-top
invariant-loop-top l = record {
  walked : (hs : List PickedHook) (most : ℕ) (s : State) → IsGrouped l.hooks hs → IsPass hs s.stage → Shows l.fn.work (reverse l.fn.stack.items) s → s.edits ≡ l.edits → Stood hs most l.fn.work (reverse l.fn.stack.items) s l.work (reverse l.stack.items);
  grows : length l.fn.work.log ≤ length l.work.log;
  less : dirty_total l.work.nodes ≤ dirty_total l.fn.work.nodes;
}

abbrev pub decreases-loop-top : goal.decreases-loop-top
decreases-loop-top l = 2 * dirty_total l.work.nodes + length l.stack.items
