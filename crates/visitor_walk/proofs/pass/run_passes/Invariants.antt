use Rattle.std.proofs.Common.{◌≡◌, ℕ, List, reverse, length, ◌≤◌}
use Rattle.visitor_machine.specs.Hooks.{PickedHook}
use Rattle.visitor_machine.specs.Machine.{State}
use Rattle.visitor_walk.specs.Groups.{IsGrouped}
use Rattle.visitor_walk.specs.Turns.{Shows, IsPass, dirty_total}
use Rattle.visitor_walk.proofs.Passing.{Stood}
use Rattle.visitor_walk.proofs.pass.run_passes.Given as goal

abbrev pub invariant-pass : goal.invariant-pass
invariant-pass l = record {
  grows : length l.fn.work.log ≤ length l.work.log;
  walked : (hs : List PickedHook) (most : ℕ) (s : State) → IsGrouped l.hooks hs → IsPass hs s.stage → Shows l.fn.work (reverse l.fn.stack.items) s → s.edits ≡ l.edits → Stood hs most l.fn.work (reverse l.fn.stack.items) s l.work (reverse l.stack.items);
}

abbrev pub decreases-pass : goal.decreases-pass
decreases-pass l = dirty_total l.work.nodes
