use Rattle.std.proofs.Common.{List, [], reverse, length, ◌≤◌, ◌-◌}
use Rattle.node_store.specs.Forest.{Forest}
use Rattle.plugin_api.specs.Shelf.{PluginSeen, shelf_seen}
use Rattle.visitor_machine.specs.Hooks.{PickedHook}
use Rattle.visitor_walk.specs.Groups.{IsGrouped}
use Rattle.visitor_walk.specs.Turns.{IsPass, AllOnShelf}
use Rattle.visitor_walk.specs.Ran.{Stands}
use Rattle.visitor_walk.proofs.walk.call_in_passes.Given as goal

abbrev pub invariant-call : goal.invariant-call
invariant-call g l = record {
  calls : l.spent.calls ≤ l.limits.calls;
  edits : l.spent.edits ≤ length l.work.log;
  on_shelf : AllOnShelf (shelf_seen (λ b. (goal.Visitor-dyn g (b.vtable, b.value)).told b.value) (λ b. (goal.Visitor-dyn g (b.vtable, b.value)).said b.value) (λ b. (goal.Visitor-dyn g (b.vtable, b.value)).duty b.value) (λ b. (goal.Visitor-dyn g (b.vtable, b.value)).left b.value) l.shelf.items) l.hooks;
  made : (hs : List PickedHook) (begin : Forest) (old : List PluginSeen) → IsGrouped l.hooks hs → (s : Stands hs l.limits.edits begin old l.fn.work (shelf_seen (λ b. (goal.Visitor-dyn g (b.vtable, b.value)).told b.value) (λ b. (goal.Visitor-dyn g (b.vtable, b.value)).said b.value) (λ b. (goal.Visitor-dyn g (b.vtable, b.value)).duty b.value) (λ b. (goal.Visitor-dyn g (b.vtable, b.value)).left b.value) l.fn.shelf.items) l.fn.spent []) → IsPass hs s.ran.state.stage → (t : Stands hs l.limits.edits begin old l.work (shelf_seen (λ b. (goal.Visitor-dyn g (b.vtable, b.value)).told b.value) (λ b. (goal.Visitor-dyn g (b.vtable, b.value)).said b.value) (λ b. (goal.Visitor-dyn g (b.vtable, b.value)).duty b.value) (λ b. (goal.Visitor-dyn g (b.vtable, b.value)).left b.value) l.shelf.items) l.spent (reverse l.stack.items)) × IsPass hs t.ran.state.stage;
}

abbrev pub decreases-call : goal.decreases-call
decreases-call g l = l.limits.calls - l.spent.calls
