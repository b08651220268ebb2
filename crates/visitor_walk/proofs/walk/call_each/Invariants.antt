use Rattle.std.proofs.Common.{ℕ, List, [], Bool, drop, length, ◌≤◌, IsSome}
use Rattle.node_store.specs.Forest.{Forest}
use Rattle.plugin_api.specs.Shelf.{PluginSeen, shelf_seen, hook_at}
use Rattle.visitor_machine.specs.Hooks.{PickedHook}
use Rattle.visitor_walk.specs.Groups.{shown_hooks}
use Rattle.visitor_walk.specs.Turns.{AreOnShelf}
use Rattle.visitor_walk.specs.Ran.{Stands, AreLeft}
use Rattle.visitor_walk.proofs.walk.call_each.Given as goal

abbrev pub invariant-loop-at : goal.invariant-loop-at
invariant-loop-at g l =
    let seen = shelf_seen (λ b. (goal.Visitor-dyn g (b.vtable, b.value)).told b.value) (λ b. (goal.Visitor-dyn g (b.vtable, b.value)).said b.value) (λ b. (goal.Visitor-dyn g (b.vtable, b.value)).duty b.value) (λ b. (goal.Visitor-dyn g (b.vtable, b.value)).left b.value) in
    record {
      calls : l.spent.calls ≤ l.limits.calls;
      edits : l.spent.edits ≤ length l.work.log;
      there : AreOnShelf (seen l.shelf.items) l.hooks;
      kept : (i j : ℕ) → IsSome (hook_at (seen l.initial.shelf.items) i j) → IsSome (hook_at (seen l.shelf.items) i j);
      made : (hs : List PickedHook) (begin : Forest) (old : List PluginSeen) (closes : Bool) → (s : Stands hs l.limits.edits begin old l.initial.work (seen l.initial.shelf.items) l.initial.spent []) → AreLeft hs closes s.ran.state (shown_hooks l.hooks) → (t : Stands hs l.limits.edits begin old l.work (seen l.shelf.items) l.spent []) × AreLeft hs closes t.ran.state (shown_hooks (drop l.at l.hooks));
    }
