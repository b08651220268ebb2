-- What the walk does.
use Rattle.std.specs.Prelude.{◌≡◌, ℕ, ◌+◌, ◌*◌, ◌<◌, ◌≤◌, List, [], ◌∷◌, ◌++◌, length, map, Option, Some, None, Result, IfOk, false}
use Rattle.std.specs.Option.{option_map}
use Rattle.std.specs.declared.alloc.AllocError.{AllocError}
use Rattle.node_rows.specs.Nodes.{Node}
use Rattle.node_rows.specs.Marks.{with_mark}
use Rattle.node_store.specs.declared.item.Edit.{Edit}
use Rattle.node_store.specs.declared.item.Item.{Item}
use Rattle.node_store.specs.declared.item.Item.TheVariants as I
use Rattle.node_store.specs.declared.item.Moment.{Moment}
use Rattle.node_store.specs.Forest.{Forest, Place, cursor_at}
use Rattle.node_store.specs.Edits.{apply, moved_place}
use Rattle.plugin_api.specs.Open.{open_total}
use Rattle.plugin_api.specs.Shelf.{PluginSeen, left_total}
use Rattle.visitor_machine.specs.Hooks.{PickedHook}
use Rattle.visitor_machine.specs.Machine.{State, Ended, next}
use Rattle.visitor_machine.specs.Follow.{follow, start}
use Rattle.visitor_machine.specs.Settled.{IsAllDirty, SettlesAt}
use Rattle.visitor_machine.specs.Calls.{calls_in, IsQuiet}
use Rattle.visitor_walk.specs.declared.walk_end.WalkEnd.{WalkEnd}
use Rattle.visitor_walk.specs.declared.walk_end.WalkEnd.TheVariants.{Done, Failed, BudgetSpent, EditBudgetSpent}
use Rattle.visitor_walk.specs.Picked.{picked_hooks}
use Rattle.visitor_walk.specs.Heard.{Hears, KeepDuties}

-- a cursor, where it is open, after the items
abbrev pub moved_through : List Node → List Item → Option Place → Option Place
moved_through ns [] c = c
moved_through ns (I.Edit e ∷ is) c = moved_through (apply ns e) is (option_map (moved_place ns e) c)
moved_through ns (I.Enter n ∷ is) c = moved_through (with_mark ns n false) is c
moved_through ns (_ ∷ is) c = moved_through ns is c

-- the items end with a call at that moment, its edits, and its end
pub record EndsCalled (items : List Item) (moment : Moment) (fault : Option (List ℕ)) : Type 0 where
  pub front : List Item
  pub plugin : ℕ
  pub hook : ℕ
  pub edits : List Edit
  pub are : items ≡ front ++ I.Call plugin hook moment ∷ (map (λ e. I.Edit e) edits ++ I.Back fault ∷ [])

-- the machine would call a hook at that moment
pub record IsNextCall (hs : List PickedHook) (s : State) (moment : Moment) : Type 0 where
  pub plugin : ℕ
  pub hook : ℕ
  pub is : next hs s ≡ Some (I.Call plugin hook moment)

-- Done: the run is whole. Failed: it ends with the end of that call, which has the text. BudgetSpent: all calls are made,
-- and the machine would make one more. EditBudgetSpent: it ends with the end of that call, by which there were too many edits.
abbrev pub Ends : WalkEnd → List PickedHook → ℕ → ℕ → State → List Item → Type 0
Ends Done hs budget most s items = s.stage ≡ Ended
Ends (Failed text moment) hs budget most s items = EndsCalled items moment (Some text)
Ends (BudgetSpent calls moment) hs budget most s items = (calls ≡ budget) × (calls_in items ≡ budget) × IsNextCall hs s moment
Ends (EditBudgetSpent edits at) hs budget most s items = (edits ≡ s.edits) × (most < edits) × EndsCalled items at None

-- where a whole run began with each node of the tree dirty, it leaves a settled tree
abbrev pub IsSettledAfter : WalkEnd → List PickedHook → ℕ → List Node → List Item → Type 0
IsSettledAfter Done hs most ns items = IsAllDirty ns → SettlesAt hs most ns items
IsSettledAfter _ hs most ns items = Unit {0}

-- As many cursors more are open after as the visitors left, and no others: those of the walk are closed.
abbrev pub ClosesOwn : Forest → Forest → List PluginSeen → List PluginSeen → Type 0
ClosesOwn before after old new = open_total after.cursors + left_total old ≡ open_total before.cursors + left_total new

-- The walk logs a run of the machine from the forest before, and leaves what the run reaches. Its own cursors are closed,
-- whatever the visitors leave open. After want of memory they may stay open.
pub record Walks (before after : Forest) (old new : List PluginSeen) (picked : List ℕ) (budget most : ℕ) (r : Result WalkEnd AllocError) : Type 0 where
  pub items : List Item
  pub state : State
  pub text : after.text ≡ before.text
  pub log : after.log ≡ before.log ++ items
  pub run : follow (picked_hooks old picked) most (start (picked_hooks old picked) before.nodes) items ≡ Some state
  pub nodes : after.nodes ≡ state.nodes
  pub cursors : (serial : ℕ) (c : Place) → cursor_at before.cursors serial ≡ Some c → cursor_at after.cursors serial ≡ moved_through before.nodes items (Some c)
  pub closed : IfOk r (λ end. ClosesOwn before after old new)
  pub paid : calls_in items ≤ budget
  pub hears : Hears r (length before.log) items old new
  pub duties : KeepDuties old (picked_hooks old picked) most before.nodes items
  pub ends : IfOk r (λ end. Ends end (picked_hooks old picked) budget most state items)
  pub settled : IfOk r (λ end. IsSettledAfter end (picked_hooks old picked) most before.nodes items)
  pub bounded : IsQuiet items → calls_in items ≤ length (picked_hooks old picked) * length before.nodes
