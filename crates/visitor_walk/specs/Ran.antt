-- What a walk has done so far.
use Rattle.std.specs.Prelude.{◌≡◌, ℕ, ◌+◌, ◌≤◌, List, [], ◌∷◌, ◌++◌, Bool, length, Option, Some, None, Result, Ok, Err, true, false, nat_lt, filter, if◌then◌else◌}
use Rattle.std.specs.declared.alloc.AllocError.{AllocError}
use Rattle.node_store.specs.declared.item.Edit.{Edit}
use Rattle.node_store.specs.declared.item.Event.TheVariants as E
use Rattle.node_store.specs.declared.item.Item.{Item}
use Rattle.node_store.specs.declared.item.Item.TheVariants as I
use Rattle.node_store.specs.Forest.{Forest, Place, cursor_at}
use Rattle.plugin_api.specs.Open.{open_total}
use Rattle.plugin_api.specs.Shelf.{PluginSeen, hook_at, left_total}
use Rattle.visitor_machine.specs.Hooks.{PickedHook, is_at}
use Rattle.visitor_machine.specs.Machine.{Stage, State, Opening, turn, closing}
use Rattle.visitor_machine.specs.Follow.{step, follow, start}
use Rattle.visitor_machine.specs.Calls.{calls_in}
use Rattle.visitor_walk.specs.declared.turn.Open.{Open}
use Rattle.visitor_walk.specs.declared.turn.Due.{Due}
use Rattle.visitor_walk.specs.declared.spent.Spent.{Spent}
use Rattle.visitor_walk.specs.declared.spent.Limits.{Limits}
use Rattle.visitor_walk.specs.declared.walk_end.WalkEnd.{WalkEnd}
use Rattle.visitor_walk.specs.declared.walk_end.WalkEnd.TheVariants.{Done, Failed, EditBudgetSpent}
use Rattle.node_store.specs.declared.item.Moment.{Moment}
use Rattle.visitor_walk.specs.Heard.{Hears, came_back, duty_of}
use Rattle.visitor_walk.specs.Walk.{moved_through, Ends}
use Rattle.visitor_walk.specs.Turns.{AllApart, AreOpen, Shows, IsDue, held, nodes_through}

-- the edits that stand first, and what stands behind them
abbrev pub first_edits : List Item → List Edit
first_edits (I.Edit e ∷ is) = e ∷ first_edits is
first_edits _ = []

abbrev pub behind_edits : List Item → List Item
behind_edits (I.Edit e ∷ is) = behind_edits is
behind_edits is = is

-- what stands between a call and its end is what the duty of its visitor asks for
abbrev pub IsKept : List PluginSeen → State → Item → List Item → Type 0
IsKept shelf s (I.Call p h m) is = duty_of (hook_at shelf p h) s.nodes m (first_edits is) (came_back (behind_edits is))
IsKept shelf s _ is = Unit {0}

-- the same of each call, from the state on
abbrev pub Keeps : List PluginSeen → List PickedHook → ℕ → State → List Item → Type 0
Keeps shelf hs most s [] = Unit {0}
Keeps shelf hs most s (i ∷ is) = IsKept shelf s i is × ((t : State) → step hs most s i ≡ Some t → Keeps shelf hs most t is)

-- The log grew by a run from the forest at the beginning, which the visitors tell and whose duties they keep.
pub record Ran {A : Type 0} (r : Result A AllocError) (hs : List PickedHook) (most : ℕ) (begin : Forest) (old : List PluginSeen) (now : Forest) (new : List PluginSeen) : Type 0 where
  pub items : List Item
  pub state : State
  pub text : now.text ≡ begin.text
  pub log : now.log ≡ begin.log ++ items
  pub run : follow hs most (start hs begin.nodes) items ≡ Some state
  pub nodes : now.nodes ≡ state.nodes
  pub through : state.nodes ≡ nodes_through begin.nodes items
  pub cursors : (serial : ℕ) (c : Place) → cursor_at begin.cursors serial ≡ Some c → cursor_at now.cursors serial ≡ moved_through begin.nodes items (Some c)
  pub hears : Hears r (length begin.log) items old new
  pub duties : Keeps old hs most (start hs begin.nodes) items

-- cursors that stood at the beginning are not of the visits
abbrev pub AreFree : Forest → List Open → Type 0
AreFree begin os = (serial : ℕ) (c : Place) → cursor_at begin.cursors serial ≡ Some c → AllApart os serial

-- beside the cursors of the visits as many more are open than at the beginning as the visitors left since
abbrev pub AreCounted : Forest → List PluginSeen → Forest → List PluginSeen → List Open → Type 0
AreCounted begin old now new os = open_total now.cursors + left_total old ≡ open_total begin.cursors + left_total new + held os

abbrev pub ended : WalkEnd → Result WalkEnd AllocError
ended end = Ok end

abbrev pub in_progress : Result WalkEnd AllocError
in_progress = Ok Done

abbrev pub broken : AllocError → Result WalkEnd AllocError
broken e = Err e

-- The walk stands where the machine does, after so many calls and edits.
pub record Stands (hs : List PickedHook) (most : ℕ) (begin : Forest) (old : List PluginSeen) (now : Forest) (new : List PluginSeen) (spent : Spent) (os : List Open) : Type 0 where
  pub ran : Ran in_progress hs most begin old now new
  pub shows : Shows now os ran.state
  pub free : AreFree begin os
  pub count : AreCounted begin old now new os
  pub calls : calls_in ran.items ≡ spent.calls
  pub edits : ran.state.edits ≡ spent.edits

-- a call is due, and the visits of the code are already those after it
pub record IsReady (hs : List PickedHook) (most : ℕ) (begin : Forest) (old : List PluginSeen) (now : Forest) (new : List PluginSeen) (spent : Spent) (os : List Open) (due : Due) : Type 0 where
  pub ran : Ran in_progress hs most begin old now new
  pub is : IsDue hs now os ran.state due
  pub free : AreFree begin os
  pub count : AreCounted begin old now new os
  pub calls : calls_in ran.items ≡ spent.calls
  pub edits : ran.state.edits ≡ spent.edits

-- the walk is at its end, where these visits are open, with their cursors
pub record Finishes (hs : List PickedHook) (limits : Limits) (begin : Forest) (old : List PluginSeen) (now : Forest) (new : List PluginSeen) (os : List Open) (end : WalkEnd) : Type 0 where
  pub ran : Ran (ended end) hs limits.edits begin old now new
  pub ends : Ends end hs limits.calls limits.edits ran.state ran.items
  pub shown : AreOpen now.cursors os
  pub count : AreCounted begin old now new os
  pub paid : calls_in ran.items ≤ limits.calls

-- memory is wanting
pub record Breaks (hs : List PickedHook) (limits : Limits) (begin : Forest) (old : List PluginSeen) (now : Forest) (new : List PluginSeen) (e : AllocError) : Type 0 where
  pub ran : Ran (broken e) hs limits.edits begin old now new
  pub paid : calls_in ran.items ≤ limits.calls

-- how the walk ends after a call that came back, where it ends there
abbrev pub end_of : Option (List ℕ) → Spent → Limits → Moment → Option WalkEnd
end_of (Some text) spent limits at = Some (Failed text at)
end_of None spent limits at = if nat_lt limits.edits spent.edits then Some (EditBudgetSpent spent.edits at) else None

-- after a call the walk stands where the machine does, or is at its end
abbrev pub Made : List PickedHook → Limits → Forest → List PluginSeen → Forest → List PluginSeen → Spent → List Open → Stage → Result (Option WalkEnd) AllocError → Type 0
Made hs limits begin old now new spent os stage (Ok None) = (s : Stands hs limits.edits begin old now new spent os) × (s.ran.state.stage ≡ stage)
Made hs limits begin old now new spent os stage (Ok (Some end)) = Finishes hs limits begin old now new os end
Made hs limits begin old now new spent os stage (Err e) = Breaks hs limits begin old now new e

-- after the passes no visit is open and the OnceExit hooks are due, or the walk is at its end
abbrev pub PassesMade : List PickedHook → Limits → Forest → List PluginSeen → Forest → List PluginSeen → Spent → Result (Option WalkEnd) AllocError → Type 0
PassesMade hs limits begin old now new spent (Ok None) = (s : Stands hs limits.edits begin old now new spent []) × (turn hs s.ran.state ≡ closing (filter (is_at E.OnceExit) hs))
PassesMade hs limits begin old now new spent (Ok (Some end)) = Finishes hs limits begin old now new [] end
PassesMade hs limits begin old now new spent (Err e) = Breaks hs limits begin old now new e

-- the hooks that are still to be called with the root: at the beginning, or when the passes are over
abbrev pub AreLeft : List PickedHook → Bool → State → List PickedHook → Type 0
AreLeft hs false s rest = s.stage ≡ Opening rest
AreLeft hs true s rest = turn hs s ≡ closing rest

-- after the calls with the root none is left, or the walk is at its end
abbrev pub EachMade : List PickedHook → Limits → Forest → List PluginSeen → Forest → List PluginSeen → Spent → Bool → Result (Option WalkEnd) AllocError → Type 0
EachMade hs limits begin old now new spent closes (Ok None) = (s : Stands hs limits.edits begin old now new spent []) × AreLeft hs closes s.ran.state []
EachMade hs limits begin old now new spent closes (Ok (Some end)) = Finishes hs limits begin old now new [] end
EachMade hs limits begin old now new spent closes (Err e) = Breaks hs limits begin old now new e
