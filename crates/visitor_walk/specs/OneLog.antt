-- The log of a walk is told by the nodes before it, the hooks, the duties of their visitors and the budgets alone.
use Rattle.std.specs.Prelude.{◌≡◌, ℕ, ◌≤◌, List, Option, Some}
use Rattle.std.specs.List.{All}
use Rattle.std.specs.Option.{option_map}
use Rattle.node_rows.specs.Nodes.{Node}
use Rattle.node_store.specs.declared.item.Item.{Item}
use Rattle.plugin_api.specs.declared.visitor.Duty.{Duty}
use Rattle.plugin_api.specs.Shelf.{HookSeen, PluginSeen, hook_at}
use Rattle.visitor_machine.specs.Hooks.{PickedHook}
use Rattle.visitor_machine.specs.Machine.{State}
use Rattle.visitor_machine.specs.Follow.{follow, start}
use Rattle.visitor_machine.specs.Calls.{calls_in}
use Rattle.visitor_walk.specs.declared.walk_end.WalkEnd.{WalkEnd}
use Rattle.visitor_walk.specs.Heard.{KeepDuties}
use Rattle.visitor_walk.specs.Walk.{Ends}

-- the duty of the hook j of the plugin i, where the hook is there
abbrev pub duty_at : List PluginSeen → ℕ → ℕ → Option (Option Duty)
duty_at shelf i j = option_map (λ (h : HookSeen). h.duty) (hook_at shelf i j)

-- two shelves have the same hooks, as far as places and duties go
abbrev pub SameDuties : List PluginSeen → List PluginSeen → Type 0
SameDuties a b = (i j : ℕ) → duty_at a i j ≡ duty_at b i j

-- the hook is on the shelf, and its visitor has a duty
pub record HasDuty (shelf : List PluginSeen) (hook : PickedHook) : Type 0 where
  pub seen : HookSeen
  pub duty : Duty
  pub there : hook_at shelf hook.plugin hook.hook ≡ Some seen
  pub owes : seen.duty ≡ Some duty

-- The items are the log of a walk that came to that end: the machine follows them, the visitors keep their duties, and the
-- calls are within the budget.
pub record EndedWalk (shelf : List PluginSeen) (hooks : List PickedHook) (budget most : ℕ) (nodes : List Node) (items : List Item) (end : WalkEnd) : Type 0 where
  pub state : State
  pub run : follow hooks most (start hooks nodes) items ≡ Some state
  pub duties : KeepDuties shelf hooks most nodes items
  pub paid : calls_in items ≤ budget
  pub ends : Ends end hooks budget most state items

-- Where each hook's visitor has a duty, two walks have one log and one end, whatever else their visitors are.
abbrev pub OneLog : Type 0
OneLog = (hooks : List PickedHook) (budget most : ℕ) (nodes : List Node) (a b : List PluginSeen) (items others : List Item) (end other : WalkEnd)
    → SameDuties a b → All (HasDuty a) hooks
    → EndedWalk a hooks budget most nodes items end → EndedWalk b hooks budget most nodes others other
    → (items ≡ others) × (end ≡ other)
