-- The walk of a run, and what it left.
use Rattle.std.specs.Prelude.{◌≡◌, ◌≤◌, ℕ, List, [], Option, Some, None}
use Rattle.css_tree.specs.Print.{print}
use Rattle.node_store.specs.declared.item.Item.{Item}
use Rattle.node_store.specs.Forest.{Forest, IsForest, tree_of}
use Rattle.node_store.specs.Fresh.{IsFresh}
use Rattle.plugin_api.specs.Shelf.{PluginSeen}
use Rattle.visitor_machine.specs.Hooks.{PickedHook}
use Rattle.visitor_machine.specs.Machine.{State}
use Rattle.visitor_machine.specs.Follow.{follow, start}
use Rattle.visitor_machine.specs.Calls.{calls_in, IsQuiet}
use Rattle.visitor_machine.specs.Settled.{SettlesAt}
use Rattle.visitor_walk.specs.declared.walk_end.WalkEnd.TheVariants.{Done}
use Rattle.visitor_walk.specs.Picked.{picked_hooks}
use Rattle.visitor_walk.specs.Heard.{KeepDuties}
use Rattle.visitor_walk.specs.Walk.{Ends}
use Rattle.css_job.specs.TransformPlan.{Turn, Reached, budget_for}

-- A log is a run from the fresh forest of the text, with the picked hooks of the shelf and under the budget of edits; between a call and its end stand the edits of its visitor's duty.
pub record Run (hs : List PickedHook) (most : ℕ) (shelf : List PluginSeen) (s : List ℕ) (log : List Item) : Type 0 where
  pub forest : Forest
  pub is_forest : IsForest forest
  pub is_fresh : IsFresh forest
  pub of : forest.text ≡ s
  pub state : State
  pub run : follow hs most (start hs forest.nodes) log ≡ Some state
  pub duties : KeepDuties shelf hs most forest.nodes log

-- A walk's log is a run with no more calls than its budget, its end is that of the run, and the nodes are those that the run reaches. A whole run leaves a settled tree.
pub record Walked (hs : List PickedHook) (budget most : ℕ) (shelf : List PluginSeen) (s : List ℕ) (r : Reached) : Type 0 where
  pub made : Run hs most shelf s r.log
  pub paid : calls_in r.log ≤ budget
  pub ends : Ends r.end hs budget most made.state r.log
  pub nodes : r.nodes ≡ made.state.nodes
  pub settled : r.end ≡ Done → SettlesAt hs most made.forest.nodes r.log

abbrev pub hooks_of : List PluginSeen → Turn → List PickedHook
hooks_of shelf turn = picked_hooks shelf turn.options.picked

abbrev pub calls_of : Turn → ℕ
calls_of turn = budget_for turn.options.budget turn.tree

abbrev pub edits_of : Turn → ℕ
edits_of turn = budget_for turn.options.edit_budget turn.tree

-- the walk of a run, where there is one
abbrev pub IsWalked : List PluginSeen → List ℕ → Option Turn → Reached → Type 0
IsWalked shelf s None r = Unit {0}
IsWalked shelf s (Some turn) r = Walked (hooks_of shelf turn) (calls_of turn) (edits_of turn) shelf s r

-- the work that is kept has the text and the nodes after the walk; there is none where there was no walk
abbrev pub IsKept : List ℕ → Option Turn → Reached → Option Forest → Type 0
IsKept s None r work = work ≡ None
IsKept s (Some turn) r work = (f : Forest) × (work ≡ Some f) × (f.text ≡ s) × (f.nodes ≡ r.nodes) × (f.log ≡ [])

-- where nothing was edited, the tree prints as the text that it was read from
abbrev pub KeepsText : List Item → Forest → Type 0
KeepsText log f = IsQuiet log → print (tree_of f) ≡ f.text
