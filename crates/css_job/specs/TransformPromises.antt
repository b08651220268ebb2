-- What `transform` promises: when its walk is cut off, what it leaves as it was, and what a whole walk leaves.
use Rattle.std.specs.Prelude.{ℕ, ◌≡◌, ◌≢◌, ◌<◌, ◌≤◌, ◌*◌, List, [], ◌∷◌, ◌++◌, length, true, Option, Some, None, encode_utf8_all}
use Rattle.std.specs.Str.{chars}
use Rattle.std.specs.List.{All}
use Rattle.std.specs.Io.KnownBytes.{Appends}
use Rattle.io_edge.specs.Causes.{Rose}
use Rattle.css_tree.specs.Tree.{Tree}
use Rattle.css_tree.specs.Print.{print}
use Rattle.css_tree.specs.Numbered.{numbered}
use Rattle.css_tree.specs.Reads.{Reads}
use Rattle.node_rows.specs.NumberTrees.{tree_at}
use Rattle.node_store.specs.declared.item.Item.{Item}
use Rattle.node_store.specs.declared.item.Moment as N
use Rattle.node_store.specs.Forest.{Forest}
use Rattle.plugin_api.specs.Shelf.{HookSeen, PluginSeen, hook_at}
use Rattle.plugin_api.specs.declared.visitor.Duty.TheVariants.{Quiet}
use Rattle.visitor_machine.specs.Altered.{is_untouched, KeepsText}
use Rattle.visitor_machine.specs.Calls.{calls_in, IsQuiet}
use Rattle.visitor_machine.specs.Machine as M
use Rattle.visitor_machine.specs.Settled.{SettlesAt}
use Rattle.visitor_walk.specs.Walk.{EndsCalled, IsNextCall}
use Rattle.visitor_walk.specs.Picked.{picked_hooks}
use Rattle.command_words.specs.Words.{Options, Transform}
use Rattle.css_job.specs.TransformPlan.{budget_for}
use Rattle.css_job.specs.Walked.{Run}
use Rattle.css_job.specs.Causes.{IsTransform}
use Rattle.css_job.specs.Outside.{Snapshot}
use Rattle.css_job.specs.Stated.{Asked}
use Rattle.css_job.specs.declared.fault.Fault.TheVariants.{PluginFailed, BudgetSpent, EditBudgetSpent}
use Rattle.css_job.specs.declared.run.Ended.{Ended}

-- the list of what a visitor said of its faults grew by this text
abbrev pub Grew : List ℕ → Option HookSeen → Option HookSeen → Type 0
Grew text None new = ⊥
Grew text (Some old) new = (h : HookSeen) × (new ≡ Some h) × (h.said ≡ old.said ++ text ∷ [])

-- the visitor of a hook said something in the run
abbrev pub HasSaid : Option HookSeen → Option HookSeen → Type 0
HasSaid None new = ⊥
HasSaid (Some old) new = (h : HookSeen) × (new ≡ Some h) × (h.said ≢ old.said)

-- exactly where what the visitor of some hook said of its faults grew: it grew by the text, and the log ends with the end of that hook's call
pub record PluginFailedCause (shelf after : List PluginSeen) (ended : Ended) : Type 0 where
  pub only : (text : List ℕ) (m : N.Moment) → ended.fault ≡ Some (PluginFailed text m) → (e : EndsCalled ended.log.items m (Some text)) × Grew text (hook_at shelf e.plugin e.hook) (hook_at after e.plugin e.hook)
  pub always : (i j : ℕ) → HasSaid (hook_at shelf i j) (hook_at after i j) → (text : List ℕ) × ((m : N.Moment) × (ended.fault ≡ Some (PluginFailed text m)))

-- The log is that of a run of `transform` over a text, whose tree this is.
pub record IsLogOf (asked : Asked) (s : List ℕ) (log : List Item) : Type 0 where
  pub options : Options
  pub is_transform : asked.command ≡ Some (Transform options)
  pub tree : Tree
  pub reads : Reads s tree
  pub run : Run (picked_hooks asked.shelf options.picked) (budget_for options.edit_budget tree) asked.shelf s log

-- It has as many calls as the budget allows, and the machine's next item is a call at that moment.
pub record AsksBeyond (asked : Asked) (s : List ℕ) (log : List Item) (calls : ℕ) (next : N.Moment) : Type 0 where
  pub of : IsLogOf asked s log
  pub budget : calls ≡ budget_for of.options.budget of.tree
  pub spent : calls_in log ≡ calls
  pub is_next : IsNextCall (picked_hooks asked.shelf of.options.picked) of.run.state next

-- It ends with the end of the call at that moment, by which it has more edits than the budget allows.
pub record EditsBeyond (asked : Asked) (s : List ℕ) (log : List Item) (edits budget : ℕ) (at : N.Moment) : Type 0 where
  pub of : IsLogOf asked s log
  pub is_budget : budget ≡ budget_for of.options.edit_budget of.tree
  pub made : edits ≡ of.run.state.edits
  pub passed : budget < edits
  pub ends : EndsCalled log at None

-- the walk's turn came: there is a work
abbrev pub HasWalked : Ended → Type 0
HasWalked ended = (f : Forest) × (ended.work ≡ Some f)

-- of an input that is told: exactly where the machine asked for a call beyond the budget
pub record BudgetCause (asked : Asked) (old : Snapshot) (ended : Ended) : Type 0 where
  pub only : (bytes : List ℕ) (calls : ℕ) (next : N.Moment) → old.left ≡ Some bytes → ended.fault ≡ Some (BudgetSpent calls next) → AsksBeyond asked (chars bytes) ended.log.items calls next
  pub always : (bytes : List ℕ) (calls : ℕ) (next : N.Moment) → old.left ≡ Some bytes → HasWalked ended → AsksBeyond asked (chars bytes) ended.log.items calls next → ended.fault ≡ Some (BudgetSpent calls next)

-- of an input that is told: exactly where a call came back with more edits than the budget allows
pub record EditBudgetCause (asked : Asked) (old : Snapshot) (ended : Ended) : Type 0 where
  pub only : (bytes : List ℕ) (edits budget : ℕ) (at : N.Moment) → old.left ≡ Some bytes → ended.fault ≡ Some (EditBudgetSpent edits budget at) → EditsBeyond asked (chars bytes) ended.log.items edits budget at
  pub always : (bytes : List ℕ) (edits budget : ℕ) (at : N.Moment) → old.left ≡ Some bytes → HasWalked ended → EditsBeyond asked (chars bytes) ended.log.items edits budget at → ended.fault ≡ Some (EditBudgetSpent edits budget at)

-- each hook of the picked plugins has the duty to make no edit
abbrev pub AreQuiet : List PluginSeen → List ℕ → Type 0
AreQuiet shelf picked = All (λ i. (j : ℕ) (h : HookSeen) → hook_at shelf i j ≡ Some h → h.duty ≡ Some Quiet) picked

-- of an input that is told: where `transform` ends without a fault, and every picked visitor is quiet, the output got the input's bytes
abbrev pub UnchangedCause : Asked → Snapshot → Snapshot → Ended → Type 0
UnchangedCause asked old new ended = (bytes : List ℕ) (o : Options) → asked.command ≡ Some (Transform o) → AreQuiet asked.shelf o.picked → old.left ≡ Some bytes → ended.fault ≡ None → ¬ Rose old.outs new.outs → Appends old.out new.out bytes

-- The log is a run from the tree that was read, the tree that it comes to is printed, and each node that the log leaves untouched keeps its text: that stands in what was read, at the node's span, and in what is printed where the node is in the tree.
pub record KeepsUntouched (asked : Asked) (s : List ℕ) (old new : Snapshot) (log : List Item) : Type 0 where
  pub of : IsLogOf asked s log
  pub prints : ¬ Rose old.outs new.outs → Appends old.out new.out (encode_utf8_all (print (tree_at of.run.state.nodes 0)))
  pub kept : (n : ℕ) → n < length of.run.forest.nodes → is_untouched of.run.forest.nodes n log ≡ true → KeepsText of.run.forest of.run.state.nodes n

-- of an input that is told: where `transform` ends without a fault, what no edit touches is printed as it was
abbrev pub UntouchedCause : Asked → Snapshot → Snapshot → Ended → Type 0
UntouchedCause asked old new ended = (bytes : List ℕ) → IsTransform asked.command → old.left ≡ Some bytes → ended.fault ≡ None → KeepsUntouched asked (chars bytes) old new ended.log.items

-- of an input that is told: a whole log leaves a settled tree
abbrev pub SettledCause : Asked → Snapshot → Ended → Type 0
SettledCause asked old ended = (bytes : List ℕ) → old.left ≡ Some bytes → (of : IsLogOf asked (chars bytes) ended.log.items) → of.run.state.stage ≡ M.Ended → SettlesAt (picked_hooks asked.shelf of.options.picked) (budget_for of.options.edit_budget of.tree) of.run.forest.nodes ended.log.items

-- of an input that is told: where no visitor made an edit, and there are not too many hooks, no default budget is spent
pub record NeverSpent (asked : Asked) (old : Snapshot) (ended : Ended) : Type 0 where
  pub calls : (bytes : List ℕ) (t : Tree) (o : Options) (calls : ℕ) (next : N.Moment) → old.left ≡ Some bytes → Reads (chars bytes) t → asked.command ≡ Some (Transform o) → o.budget ≡ None → IsQuiet ended.log.items
      → length (picked_hooks asked.shelf o.picked) ≤ 40 → length (picked_hooks asked.shelf o.picked) * length (numbered t) ≤ 20000000 → ended.fault ≢ Some (BudgetSpent calls next)
  pub edits : (bytes : List ℕ) (edits budget : ℕ) (at : N.Moment) → old.left ≡ Some bytes → IsQuiet ended.log.items → ended.fault ≢ Some (EditBudgetSpent edits budget at)
