-- All that a run promises, on one page.
use Rattle.std.specs.Prelude.{ℕ, ◌≡◌, ◌⊎◌, List, None}
use Rattle.std.specs.Str.{chars}
use Rattle.io_edge.specs.Causes.{Rose}
use Rattle.css_tree.specs.Tree.{Tree}
use Rattle.css_tree.specs.Reads.{Reads}
use Rattle.node_store.specs.declared.item.Moment as N
use Rattle.plugin_api.specs.Shelf.{PluginSeen, hook_at}
use Rattle.css_job.specs.Causes.{IsTransform, Gets, IsTextInput, UsageCause, ReadCause, TooLargeCause, NotUtf8Cause, SyntaxCause, WriteCause, StatusCause, Unfailed}
use Rattle.css_job.specs.LintPromises.{SyntaxErrorCause, WarnedCause}
use Rattle.css_job.specs.TransformPromises.{HasSaid, AsksBeyond, EditsBeyond, PluginFailedCause, BudgetCause, EditBudgetCause, UnchangedCause, UntouchedCause, SettledCause, NeverSpent}
use Rattle.css_job.specs.OneOutcome.{Repeated}
use Rattle.css_job.specs.Outside.{Snapshot, KeepsFolder}
use Rattle.css_job.specs.Stated.{Asked, Ends, Heard, RanOut}
use Rattle.css_job.specs.declared.run.Ended.{Ended}

-- no visitor answered a fault, and no budget was passed
pub record IsCalm (asked : Asked) (after : List PluginSeen) (s : List ℕ) (ended : Ended) : Type 0 where
  pub unsaid : (i j : ℕ) → ¬ HasSaid (hook_at asked.shelf i j) (hook_at after i j)
  pub unasked : (calls : ℕ) (next : N.Moment) → ¬ AsksBeyond asked s ended.log.items calls next
  pub unpassed : (edits budget : ℕ) (at : N.Moment) → ¬ EditsBeyond asked s ended.log.items edits budget at

-- where the words are taken, the input is a text, that of `transform` has a tree, no count rose, no visitor answered a fault and no budget was passed, there is no fault, and the status is 0 or 2
abbrev pub Completes : Asked → List PluginSeen → Snapshot → Snapshot → Ended → Type 0
Completes asked after old new ended = (bytes : List ℕ) → Gets asked.command old bytes → IsTextInput bytes → (IsTransform asked.command → (t : Tree) × Reads (chars bytes) t) → IsCalm asked after (chars bytes) ended → ¬ Rose old.reads new.reads → ¬ Rose old.outs new.outs → ¬ Rose old.errs new.errs → (ended.fault ≡ None) × ((ended.status ≡ 0) ⊎ (ended.status ≡ 2))

-- of a run that ended: what it was asked for, its shelf after it, the outside before and after it, and how it ended
pub record Promises (asked : Asked) (after : List PluginSeen) (old new : Snapshot) (ended : Ended) : Type 0 where
  -- The status, the fault, the log, the work and the texts are those of the answer to these words and this input.
  pub stated : Ends asked old new ended
  -- The visits are real: the visitors tell and say what the log holds of them.
  pub heard : Heard asked.shelf after ended.log.items
  -- No command names a file, so the folder stays as it was.
  pub folder : KeepsFolder old new
  -- The words are a wrong use exactly where they ask for no command.
  pub usage : UsageCause asked.command ended
  -- The input can't be read only where a read failed.
  pub read_fault : ReadCause asked.command old new ended
  -- It is too large exactly where it has more than 8,388,608 bytes.
  pub too_large : TooLargeCause asked.command old new ended
  -- It isn't UTF-8 exactly where that is so, and the fault tells the first wrong byte.
  pub not_utf8 : NotUtf8Cause asked.command old new ended
  -- `transform` can't read a sheet exactly where no tree is the text's, and it tells the first fault of the text.
  pub syntax : SyntaxCause asked.command old new ended
  -- A plugin failed exactly where a visitor said why, in the last call of the log.
  pub plugin_failed : PluginFailedCause asked.shelf after ended
  -- The budget of calls is spent exactly where the walk asked for one more.
  pub budget_spent : BudgetCause asked old ended
  -- The budget of edits is spent exactly where a call came back with more.
  pub edit_budget_spent : EditBudgetCause asked old ended
  -- A sink can't be written only where a write to it failed.
  pub write_fault : WriteCause asked.command old new ended
  -- Each fault has its status; without one it is 0, or 2 for `lint`.
  pub status : StatusCause asked.command ended
  -- `transform` writes the input's bytes, where every picked visitor is quiet.
  pub unchanged : UnchangedCause asked old new ended
  -- Each node that no edit alters, nor one below it, is written as it stood in the input.
  pub untouched : UntouchedCause asked old new ended
  -- A whole walk leaves a settled tree.
  pub settled : SettledCause asked old ended
  -- Visitors that make no edit spend no default budget.
  pub never_spent : NeverSpent asked old ended
  -- `lint` warns of the first fault of a text that can't be read as a sheet, and of nothing else.
  pub css_syntax_error : SyntaxErrorCause asked.command old new ended
  -- It reports on the warnings of the text's tree.
  pub warned : WarnedCause asked.command old new ended
  -- Another run with the same words, bytes, names, hooks and duties comes to the same.
  pub repeated : Repeated asked old new ended
  -- Without a cause there is no fault.
  pub complete : Completes asked after old new ended
  -- Without a fault no call has failed.
  pub unfailed : Unfailed old new ended

-- of a run that was out of memory: each sink took a front of what the answer says, and the folder stays as it was
pub record OutOfMemory (asked : Asked) (after : List PluginSeen) (old new : Snapshot) : Type 0 where
  pub ran : RanOut asked after old new
  pub folder : KeepsFolder old new
