-- What the calls of an action do that serves as a visitor.
use Rattle.std.specs.Prelude.{◌≡◌, ℕ, ◌⊎◌, List, Option, Ok, Err}
use Rattle.std.specs.declared.alloc.AllocError.{AllocError}
use Rattle.node_store.specs.declared.item.Edit.{Edit}
use Rattle.node_store.specs.declared.item.Moment.{Moment}
use Rattle.node_store.specs.Forest.{Forest}
use Rattle.plugin_api.specs.declared.visitor.Told.{Told}
use Rattle.plugin_api.specs.declared.visitor.Duty.{Duty}
use Rattle.plugin_api.specs.declared.visitor.VisitFault.TheVariants.{Plugin, Memory}
use Rattle.plugin_api.specs.Edited.{Edited}
use Rattle.plugin_api.specs.Open.{LeavesOpen}
use Rattle.plugin_api.specs.Visit.{Answer, Dutiful}

-- a call of a visitor, what it tells and its texts put aside
pub record Met (duty : Option Duty) (left left' : ℕ) (before after : Forest) (m : Moment) (r : Answer) : Type 0 where
  pub edits : List Edit
  pub edited : Edited before after edits
  pub does : Dutiful duty before.nodes m edits r
  pub leaves : LeavesOpen left left' before after r

-- an action, and the texts of the faults that it answered
pub record FnSeen (F : Type 0) : Type 0 where
  pub call : F
  pub said : List (List ℕ)

-- The answer of the action is passed on, unless its text could not be kept.
abbrev pub Answered : Answer → Answer → Type 0
Answered (Ok _) r = r ≡ Ok tt
Answered (Err (Plugin text)) r = (r ≡ Err (Plugin text)) ⊎ ((e : AllocError) × (r ≡ Err (Memory e)))
Answered (Err (Memory e)) r = r ≡ Err (Memory e)

-- a visitor, and what it told of its calls
pub record RecorderSeen (V : Type 0) : Type 0 where
  pub inner : V
  pub calls : List Told
