-- What a call of a visitor may do.
use Rattle.std.specs.Prelude.{◌≡◌, ℕ, ◌⊎◌, List, [], ◌∷◌, ◌++◌, length, Option, Some, None, Result, Ok, Err}
use Rattle.node_rows.specs.Nodes.{Node}
use Rattle.node_store.specs.declared.item.Edit.{Edit}
use Rattle.node_store.specs.declared.item.Moment.{Moment}
use Rattle.node_store.specs.Forest.{Forest}
use Rattle.plugin_api.specs.declared.visitor.Told.{Told}
use Rattle.plugin_api.specs.declared.visitor.Duty.{Duty}
use Rattle.plugin_api.specs.declared.visitor.VisitFault.{VisitFault}
use Rattle.plugin_api.specs.declared.visitor.VisitFault.TheVariants.{Plugin, Memory}
use Rattle.plugin_api.specs.Edited.{Edited}
use Rattle.plugin_api.specs.Effect.{IsEffect}
use Rattle.plugin_api.specs.Open.{LeavesOpen}

abbrev pub Answer : Type 0
Answer = Result (Unit {0}) VisitFault

-- one more item, where the visitor tells its calls
abbrev pub told_after : Option (List Told) → Told → Option (List Told)
told_after None t = None
told_after (Some ts) t = Some (ts ++ t ∷ [])

-- A call that answers want of memory may be told or not; every other one is told.
abbrev pub Tells : Option (List Told) → Option (List Told) → Told → Answer → Type 0
Tells old new t (Ok _) = new ≡ told_after old t
Tells old new t (Err (Plugin _)) = new ≡ told_after old t
Tells old new t (Err (Memory _)) = (new ≡ old) ⊎ (new ≡ told_after old t)

-- the texts of faults, with the one of this answer
abbrev pub said_after : List (List ℕ) → Answer → List (List ℕ)
said_after old (Ok _) = old
said_after old (Err (Plugin text)) = old ++ text ∷ []
said_after old (Err (Memory _)) = old

-- A duty allows no fault but want of memory, before which only a front of its edits was made.
abbrev pub Does : Duty → List Node → Moment → List Edit → Answer → Type 0
Does d ns m es (Ok _) = IsEffect d ns m es
Does d ns m es (Err (Plugin _)) = ⊥
Does d ns m es (Err (Memory _)) = (all : List Edit) → IsEffect d ns m all → (rest : List Edit) × (all ≡ es ++ rest)

abbrev pub Dutiful : Option Duty → List Node → Moment → List Edit → Answer → Type 0
Dutiful None ns m es r = Unit {0}
Dutiful (Some d) ns m es r = Does d ns m es r

-- A call of a visitor: what it tells, the texts of its faults, its duty, how many cursors it left open and the forest, before
-- and after.
pub record Visited (told told' : Option (List Told)) (said said' : List (List ℕ)) (duty duty' : Option Duty) (left left' : ℕ) (before after : Forest) (m : Moment) (r : Answer) : Type 0 where
  pub edits : List Edit
  pub edited : Edited before after edits
  pub tells : Tells told told' (record { moment = m; at = length before.log; edits = length edits }) r
  pub says : said' ≡ said_after said r
  pub keeps : duty' ≡ duty
  pub does : Dutiful duty before.nodes m edits r
  pub leaves : LeavesOpen left left' before after r
