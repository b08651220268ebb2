-- How many cursors are open, and how many of them a call leaves.
use Rattle.std.specs.Prelude.{◌≡◌, ℕ, suc, ◌+◌, List, [], ◌∷◌, Option, Some, None, Result, Ok, Err}
use Rattle.node_store.specs.Forest.{Forest, Place}
use Rattle.plugin_api.specs.declared.visitor.VisitFault.{VisitFault}
use Rattle.plugin_api.specs.declared.visitor.VisitFault.TheVariants.{Plugin, Memory}

abbrev pub open_total : List (Option Place) → ℕ
open_total [] = 0
open_total (None ∷ cs) = open_total cs
open_total (Some c ∷ cs) = suc (open_total cs)

-- As many cursors more are open after the call as the visitor left, whose count was `left` before and is `left'` now. After
-- want of memory nothing is said.
abbrev pub LeavesOpen : ℕ → ℕ → Forest → Forest → Result (Unit {0}) VisitFault → Type 0
LeavesOpen left left' before after (Ok _) = open_total after.cursors + left ≡ open_total before.cursors + left'
LeavesOpen left left' before after (Err (Plugin _)) = open_total after.cursors + left ≡ open_total before.cursors + left'
LeavesOpen left left' before after (Err (Memory _)) = Unit {0}
