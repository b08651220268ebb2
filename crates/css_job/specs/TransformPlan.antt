-- What `transform` writes: the printing of the tree after the walk, and the trace where it is asked for.
use Rattle.std.specs.Prelude.{ℕ, ◌+◌, ◌*◌, min, nat_lt, List, [], ◌∷◌, ◌++◌, length, Bool, true, false, Option, Some, None, Ok, Err, encode_utf8_all, if◌then◌else◌}
use Rattle.std.specs.Str.{is_utf8}
use Rattle.css_tree.specs.Tree.{Tree}
use Rattle.css_tree.specs.Print.{print}
use Rattle.css_tree.specs.Numbered.{numbered}
use Rattle.node_rows.specs.Nodes.{Node}
use Rattle.node_rows.specs.NumberTrees.{tree_at}
use Rattle.node_store.specs.declared.item.Item.{Item}
use Rattle.visitor_walk.specs.declared.walk_end.WalkEnd.{WalkEnd}
use Rattle.visitor_walk.specs.declared.walk_end.WalkEnd.TheVariants as W
use Rattle.command_words.specs.Words.{Options, Command, Transform, most_budget}
use Rattle.css_job.specs.Faults.{input_name}
use Rattle.css_job.specs.Trace.{trace, caller}
use Rattle.css_job.specs.Reading.{Reading}
use Rattle.css_job.specs.Plan.{Piece, Plan, stopped, limit, to_err, to_out}
use Rattle.css_job.specs.declared.fault.Fault.{Fault}
use Rattle.css_job.specs.declared.fault.Fault.TheVariants.{Syntax, PluginFailed, BudgetSpent, EditBudgetSpent}

-- the budget where none is given: 1000 and 40 for each node of the parsed tree, but no more than 20,000,000
abbrev pub default_budget : Tree → ℕ
default_budget t = min most_budget (1000 + 40 * length (numbered t))

abbrev pub budget_for : Option ℕ → Tree → ℕ
budget_for None t = default_budget t
budget_for (Some n) t = n

-- what a walk came to: its log, its end, and the nodes after it
pub record Reached : Type 0 where
  pub log : List Item
  pub end : WalkEnd
  pub nodes : List Node

-- the fault of a walk's end, where that was the budget of edits
abbrev pub fault_of : WalkEnd → ℕ → Option Fault
fault_of W.Done most = None
fault_of (W.Failed text moment) most = Some (PluginFailed text moment)
fault_of (W.BudgetSpent calls next) most = Some (BudgetSpent calls next)
fault_of (W.EditBudgetSpent edits at) most = Some (EditBudgetSpent edits most at)

-- a walk that isn't done is a fault, of status 1
abbrev pub walk_status : WalkEnd → ℕ
walk_status W.Done = 0
walk_status _ = 1

-- the trace, where it is asked for, goes to the standard error
abbrev pub traced : Bool → List (List ℕ) → List Item → List Piece
traced true names log = to_err (trace names log) ∷ []
traced false names log = []

-- the printing of the tree goes to the output, where the walk is done
abbrev pub printed : WalkEnd → List Node → List Piece
printed W.Done nodes = to_out (encode_utf8_all (print (tree_at nodes 0))) ∷ []
printed _ nodes = []

-- what comes of a walk whose budget of edits was `most`
abbrev pub walk_plan : Bool → List (List ℕ) → ℕ → Reached → Plan
walk_plan trace names most r = record { fault = fault_of r.end most; caller = caller names r.log; status = walk_status r.end; writes = traced trace names r.log ++ printed r.end r.nodes }

-- `transform`, where the text is read as that tree
abbrev pub walked : Options → List (List ℕ) → Tree → Reached → Plan
walked o names t r = walk_plan o.trace names (budget_for o.edit_budget t) r

abbrev pub transformed : Options → List (List ℕ) → Reading → Reached → Plan
transformed o names (Ok t) r = walked o names t r
transformed o names (Err f) r = stopped (Syntax input_name f)

-- the walk of a run: the options of `transform`, and the tree that the text is read as
pub record Turn : Type 0 where
  pub options : Options
  pub tree : Tree

abbrev pub text_turn : Options → List ℕ → Reading → Option Turn
text_turn o bytes (Err f) = None
text_turn o bytes (Ok t) = if nat_lt limit (length bytes) then None else if is_utf8 bytes then Some (record { options = o; tree = t }) else None

-- the walk comes after all that could stop the run before it
abbrev pub turn_of : Option Command → List ℕ → Reading → Bool → Option Turn
turn_of (Some (Transform o)) bytes reading false = text_turn o bytes reading
turn_of _ bytes reading unread = None

-- the log that is kept: that of the walk, where there was one
abbrev pub kept_log : Option Turn → Reached → List Item
kept_log None r = []
kept_log (Some turn) r = r.log
