-- The walk as a machine: its states, its next move, and the state after it.
use Rattle.std.specs.Prelude.{ℕ, suc, ◌+◌, List, [], ◌∷◌, ◌++◌, Bool, true, false, length, Option, Some, None, if◌then◌else◌, map, drop, filter}
use Rattle.css_tree.specs.declared.node.Kind.{Kind}
use Rattle.css_tree.specs.Parts.{kind_of}
use Rattle.node_rows.specs.Nodes.{Node, text_of, is_dirty, children_of, holds}
use Rattle.node_rows.specs.Marks.{with_mark}
use Rattle.node_store.specs.declared.item.Event.TheVariants as E
use Rattle.node_store.specs.declared.item.Edit.{Edit}
use Rattle.node_store.specs.declared.item.Item.{Item}
use Rattle.node_store.specs.declared.item.Item.TheVariants as I
use Rattle.node_store.specs.Edits.{apply, moved, touches}
use Rattle.node_store.specs.Cursors.{through}
use Rattle.visitor_machine.specs.Hooks.{PickedHook, is_at, key_of, fits, enters, exits}

-- the call of a hook at node n
abbrev pub called : ℕ → PickedHook → Item
called n h = I.Call h.plugin h.hook (record { event = h.event; node = n })

-- An open visit: its node, how many enter hooks, children and exit hooks are passed. The last two fields are history:
-- how many items the log had before its Enter, and the calls that were made while it was the innermost.
pub record Frame : Type 0 where
  pub node : ℕ
  pub enter : ℕ
  pub passed : ℕ
  pub exit : ℕ
  pub entered : ℕ
  pub calls : List Item

-- a visit that was left: its node, how many items stood before its Enter and before its Leave, and its own calls
pub record Visit : Type 0 where
  pub node : ℕ
  pub entered : ℕ
  pub left : ℕ
  pub calls : List Item

-- Opening: the Once hooks still to be called. Passing: after a Pass. Closing: the OnceExit hooks still to be called.
-- Stopped: nothing follows.
pub data Stage : Type 0 where
  Opening : List PickedHook → Stage
  Walking : Stage
  Passing : Stage
  Closing : List PickedHook → Stage
  Ended : Stage
  Stopped : Stage

-- The innermost frame comes first. The last four fields are history, which no move reads but the edit budget: how many
-- items and edits there were, the visits that were left, and of each node the items through the last edit that touched it.
pub record State : Type 0 where
  pub nodes : List Node
  pub stage : Stage
  pub calling : Bool
  pub frames : List Frame
  pub count : ℕ
  pub edits : ℕ
  pub visits : List Visit
  pub touched : ℕ → ℕ

pub data Move : Type 0 where
  ToPass : Move
  ToRoot : Move
  -- the child, and how many children are then passed
  ToChild : ℕ → ℕ → Move
  -- the node, the hook, and the place behind it
  ToEnterHook : ℕ → PickedHook → ℕ → Move
  ToExitHook : ℕ → PickedHook → ℕ → Move
  -- the hook, and those still to be called
  ToOnce : PickedHook → List PickedHook → Move
  ToOnceExit : PickedHook → List PickedHook → Move
  ToLeave : ℕ → Move
  ToEnd : Move
  Nothing : Move

abbrev pub kind_at : List Node → ℕ → Kind
kind_at ns n = kind_of (text_of ns n)

abbrev pub key_at : List Node → ℕ → List ℕ
key_at ns n = key_of (text_of ns n)

-- no child is to be entered: the next exit hook that fits is called, or the node is left
abbrev pub at_exit : Frame → Option (PickedHook × ℕ) → Move
at_exit f None = ToLeave f.node
at_exit f (Some x) = ToExitHook f.node x.0 (f.exit + x.1)

-- no enter hook is to be called: the next dirty child is entered
abbrev pub at_child : List PickedHook → List Node → Frame → Option (ℕ × ℕ) → Move
at_child hs ns f None = at_exit f (through (fits (key_at ns f.node)) (drop f.exit (exits hs (kind_at ns f.node))))
at_child hs ns f (Some x) = ToChild x.0 (f.passed + x.1)

-- the node is in the tree: the next enter hook that fits is called
abbrev pub at_enter : List PickedHook → List Node → Frame → Option (PickedHook × ℕ) → Move
at_enter hs ns f None = at_child hs ns f (through (is_dirty ns) (drop f.passed (children_of ns f.node)))
at_enter hs ns f (Some x) = ToEnterHook f.node x.0 (f.enter + x.1)

-- a node that isn't in the tree is left
abbrev pub in_tree_at : List PickedHook → List Node → Frame → Bool → Move
in_tree_at hs ns f false = ToLeave f.node
in_tree_at hs ns f true = at_enter hs ns f (through (fits (key_at ns f.node)) (drop f.enter (enters hs (kind_at ns f.node))))

abbrev pub closing : List PickedHook → Move
closing [] = ToEnd
closing (h ∷ hs) = ToOnceExit h hs

-- no frame is open: a pass begins where the root is dirty
abbrev pub at_rest : List PickedHook → Bool → Move
at_rest hs true = ToPass
at_rest hs false = closing (filter (is_at E.OnceExit) hs)

abbrev pub walking : List PickedHook → List Node → List Frame → Move
walking hs ns [] = at_rest hs (is_dirty ns 0)
walking hs ns (f ∷ fs) = in_tree_at hs ns f (holds ns 0 f.node)

abbrev pub turn_in : List PickedHook → List Node → List Frame → Stage → Move
turn_in hs ns fs (Opening []) = walking hs ns fs
turn_in hs ns fs (Opening (h ∷ rest)) = ToOnce h rest
turn_in hs ns fs Walking = walking hs ns fs
turn_in hs ns fs Passing = ToRoot
turn_in hs ns fs (Closing rest) = closing rest
turn_in hs ns fs Ended = Nothing
turn_in hs ns fs Stopped = Nothing

-- what the machine does next, where no call is open
abbrev pub turn : List PickedHook → State → Move
turn hs s = turn_in hs s.nodes s.frames s.stage

abbrev pub item_of : Move → Option Item
item_of ToPass = Some I.Pass
item_of ToRoot = Some (I.Enter 0)
item_of (ToChild m k) = Some (I.Enter m)
item_of (ToEnterHook n h k) = Some (called n h)
item_of (ToExitHook n h k) = Some (called n h)
item_of (ToOnce h rest) = Some (called 0 h)
item_of (ToOnceExit h rest) = Some (called 0 h)
item_of (ToLeave n) = Some (I.Leave n)
item_of ToEnd = Some I.End
item_of Nothing = None

-- the next item; none where only edits and a Back may follow, or nothing may
abbrev pub next : List PickedHook → State → Option Item
next hs s = if s.calling then None else item_of (turn hs s)

abbrev pub new_frame : ℕ → ℕ → Frame
new_frame n count = record { node = n; enter = 0; passed = 0; exit = 0; entered = count; calls = [] }

-- the innermost frame after a child was entered: no enter hook comes up any more
abbrev pub passing_on : List PickedHook → List Node → ℕ → List Frame → List Frame
passing_on hs ns k [] = []
passing_on hs ns k (f ∷ fs) = record f { passed = k; enter = length (enters hs (kind_at ns f.node)) } ∷ fs

abbrev pub calling_enter : Item → ℕ → List Frame → List Frame
calling_enter i k [] = []
calling_enter i k (f ∷ fs) = record f { enter = k; calls = f.calls ++ i ∷ [] } ∷ fs

abbrev pub calling_exit : List PickedHook → List Node → Item → ℕ → List Frame → List Frame
calling_exit hs ns i k [] = []
calling_exit hs ns i k (f ∷ fs) = record f { exit = k; enter = length (enters hs (kind_at ns f.node)); calls = f.calls ++ i ∷ [] } ∷ fs

abbrev pub outer : List Frame → List Frame
outer [] = []
outer (f ∷ fs) = fs

abbrev pub leaving : ℕ → List Frame → List Visit → List Visit
leaving count [] vs = vs
leaving count (f ∷ fs) vs = record { node = f.node; entered = f.entered; left = count; calls = f.calls } ∷ vs

-- the state after a move
abbrev pub done : List PickedHook → State → Move → State
done hs s ToPass = record s { stage = Passing; count = suc s.count }
done hs s ToRoot = record s { stage = Walking; nodes = with_mark s.nodes 0 false; frames = new_frame 0 s.count ∷ s.frames; count = suc s.count }
done hs s (ToChild m k) = record s { nodes = with_mark s.nodes m false; frames = new_frame m s.count ∷ passing_on hs s.nodes k s.frames; count = suc s.count }
done hs s (ToEnterHook n h k) = record s { calling = true; frames = calling_enter (called n h) k s.frames; count = suc s.count }
done hs s (ToExitHook n h k) = record s { calling = true; frames = calling_exit hs s.nodes (called n h) k s.frames; count = suc s.count }
done hs s (ToOnce h rest) = record s { calling = true; stage = Opening rest; count = suc s.count }
done hs s (ToOnceExit h rest) = record s { calling = true; stage = Closing rest; count = suc s.count }
done hs s (ToLeave n) = record s { frames = outer s.frames; visits = leaving s.count s.frames s.visits; count = suc s.count }
done hs s ToEnd = record s { stage = Ended; count = suc s.count }
done hs s Nothing = s

abbrev pub moved_frame : List Node → Edit → Frame → Frame
moved_frame ns e f = record f { passed = moved ns e f.node f.passed }

abbrev pub touched_by : List Node → Edit → ℕ → (ℕ → ℕ) → ℕ → ℕ
touched_by ns e count old m = if touches ns e m then suc count else old m

-- the state after an edit of a visitor
abbrev pub edited : State → Edit → State
edited s e = record s { nodes = apply s.nodes e; frames = map (moved_frame s.nodes e) s.frames; count = suc s.count; edits = suc s.edits; touched = touched_by s.nodes e s.count s.touched }
