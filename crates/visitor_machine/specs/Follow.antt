-- A log that the machine follows.
use Rattle.std.specs.Prelude.{ℕ, suc, List, [], ◌∷◌, Bool, true, false, ◌&&◌, Option, Some, None, nat_eq, nat_lt, if◌then◌else◌, filter}
use Rattle.node_rows.specs.Nodes.{Node}
use Rattle.node_store.specs.declared.item.Event.TheVariants as E
use Rattle.node_store.specs.declared.item.Item.{Item}
use Rattle.node_store.specs.declared.item.Item.TheVariants as I
use Rattle.node_store.specs.Edits.{can}
use Rattle.visitor_machine.specs.Hooks.{PickedHook, same_event, is_at}
use Rattle.visitor_machine.specs.Machine.{Opening, Stopped, State, item_of, turn, done, edited}

abbrev pub same_item : Item → Item → Bool
same_item I.Pass I.Pass = true
same_item (I.Enter n) (I.Enter m) = nat_eq n m
same_item (I.Call p h a) (I.Call q k b) = nat_eq p q && (nat_eq h k && (same_event a.event b.event && nat_eq a.node b.node))
same_item (I.Leave n) (I.Leave m) = nat_eq n m
same_item I.End I.End = true
same_item _ _ = false

abbrev pub is_item : Item → Option Item → Bool
is_item i None = false
is_item i (Some j) = same_item i j

abbrev pub when : Bool → State → Option State
when true s = Some s
when false s = None

abbrev pub by_move : List PickedHook → State → Item → Bool → Option State
by_move hs s i true = None
by_move hs s i false = when (is_item i (item_of (turn hs s))) (done hs s (turn hs s))

-- The end of a call. Nothing follows a fault, nor more than `most` edits.
abbrev pub back : ℕ → State → Option (List ℕ) → State
back most s None = record s { calling = false; count = suc s.count; stage = if nat_lt most s.edits then Stopped else s.stage }
back most s (Some text) = record s { calling = false; count = suc s.count; stage = Stopped }

-- The state after one item of the log, or nothing. Edits stand between a Call and its Back alone; one that may not be made,
-- or that changes nothing, gives nothing.
abbrev pub step : List PickedHook → ℕ → State → Item → Option State
step hs most s (I.Edit e) = when (s.calling && can s.nodes e) (edited s e)
step hs most s (I.Back fault) = when s.calling (back most s fault)
step hs most s I.Pass = by_move hs s I.Pass s.calling
step hs most s (I.Enter n) = by_move hs s (I.Enter n) s.calling
step hs most s (I.Call p h m) = by_move hs s (I.Call p h m) s.calling
step hs most s (I.Leave n) = by_move hs s (I.Leave n) s.calling
step hs most s I.End = by_move hs s I.End s.calling

abbrev pub and_then : Option State → (State → Option State) → Option State
and_then None f = None
and_then (Some s) f = f s

-- the state that the machine reaches by the log, where `most` edits are the budget
abbrev pub follow : List PickedHook → ℕ → State → List Item → Option State
follow hs most s [] = Some s
follow hs most s (i ∷ is) = and_then (step hs most s i) (λ t. follow hs most t is)

-- before the first item
abbrev pub start : List PickedHook → List Node → State
start hs ns = record { nodes = ns; stage = Opening (filter (is_at E.Once) hs); calling = false; frames = []; count = 0; edits = 0; visits = []; touched = λ n. 0 }

abbrev pub is_closing : Item → Bool
is_closing (I.Call p h m) = same_event m.event E.OnceExit
is_closing I.End = true
is_closing _ = false

-- the part of the log before the first OnceExit call or the End
abbrev pub passes : List Item → List Item
passes [] = []
passes (i ∷ is) = if is_closing i then [] else i ∷ passes is
