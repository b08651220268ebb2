-- How many calls a run makes that has no edit.
use Rattle.std.specs.Prelude.{◌≡◌, ℕ, ◌+◌, ◌*◌, ◌≤◌, ◌<◌, List, [], ◌∷◌, Some, length}
use Rattle.node_rows.specs.Nodes.{Node}
use Rattle.node_store.specs.declared.item.Item.{Item}
use Rattle.node_store.specs.declared.item.Item.TheVariants as I
use Rattle.visitor_machine.specs.Hooks.{PickedHook}
use Rattle.visitor_machine.specs.Machine.{State}
use Rattle.visitor_machine.specs.Follow.{follow, start}

abbrev pub call_of : Item → ℕ
call_of (I.Call p h m) = 1
call_of _ = 0

abbrev pub calls_in : List Item → ℕ
calls_in [] = 0
calls_in (i ∷ is) = call_of i + calls_in is

-- the log has no edit
abbrev pub IsQuiet : List Item → Type 0
IsQuiet [] = Unit {0}
IsQuiet (I.Edit e ∷ is) = ⊥
IsQuiet (_ ∷ is) = IsQuiet is

-- a run without an edit makes no more calls than there are hooks times nodes
abbrev pub IsBounded : Type 0
IsBounded = (hooks : List PickedHook) (most : ℕ) (nodes : List Node) (log : List Item) (end : State) → 0 < length nodes → IsQuiet log → follow hooks most (start hooks nodes) log ≡ Some end → calls_in log ≤ length hooks * length nodes
