-- What a whole run leaves: no node of the tree is dirty, and each was visited after the last edit that touched it.
use Rattle.std.specs.Prelude.{◌≡◌, ℕ, ◌<◌, ◌≤◌, List, ◌++◌, true, false, length, map, Contains, Some}
use Rattle.node_rows.specs.Nodes.{Node, is_dirty, holds}
use Rattle.node_rows.specs.Sound.{IsSound}
use Rattle.node_store.specs.declared.item.Item.{Item}
use Rattle.visitor_machine.specs.Hooks.{PickedHook, before, after}
use Rattle.visitor_machine.specs.Machine.{called, kind_at, key_at, Visit, State, Ended}
use Rattle.visitor_machine.specs.Follow.{follow, start, passes}
use Rattle.visitor_machine.specs.Told.{IsTold}

-- node n is in the tree
abbrev pub IsInTree : List Node → ℕ → Type 0
IsInTree ns n = (n < length ns) × (holds ns 0 n ≡ true)

-- the calls that a whole visit of n makes
abbrev pub whole : List PickedHook → List Node → ℕ → List Item
whole hs ns n = map (called n) (before hs (kind_at ns n) (key_at ns n) ++ after hs (kind_at ns n) (key_at ns n))

-- the visit is one of n, was entered after the last edit that touched n, and made all its calls in order
pub record IsWholeVisit (hs : List PickedHook) (s : State) (n : ℕ) (v : Visit) : Type 0 where
  pub of_node : v.node ≡ n
  pub since : s.touched n ≤ v.entered
  pub in_whole : v.calls ≡ whole hs s.nodes n

pub record IsSettled (hs : List PickedHook) (s : State) : Type 0 where
  pub clean : (n : ℕ) → IsInTree s.nodes n → is_dirty s.nodes n ≡ false
  pub visited : (n : ℕ) → IsInTree s.nodes n → (v : Visit) × Contains s.visits v × IsWholeVisit hs s n v

-- every node of the tree is dirty
abbrev pub IsAllDirty : List Node → Type 0
IsAllDirty ns = (n : ℕ) → IsInTree ns n → is_dirty ns n ≡ true

-- the log is a whole run that comes to t
abbrev pub IsWholeRun : List PickedHook → ℕ → List Node → List Item → State → Type 0
IsWholeRun hs most ns log t = (follow hs most (start hs ns) log ≡ Some t) × (t.stage ≡ Ended)

-- when the passes end, the state is settled, and its visits are those of that part of the log
pub record SettlesAt (hs : List PickedHook) (most : ℕ) (ns : List Node) (log : List Item) : Type 0 where
  pub state : State
  pub reached : follow hs most (start hs ns) (passes log) ≡ Some state
  pub told : IsTold (passes log) state
  pub settled : IsSettled hs state

abbrev pub Settles : Type 0
Settles = (hooks : List PickedHook) (most : ℕ) (nodes : List Node) (log : List Item) (end : State) → IsSound nodes → 0 < length nodes → IsAllDirty nodes → IsWholeRun hooks most nodes log end → SettlesAt hooks most nodes log
