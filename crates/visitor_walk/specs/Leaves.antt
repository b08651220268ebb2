-- The leaves that a visit passes without visits of their own.
use Rattle.std.specs.Prelude.{◌≡◌, ℕ, ◌⊎◌, List, ◌∷◌, Bool, ◌&&◌, drop, Option, None, Result, Ok, Err, length, nat_eq, ◌≤◌}
use Rattle.std.specs.declared.alloc.AllocError.{AllocError}
use Rattle.node_rows.specs.Nodes.{Node, children_of, text_of}
use Rattle.node_store.specs.declared.item.Item.TheVariants as I
use Rattle.node_store.specs.Forest.{Forest, unreserved}
use Rattle.node_store.specs.Edits.{noted}
use Rattle.node_store.specs.Cursors.{through}
use Rattle.visitor_machine.specs.Hooks.{PickedHook, enter_event, exit_event, enters, fits}
use Rattle.visitor_machine.specs.Machine.{State, kind_at, key_at}
use Rattle.visitor_walk.specs.declared.turn.Open.{Open}
use Rattle.visitor_walk.specs.declared.hooks.RunHooks.{RunHooks}
use Rattle.visitor_walk.specs.Groups.{group_of}
use Rattle.visitor_walk.specs.Turns.{Shows, IsPass, Strolls, StayApart, IsEmptyWhere, NextDirty}

-- a node without children, of a kind that has no hook
abbrev pub is_bare : List Node → RunHooks → ℕ → Bool
is_bare ns hooks n = nat_eq (length (group_of hooks (enter_event (kind_at ns n)))) 0 && (nat_eq (length (group_of hooks (exit_event (kind_at ns n)))) 0 && nat_eq (length (children_of ns n)) 0)

-- A leaf is entered and left. After want of memory it may be entered, or not.
abbrev pub PassesLeaf : Forest → Forest → ℕ → Result (Unit {0}) AllocError → Type 0
PassesLeaf f g n (Ok _) = unreserved g ≡ noted (noted (unreserved f) (I.Enter n)) (I.Leave n)
PassesLeaf f g n (Err _) = (unreserved g ≡ unreserved f) ⊎ (unreserved g ≡ noted (unreserved f) (I.Enter n))

-- the nodes keep their number and their texts, and items are logged behind those that are there
pub record KeepsTexts (f g : Forest) : Type 0 where
  pub many : length g.nodes ≡ length f.nodes
  pub texts : (n : ℕ) → text_of g.nodes n ≡ text_of f.nodes n
  pub grows : length f.log ≤ length g.log

-- the visit with so many enter hooks passed
abbrev pub upto : Open → ℕ → Open
upto o k = record o { enter = k }

-- The visit with k enter hooks passed is innermost, at a node of the tree, and none of the others is called: o, for which
-- all are passed, is due to enter children.
pub record AtChildren (hs : List PickedHook) (f : Forest) (o : Open) (k : ℕ) (os : List Open) (s : State) : Type 0 where
  pub pass : IsPass hs s.stage
  pub shows : Shows f (upto o k ∷ os) s
  pub edits : s.edits ≡ o.sure
  pub past : through (fits (key_at f.nodes o.node)) (drop k (enters hs (kind_at f.nodes o.node))) ≡ None
  pub end : o.enter ≡ length (enters hs (kind_at f.nodes o.node))
  pub empty : IsEmptyWhere f o.node o.children

-- the walk went on, and is due to enter children of the same visit
pub record ComesTo (hs : List PickedHook) (most : ℕ) (f : Forest) (o : Open) (k : ℕ) (os : List Open) (s : State) (g : Forest) (j : ℕ) : Type 0 where
  pub strolls : Strolls hs most f (upto o k ∷ os) s g
  pub here : AtChildren hs g o j os strolls.state
  pub apart : StayApart f g (upto o k ∷ os) (upto o j ∷ os)
  pub stage : strolls.state.stage ≡ s.stage

-- Leaves were passed, and the next dirty child was sought.
pub record PassedLeaves (hs : List PickedHook) (most : ℕ) (f : Forest) (o : Open) (k : ℕ) (os : List Open) (s : State) (g : Forest) (r : Option ℕ) : Type 0 where
  pub at : Forest
  pub j : ℕ
  pub comes : ComesTo hs most f o k os s at j
  pub next : NextDirty at g o.children r

-- after want of memory the log is a front of the run
abbrev pub PassesLeaves : List PickedHook → ℕ → Forest → Open → ℕ → List Open → State → Forest → Result (Option ℕ) AllocError → Type 0
PassesLeaves hs most f o k os s g (Ok r) = PassedLeaves hs most f o k os s g r
PassesLeaves hs most f o k os s g (Err _) = Strolls hs most f (upto o k ∷ os) s g
