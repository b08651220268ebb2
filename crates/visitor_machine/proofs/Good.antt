-- The two invariants of a run.
use Rattle.std.proofs.Common.{◌⊎◌, ◌≡◌, ℕ, ◌<◌, ◌≤◌, List, [], ◌∷◌, ◌++◌, true, false, Some, drop, map, length}
use Rattle.std.specs.Prelude.{filter}
use Rattle.css_tree.specs.declared.node.Kind.{Kind}
use Rattle.node_rows.specs.Nodes.{Node, parent_of, children_of, is_dirty}
use Rattle.node_rows.specs.Sound.{IsSound}
use Rattle.visitor_machine.specs.Machine.{kind_at, key_at}
use Rattle.visitor_machine.specs.Hooks.{PickedHook, enters, exits, fits, before, after}
use Rattle.node_store.specs.declared.item.Item.{Item}
use Rattle.visitor_machine.specs.Machine.{called, Frame, Visit, State}
use Rattle.visitor_machine.proofs.Above.{Above}
use Rattle.visitor_machine.proofs.Members.{Mem}

-- some open frame of q hasn't passed c
abbrev pub Pending : List Node → List Frame → ℕ → ℕ → Type 0
Pending ns [] q c = ⊥
Pending ns (f ∷ fs) q c = ((f.node ≡ q) × Mem c (drop f.passed (children_of ns q))) ⊎ Pending ns fs q c

-- a dirty node of the tree has a dirty parent, or an open frame of its parent hasn't passed it
abbrev pub IsCovered : List Node → List Frame → Type 0
IsCovered ns fs = (c q : ℕ) → parent_of ns c ≡ Some q → Above ns 0 c → is_dirty ns c ≡ true → (is_dirty ns q ≡ true) ⊎ Pending ns fs q c

-- the calls that a visit of n makes, and those that an open one still owes
abbrev pub wanted : List PickedHook → Kind → List ℕ → ℕ → List Item
wanted hs k key n = map (called n) (before hs k key ++ after hs k key)

abbrev pub owed : List PickedHook → Kind → List ℕ → ℕ → Frame → List Item
owed hs k key n f = map (called n) (filter (fits key) (drop f.enter (enters hs k)) ++ filter (fits key) (drop f.exit (exits hs k)))

-- the frame is of n, was entered since the items t, and has its calls so far
pub record IsOn (hs : List PickedHook) (k : Kind) (key : List ℕ) (n t : ℕ) (f : Frame) : Type 0 where
  pub of_node : f.node ≡ n
  pub since : t ≤ f.entered
  pub so_far : f.calls ++ owed hs k key n f ≡ wanted hs k key n

pub record IsLeft (hs : List PickedHook) (k : Kind) (key : List ℕ) (n t : ℕ) (v : Visit) : Type 0 where
  pub of_node : v.node ≡ n
  pub since : t ≤ v.entered
  pub all_calls : v.calls ≡ wanted hs k key n

abbrev pub HasOpen : List PickedHook → Kind → List ℕ → ℕ → ℕ → List Frame → Type 0
HasOpen hs k key n t [] = ⊥
HasOpen hs k key n t (f ∷ fs) = IsOn hs k key n t f ⊎ HasOpen hs k key n t fs

abbrev pub HasLeft : List PickedHook → Kind → List ℕ → ℕ → ℕ → List Visit → Type 0
HasLeft hs k key n t [] = ⊥
HasLeft hs k key n t (v ∷ vs) = IsLeft hs k key n t v ⊎ HasLeft hs k key n t vs

abbrev pub Visited : List PickedHook → Kind → List ℕ → ℕ → ℕ → List Frame → List Visit → Type 0
Visited hs k key n t fs vs = HasOpen hs k key n t fs ⊎ HasLeft hs k key n t vs

-- the invariant of a run
pub record GoodAt (hs : List PickedHook) (ns : List Node) (fs : List Frame) (vs : List Visit) (t : ℕ → ℕ) (count : ℕ) : Type 0 where
  pub sound : IsSound ns
  pub some : 0 < length ns
  pub known : (n : ℕ) → t n ≤ count
  pub covered : IsCovered ns fs
  pub visited : (n : ℕ) → Above ns 0 n → is_dirty ns n ≡ false → Visited hs (kind_at ns n) (key_at ns n) n (t n) fs vs

abbrev pub Good : List PickedHook → State → Type 0
Good hs s = GoodAt hs s.nodes s.frames s.visits s.touched s.count
