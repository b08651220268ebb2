-- What is known of the visits' places changes no turn, and is known of a parent where it is of its child.
use Rattle.std.proofs.Common.{◌≡◌, ◌≢◌, ℕ, ◌+◌, List, [], ◌∷◌, Bool, true, false, length, Option, Some, None, IfOk, Result, Ok, Err, refl, ap, sym, ◌∙◌, arith}
use Rattle.std.specs.Prelude.{if◌then◌else◌}
use Rattle.std.specs.declared.alloc.AllocError.{AllocError}
use Rattle.std.proofs.lemmas.Bool.{false≢true}
use Rattle.node_rows.specs.Nodes.{Node, parent_of}
use Rattle.node_rows.specs.Sound.{IsSound, is_number}
use Rattle.node_rows.proofs.Behind.{held-above}
use Rattle.node_rows.proofs.Climb.{same_from_eqb}
use Rattle.node_store.specs.Forest.{Forest, Place}
use Rattle.visitor_machine.specs.Hooks.{PickedHook}
use Rattle.visitor_machine.specs.Machine.{Frame, State}
use Rattle.visitor_machine.specs.Settled.{IsInTree}
use Rattle.visitor_walk.specs.declared.turn.Open.{Open}
use Rattle.visitor_walk.specs.declared.turn.Due.{Due}
use Rattle.visitor_walk.specs.Known.{shared}
use Rattle.plugin_api.specs.Open.{open_total}
use Rattle.visitor_walk.specs.Turns.{held, AllApart, AreOthers, AllShown, IsSure, Shows, Strolls, StayApart, Turned, IsLess}
use Rattle.visitor_walk.proofs.Sure.{sure_from}

pub shown_known : (cs : List (Option Place)) (o : Open) (os : List Open) (fs : List Frame) (k : ℕ) → AllShown cs (o ∷ os) fs → AllShown cs (record o { sure = k } ∷ os) fs
shown_known cs o os [] k h = absurd h
shown_known cs o os (f ∷ fs) k h = (record { node = h.0.node; enter = h.0.enter; exit = h.0.exit; seat = h.0.seat }, h.1)

others_known : (s : Option ℕ) (p : Open) (os : List Open) (k : ℕ) → AreOthers s (p ∷ os) → AreOthers s (record p { sure = k } ∷ os)
others_known None p os k h = tt
others_known (Some s) p os k h = h

-- the same of the visit below the innermost
pub below_known : (cs : List (Option Place)) (o p : Open) (os : List Open) (fs : List Frame) (k : ℕ) → AllShown cs (o ∷ p ∷ os) fs → AllShown cs (o ∷ record p { sure = k } ∷ os) fs
below_known cs o p os [] k h = absurd h
below_known cs o p os (f ∷ fs) k h = (h.0, (others_known o.children p os k h.1.0, shown_known cs p os fs k h.1.1))

-- a visit that is known to be in the tree now, or as before
pub sure_as : (ns : List Node) (k x : ℕ) (o : Open) (b : Bool) → (b ≡ true → (x ≡ k) × IsInTree ns o.node) → IsSure ns k o → IsSure ns k (record o { sure = if b then x else o.sure })
sure_as ns k x o true f h = let i = f refl in sure_from ns k (record o { sure = x }) i.0 i.1
sure_as ns k x o false f h = record { past = h.past; there = h.there }

-- the innermost visit is known to be in the tree
pub known_now : (f : Forest) (o : Open) (os : List Open) (s : State) (k : ℕ) → s.edits ≡ k → IsInTree f.nodes o.node → Shows f (o ∷ os) s → Shows f (record o { sure = k } ∷ os) s
known_now f o os s k q t w = record {
  nodes = w.nodes;
  free = w.free;
  frames = shown_known f.cursors o os s.frames k w.frames;
  sure = (sure_from f.nodes s.edits (record o { sure = k }) (sym q) t, w.sure.1);
}

number_is : (o : Option ℕ) (p : ℕ) → is_number o p ≡ true → o ≡ Some p
number_is None p h = absurd (false≢true h)
number_is (Some q) p h = ap (λ k. Some k) (same_from_eqb q p h)

-- the parent of a node of the tree is in it
parent_there : (ns : List Node) (n p : ℕ) → IsSound ns → parent_of ns n ≡ Some p → IsInTree ns n → IsInTree ns p
parent_there ns n p s e t =
    let d : n ≢ 0 = λ i. let j : parent_of ns n ≡ parent_of ns 0 = ap (λ k. parent_of ns k) i in let r = s.root in absurd cc in
    (s.below n p e, held-above ns s 0 n p e d t.1)

pub shared_now : (f : Forest) (o : Open) (os : List Open) (s : State) → IsSound f.nodes → o.sure ≡ s.edits → IsInTree f.nodes o.node → Shows f (o ∷ os) s → Shows f (o ∷ shared f.nodes o os) s
shared_now f o [] s sound e t w = w
shared_now f o (p ∷ os) s sound e t w = record {
  nodes = w.nodes;
  free = w.free;
  frames = below_known f.cursors o p os s.frames _ w.frames;
  sure = (w.sure.0, (sure_as f.nodes s.edits o.sure p (is_number (parent_of f.nodes o.node) p.node) (λ b. (e, parent_there f.nodes o.node p.node sound (number_is (parent_of f.nodes o.node) p.node b) t)) w.sure.1.0, w.sure.1.1));
}

pub apart_shared : (ns : List Node) (o : Open) (k : ℕ) (os : List Open) (serial : ℕ) → AllApart (o ∷ os) serial → AllApart (record o { sure = k } ∷ shared ns (record o { sure = k }) os) serial
apart_shared ns o k [] serial h = h
apart_shared ns o k (p ∷ os) serial h = h

pub held_shared : (ns : List Node) (o : Open) (k : ℕ) (os : List Open) → held (record o { sure = k } ∷ shared ns (record o { sure = k }) os) ≡ held (o ∷ os)
held_shared ns o k [] = refl
held_shared ns o k (p ∷ os) = refl

-- other visits with the same cursors
module _ (hs : List PickedHook) (most : ℕ) (f g : Forest) (s : State) (os ps us : List Open) (to : (serial : ℕ) → AllApart os serial → AllApart ps serial) (same : held ps ≡ held os) where
  abbrev strolls_as : Strolls hs most f ps s g → Strolls hs most f os s g
  strolls_as w = record { items = w.items; state = w.state; run = w.run; plain = w.plain; text = w.text; log = w.log; nodes = w.nodes; through = w.through; edits = w.edits; kept = λ serial c e a. w.kept serial c e (to serial a) }

  apart_as : StayApart f g ps us → StayApart f g os us
  apart_as x = record { apart = λ serial c e a. x.apart serial c e (to serial a); count = ap (λ n. open_total g.cursors + n) (sym same) ∙ x.count }

  turned_as : (t : State) (r : Option Due) → Turned hs f g ps us s t r → Turned hs f g os us s t r
  turned_as t None h = (h.0, (apart_as h.1.0, h.1.1))
  turned_as t (Some due) h = (h.0, (apart_as h.1.0, h.1.1))

  ok_as : (t : State) (a : Result (Option Due) AllocError) → IfOk a (λ r. Turned hs f g ps us s t r) → IfOk a (λ r. Turned hs f g os us s t r)
  ok_as t (Ok r) h = turned_as t r h
  ok_as t (Err e) h = tt

  pub turn_as : (a : Result (Option Due) AllocError) → (y : Strolls hs most f ps s g) × IfOk a (λ r. Turned hs f g ps us s y.state r) → (y : Strolls hs most f os s g) × IfOk a (λ r. Turned hs f g os us s y.state r)
  turn_as a h = (strolls_as h.0, ok_as h.0.state a h.1)

-- as many visits were open
pub less_as : (f g : Forest) (old more new : List Open) (a : Result (Option Due) AllocError) → length more ≡ length old → IfOk a (λ r. IsLess f g more new r) → IfOk a (λ r. IsLess f g old new r)
less_as f g old more new (Ok None) e h = let i = h.0 in (omega arith, h.1)
less_as f g old more new (Ok (Some due)) e h = h
less_as f g old more new (Err x) e h = tt
