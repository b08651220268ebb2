-- A turn goes on behind the leaves that it passed.
use Rattle.std.proofs.Common.{◌≡◌, ℕ, ◌+◌, List, ◌∷◌, length, Option, Some, None, Ok, Err, refl, ap, sym, ◌∙◌, subst, drop, reverse, arith}
use Rattle.std.specs.declared.alloc.AllocError.{AllocError}
use Rattle.css_tree.specs.Parts.{kind_of}
use Rattle.node_rows.specs.Nodes.{children_of, text_of}
use Rattle.node_rows.specs.Sound.{IsSound}
use Rattle.node_store.specs.declared.item.Item.TheVariants as I
use Rattle.node_store.specs.Forest.{Forest}
use Rattle.node_store.specs.Cursors.{through}
use Rattle.plugin_api.specs.Open.{open_total}
use Rattle.visitor_machine.specs.Hooks.{PickedHook, enters, exits, fits}
use Rattle.visitor_machine.specs.Machine.{State, called, kind_at, key_at}
use Rattle.visitor_machine.specs.Settled.{IsInTree}
use Rattle.visitor_walk.specs.declared.turn.Open.{Open}
use Rattle.visitor_walk.specs.declared.turn.Due.{Due}
use Rattle.visitor_walk.specs.declared.turn.Next.{Next}
use Rattle.visitor_walk.specs.declared.hooks.RunHook.{RunHook}
use Rattle.visitor_walk.specs.Groups.{shown_hooks}
use Rattle.visitor_walk.specs.Turns.{held_by, held, AllShown, AllSure, Shows, IsPass, Strolls, StayApart, Turned, due_child, Opened, NextDirty, Leaves, Enters, Reseats}
use Rattle.visitor_walk.specs.Leaves.{KeepsTexts, upto, AtChildren, PassedLeaves}
use Rattle.visitor_walk.proofs.Leaving.{opened_still, empty_as}
use Rattle.visitor_walk.proofs.Passing.{then, kept_apart}
use Rattle.visitor_walk.proofs.Turning as Turning

-- From where the visit was o, the leaves were passed, and the next dirty child was sought; the code's visit is p.
pub record Came (hs : List PickedHook) (most : ℕ) (f : Forest) (o p : Open) (os : List Open) (s : State) (h : Forest) (r : Option ℕ) : Type 0 where
  pub at : Forest
  pub j : ℕ
  pub strolls : Strolls hs most f (o ∷ os) s at
  pub here : AtChildren hs at p j os strolls.state
  pub apart : StayApart f at (o ∷ os) (upto p j ∷ os)
  pub stage : strolls.state.stage ≡ s.stage
  pub next : NextDirty at h p.children r

module _ (hs : List PickedHook) (most : ℕ) (f : Forest) (o : Open) (os : List Open) (s : State) (pass : IsPass hs s.stage) (w : Shows f (o ∷ os) s) (h1 : Forest) (new : Option ℕ) (a : Opened f h1 o.node o.children (Ok new)) where
  -- the visit has its cursor
  reseats : Reseats f h1 o.children new o.node (Turning.passed_now hs most f o os s pass w)
  reseats = record { same = a.same; count = a.count; kept = a.kept; seat = (a.seat _ (Turning.seat_now hs most f o os s pass w)).0 }

  abbrev with_end : ℕ → Open
  with_end end = record { node = o.node; enter = end; exit = o.exit; children = new; sure = o.sure }

  shows_open : (end : ℕ) → Shows h1 (upto (with_end end) o.enter ∷ os) s
  shows_open end =
      let top = Turning.top hs most f o os s pass w in
      let r = reseats in
      let passed = Turning.passed_now hs most f o os s pass w in
      record {
        nodes = w.nodes ∙ sym a.same.nodes;
        free = w.free;
        frames = subst (AllShown h1.cursors (upto (with_end end) o.enter ∷ os)) (sym top.frames) (record { node = top.shown.node; enter = top.shown.enter; exit = top.shown.exit; seat = r.seat }, (Turning.others_still hs most f o os s pass w h1 new passed r, Turning.below_still hs most f o os s pass w h1 new passed r));
        sure = subst (λ ns. AllSure ns s.edits (upto (with_end end) o.enter ∷ os)) (sym a.same.nodes) (record { past = w.sure.0.past; there = w.sure.0.there }, w.sure.1);
      }

  at_children : (end : ℕ) → s.edits ≡ o.sure → through (fits (key_at f.nodes o.node)) (drop o.enter (enters hs (kind_at f.nodes o.node))) ≡ None → end ≡ length (enters hs (kind_at f.nodes o.node)) → AtChildren hs h1 (with_end end) o.enter os s
  at_children end q d l = record {
    pass = pass;
    shows = shows_open end;
    edits = q;
    past = subst (λ ns. through (fits (key_at ns o.node)) (drop o.enter (enters hs (kind_at ns o.node))) ≡ None) (sym a.same.nodes) d;
    end = subst (λ ns. end ≡ length (enters hs (kind_at ns o.node))) (sym a.same.nodes) l;
    empty = empty_as f h1 o.node new (ap (λ ns. children_of ns o.node) a.same.nodes) (a.seat _ (Turning.seat_now hs most f o os s pass w)).1;
  }

  abbrev first : Strolls hs most f (o ∷ os) s h1
  first = Turning.stayed hs most f h1 (o ∷ os) s w.nodes a.same (λ serial c e u. (a.kept serial c e u.0).0)

  apart_open : (end : ℕ) → StayApart f h1 (o ∷ os) (upto (with_end end) o.enter ∷ os)
  apart_open end = record {
    apart = λ serial c e u. ((a.kept serial c e u.0).1, u.1);
    count = let i : open_total h1.cursors + held_by o.children ≡ open_total f.cursors + held_by new = a.count in let j : open_total h1.cursors + (held_by o.children + held os) ≡ open_total f.cursors + (held_by new + held os) = omega arith in j;
  }

  pub came : (h : Forest) (r : Option ℕ) (end : ℕ) → s.edits ≡ o.sure → through (fits (key_at f.nodes o.node)) (drop o.enter (enters hs (kind_at f.nodes o.node))) ≡ None → end ≡ length (enters hs (kind_at f.nodes o.node)) → (AtChildren hs h1 (with_end end) o.enter os s → PassedLeaves hs most h1 (with_end end) o.enter os s h r) → Came hs most f o (with_end end) os s h r
  came h r end q d l go =
      let x = go (at_children end q d l) in
      record {
        at = x.at;
        j = x.j;
        strolls = then first (apart_open end).apart x.comes.strolls;
        here = x.comes.here;
        apart = kept_apart (upto (with_end end) o.enter ∷ os) (upto (with_end end) x.j ∷ os) first (apart_open end) x.comes.apart;
        stage = x.comes.stage;
        next = x.next;
      }

  pub came_not : (g : Forest) (end : ℕ) → s.edits ≡ o.sure → through (fits (key_at f.nodes o.node)) (drop o.enter (enters hs (kind_at f.nodes o.node))) ≡ None → end ≡ length (enters hs (kind_at f.nodes o.node)) → (AtChildren hs h1 (with_end end) o.enter os s → Strolls hs most h1 (upto (with_end end) o.enter ∷ os) s g) → Strolls hs most f (o ∷ os) s g
  came_not g end q d l go = then first (apart_open end).apart (go (at_children end q d l))

module _ (hs : List PickedHook) (most : ℕ) (f : Forest) (o p : Open) (os : List Open) (s : State) (h : Forest) where
  there : (r : Option ℕ) → (c : Came hs most f o p os s h r) → IsInTree c.at.nodes p.node
  there r c = c.here.shows.sure.0.there (sym c.here.edits)

  pub front : (r : Option ℕ) (g : Forest) → (c : Came hs most f o p os s h r) → Strolls hs most c.at (upto p c.j ∷ os) c.strolls.state g → Strolls hs most f (o ∷ os) s g
  front r g c v = then c.strolls c.apart.apart v

  turned : (r : Option ℕ) (g : Forest) (us : List Open) (due : Option Due) → (c : Came hs most f o p os s h r) → (v : Strolls hs most c.at (upto p c.j ∷ os) c.strolls.state g) × Turned hs c.at g (upto p c.j ∷ os) us c.strolls.state v.state due → (y : Strolls hs most f (o ∷ os) s g) × Turned hs f g (o ∷ os) us s y.state due
  turned r g us None c v = (then c.strolls c.apart.apart v.0, (v.1.0, (kept_apart (upto p c.j ∷ os) us c.strolls c.apart v.1.1.0, v.1.1.1 ∙ c.stage)))
  turned r g us (Some due) c v = (then c.strolls c.apart.apart v.0, (v.1.0, (kept_apart (upto p c.j ∷ os) us c.strolls c.apart v.1.1.0, v.1.1.1 ∙ c.stage)))

  pub child_entered : (g : Forest) (old more : List Open) (child : ℕ) → (c : Came hs most f o p os s h (Some child)) → IsSound h.nodes → os ≡ reverse old → Enters h g old more p child (Ok tt) → (y : Strolls hs most f (o ∷ os) s g) × Turned hs f g (o ∷ os) (reverse more) s y.state None
  child_entered g old more child c sound eo n = turned (Some child) g (reverse more) None c (Turning.child_entered hs most c.at (upto p c.j) os c.strolls.state c.here.pass c.here.shows c.at h g old more p.children p.enter child p.sure c.here.edits (subst IsSound c.next.same.nodes sound) (there (Some child) c) c.here.past (opened_still c.at p.node p.children c.here.empty) c.next c.here.end eo n)

  pub child_fails : (g : Forest) (old more : List Open) (child : ℕ) (err : AllocError) → (c : Came hs most f o p os s h (Some child)) → Enters h g old more p child (Err err) → Strolls hs most f (o ∷ os) s g
  child_fails g old more child err c n = front (Some child) g c (Turning.child_fails hs most c.at (upto p c.j) os c.strolls.state c.here.pass c.here.shows c.at h g old more p.children p.enter child p.sure err (there (Some child) c).1 c.here.past (opened_still c.at p.node p.children c.here.empty) c.next n)

  -- no dirty child is left
  gone : (c : Came hs most f o p os s h None) → (due_child c.at.nodes p.node (Turning.passed_now hs most c.at (upto p c.j) os c.strolls.state c.here.pass c.here.shows) ≡ None) × Reseats c.at h p.children p.children p.node (Turning.passed_now hs most c.at (upto p c.j) os c.strolls.state c.here.pass c.here.shows)
  gone c = Turning.gone_on hs most c.at (upto p c.j) os c.strolls.state c.here.pass c.here.shows c.at h p.children (opened_still c.at p.node p.children c.here.empty) c.next

  pub strolls_not : (c : Came hs most f o p os s h None) → Strolls hs most f (o ∷ os) s h
  strolls_not c = front None h c (Turning.strolls_not hs most c.at (upto p c.j) os c.strolls.state c.here.pass c.here.shows h p.children _ (gone c).1)

  pub leave_fails : (g : Forest) (err : AllocError) (c : Came hs most f o p os s h None) → Leaves h g p (Err err) → Strolls hs most f (o ∷ os) s g
  leave_fails g err c l = front None g c (Turning.leave_fails hs most c.at (upto p c.j) os c.strolls.state c.here.pass c.here.shows h g p _ err (gone c).1 l)

  -- the first exit hook that fits, of the group and of the machine's list
  searched : (c : Came hs most f o p os s h None) (xs : List RunHook) (r : Option (PickedHook × ℕ)) → kind_at h.nodes p.node ≡ kind_at f.nodes p.node → shown_hooks xs ≡ exits hs (kind_at f.nodes p.node) → through (fits (key_at h.nodes p.node)) (drop p.exit (shown_hooks xs)) ≡ r → through (fits (key_at c.at.nodes p.node)) (drop p.exit (exits hs (kind_at c.at.nodes p.node))) ≡ r
  searched c xs r k e d =
      let same : h.nodes ≡ c.at.nodes = c.next.same.nodes in
      Turning.searched c.at.nodes h.nodes p.node p.exit (shown_hooks xs) (exits hs (kind_at c.at.nodes p.node)) r same (e ∙ ap (exits hs) (sym k ∙ ap (λ ns. kind_at ns p.node) same)) d

  pub left : (g : Forest) (c : Came hs most f o p os s h None) (xs : List RunHook) → kind_at h.nodes p.node ≡ kind_at f.nodes p.node → shown_hooks xs ≡ exits hs (kind_at f.nodes p.node) → through (fits (key_at h.nodes p.node)) (drop p.exit (shown_hooks xs)) ≡ None → Leaves h g p (Ok tt) → (y : Strolls hs most f (o ∷ os) s g) × Turned hs f g (o ∷ os) os s y.state None
  left g c xs k e d l = turned None g os None c (Turning.left hs most c.at (upto p c.j) os c.strolls.state c.here.pass c.here.shows h g p _ (gone c).1 refl (Turning.leaves_whole hs most c.at (upto p c.j) os c.strolls.state c.here.pass c.here.shows (there None c).1 c.here.past (gone c).0 (searched c xs None k e d)) l)

  pub exit_due : (c : Came hs most f o p os s h None) (xs : List RunHook) (next : Next) (x : PickedHook × ℕ) → kind_at h.nodes p.node ≡ kind_at f.nodes p.node → shown_hooks xs ≡ exits hs (kind_at f.nodes p.node) → through (fits (key_at h.nodes p.node)) (drop p.exit (shown_hooks xs)) ≡ Some x → p.exit + x.1 ≡ next.behind → called p.node x.0 ≡ I.Call next.due.plugin next.due.hook next.due.moment
      → (y : Strolls hs most f (o ∷ os) s h) × Turned hs f h (o ∷ os) (record p { exit = next.behind } ∷ os) s y.state (Some next.due)
  exit_due c xs next x k e d b i = turned None h (record p { exit = next.behind } ∷ os) (Some next.due) c (Turning.exit_due hs most c.at (upto p c.j) os c.strolls.state c.here.pass c.here.shows h p.children p.enter p.sure next x c.here.edits (there None c) (gone c).1 c.here.end (Turning.due_exit hs most c.at (upto p c.j) os c.strolls.state c.here.pass c.here.shows x next.behind (there None c).1 c.here.past (gone c).0 (searched c xs (Some x) k e d) b) i)

-- the kind of the node is as before the leaves
pub kind_as : (f h1 h : Forest) (n : ℕ) → h1.nodes ≡ f.nodes → KeepsTexts h1 h → kind_at h.nodes n ≡ kind_at f.nodes n
kind_as f h1 h n e k = ap kind_of (k.texts n ∙ ap (λ ns. text_of ns n) e)
