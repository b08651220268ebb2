-- One turn of the code is the machine's move.
use Rattle.std.proofs.Common.{◌≡◌, ◌≢◌, inl, inr, ℕ, suc, ◌+◌, ◌≤◌, List, [], ◌∷◌, ◌++◌, Bool, true, false, length, Option, Some, None, IfOk, IsErr, Result, Ok, Err, refl, ap, sym, ◌∙◌, subst, drop, reverse, append-nil, arith, cond, sum_by, length-append}
use Rattle.std.specs.declared.alloc.AllocError.{AllocError}
use Rattle.std.proofs.lemmas.List.{reverse-append}
use Rattle.std.proofs.lemmas.Bool.{false≢true}
use Rattle.node_rows.specs.Nodes.{Node, node_at, no_node, holds, is_dirty}
use Rattle.node_rows.specs.Marks.{with_mark}
use Rattle.node_rows.specs.Sound.{IsSound}
use Rattle.node_store.specs.declared.item.Item.{Item}
use Rattle.node_store.specs.declared.item.Item.TheVariants as I
use Rattle.node_store.specs.Forest.{Forest, Place, cursor_at}
use Rattle.node_store.specs.Cursors.{through, first_of}
use Rattle.visitor_machine.specs.Hooks.{PickedHook, enters, exits, fits}
use Rattle.visitor_machine.specs.Machine.{called, kind_at, key_at, Frame, State, Move, ToPass, ToRoot, ToChild, ToEnterHook, ToExitHook, ToOnce, ToOnceExit, ToLeave, ToEnd, Nothing, in_tree_at, at_enter, at_child, at_exit, walking, turn, item_of, done, outer, passing_on, new_frame, calling_enter, calling_exit}
use Rattle.visitor_walk.proofs.Seating.{reseated}
use Rattle.visitor_walk.proofs.Sure.{sure_from, sure_marked, child_there}
use Rattle.std.proofs.lemmas.List.Sums.{sum_by-set}
use Rattle.visitor_machine.proofs.Marks.{dirty-inside}
use Rattle.visitor_machine.specs.Settled.{IsInTree}
use Rattle.visitor_machine.proofs.Turns.{follow_one, step_item}
use Rattle.visitor_walk.specs.declared.hooks.RunHook.{RunHook}
use Rattle.visitor_walk.specs.declared.hooks.RunHooks.{RunHooks}
use Rattle.visitor_walk.specs.Groups.{shown_hooks, group_of, IsGrouped}
use Rattle.node_store.specs.declared.item.Event.{Event}
use Rattle.visitor_machine.specs.Hooks.{hooks_at}
use Rattle.visitor_walk.specs.declared.turn.Open.{Open}
use Rattle.visitor_walk.specs.declared.turn.Due.{Due}
use Rattle.visitor_walk.specs.declared.turn.Next.{Next}
use Rattle.plugin_api.specs.Open.{open_total}
use Rattle.visitor_walk.specs.Turns.{IsSeated, Apart, AllApart, AreOthers, IsShown, AllShown, held_by, held, Shows, IsPass, IsPlain, Strolls, Turned, due_child, passed_with, SameBeside, Opened, NextDirty, Leaves, Enters, fresh, Reseats, IsLess, IsSure, AllSure, dirty_total, nodes_through}

pub reverse_last : {A : Type 0} (xs : List A) (x : A) → reverse (xs ++ x ∷ []) ≡ x ∷ reverse xs
reverse_last xs x = reverse-append xs (x ∷ [])

pub done_edits : (hs : List PickedHook) (s : State) (m : Move) → (done hs s m).edits ≡ s.edits
done_edits hs s ToPass = refl
done_edits hs s ToRoot = refl
done_edits hs s (ToChild n k) = refl
done_edits hs s (ToEnterHook n h k) = refl
done_edits hs s (ToExitHook n h k) = refl
done_edits hs s (ToOnce h r) = refl
done_edits hs s (ToOnceExit h r) = refl
done_edits hs s (ToLeave n) = refl
done_edits hs s ToEnd = refl
done_edits hs s Nothing = refl

-- nothing was logged
abbrev pub stayed : (hs : List PickedHook) (most : ℕ) (f g : Forest) (os : List Open) (s : State) → s.nodes ≡ f.nodes → SameBeside f g → ((serial : ℕ) (c : Place) → cursor_at f.cursors serial ≡ Some c → AllApart os serial → cursor_at g.cursors serial ≡ Some c) → Strolls hs most f os s g
stayed hs most f g os s e h k = record {
  items = [];
  state = s;
  run = refl;
  plain = tt;
  text = h.text;
  log = h.log ∙ sym (append-nil f.log);
  nodes = h.nodes ∙ sym e;
  through = refl;
  edits = refl;
  kept = k;
}

-- one item was logged, which is the machine's
abbrev pub moved_on : (hs : List PickedHook) (most : ℕ) (f g : Forest) (os : List Open) (s : State) (m : Move) (i : Item) → s.calling ≡ false → turn hs s ≡ m → item_of m ≡ Some i → IsPlain (i ∷ []) → (done hs s m).nodes ≡ nodes_through s.nodes (i ∷ []) → g.text ≡ f.text → g.log ≡ f.log ++ i ∷ [] → g.nodes ≡ (done hs s m).nodes → ((serial : ℕ) (c : Place) → cursor_at f.cursors serial ≡ Some c → AllApart os serial → cursor_at g.cursors serial ≡ Some c) → Strolls hs most f os s g
moved_on hs most f g os s m i c e ei p th t l n k = record {
  items = i ∷ [];
  state = done hs s m;
  run = follow_one hs most s s (done hs s m) [] i refl (step_item hs most s i c (ap item_of e ∙ ei) ∙ ap (λ x. Some (done hs s x)) e);
  plain = p;
  text = t;
  log = l;
  nodes = n;
  through = th;
  edits = done_edits hs s m;
  kept = k;
}

-- the innermost of the open visits
pub record Top (cs : List (Option Place)) (o : Open) (os : List Open) (fs : List Frame) : Type 0 where
  pub f : Frame
  pub rest : List Frame
  pub frames : fs ≡ f ∷ rest
  pub shown : IsShown cs o f
  pub others : AreOthers o.children os
  pub below : AllShown cs os rest

pub top_of : (cs : List (Option Place)) (o : Open) (os : List Open) (fs : List Frame) → AllShown cs (o ∷ os) fs → Top cs o os fs
top_of cs o os [] h = absurd h
top_of cs o os (f ∷ fs) h = record { f = f; rest = fs; frames = refl; shown = h.0; others = h.1.0; below = h.1.1 }

apart_from : (o : Option ℕ) (os : List Open) (serial : ℕ) → AreOthers o os → o ≡ Some serial → AllApart os serial
apart_from None os serial h e = absurd cc
apart_from (Some s) os serial h e = let i : s ≡ serial = cc in subst (AllApart os) i h

seated_kept : (cs ds : List (Option Place)) (o : Option ℕ) (n passed : ℕ) → ((serial : ℕ) (c : Place) → cursor_at cs serial ≡ Some c → o ≡ Some serial → cursor_at ds serial ≡ Some c) → IsSeated cs o n passed → IsSeated ds o n passed
seated_kept cs ds None n passed k h = h
seated_kept cs ds (Some s) n passed k h = k s (record { container = n; passed = passed }) h refl

-- the cursors of the visits, and each is another than o's
abbrev AllSeated : (ℕ → Type 0) → List Open → Type 0
AllSeated P [] = Unit {0}
AllSeated P (o ∷ os) = ((serial : ℕ) → o.children ≡ Some serial → P serial) × AllSeated P os

others_seated : (s : ℕ) (os : List Open) → AllApart os s → AllSeated (λ t. s ≢ t) os
others_seated s [] h = tt
others_seated s (o ∷ os) h = (λ t e. λ i. subst (λ q. Apart q s) e h.0 (sym i), others_seated s os h.1)

all_seated : (os : List Open) → AllSeated (λ t. Unit {0}) os
all_seated [] = tt
all_seated (o ∷ os) = (λ t e. tt, all_seated os)

-- the visits are shown as before where their cursors stay
pub shown_kept : (cs ds : List (Option Place)) (P : ℕ → Type 0) → ((serial : ℕ) (c : Place) → cursor_at cs serial ≡ Some c → P serial → cursor_at ds serial ≡ Some c) → (os : List Open) (fs : List Frame) → AllSeated P os → AllShown cs os fs → AllShown ds os fs
shown_kept cs ds P k [] [] a h = tt
shown_kept cs ds P k [] (f ∷ fs) a h = absurd h
shown_kept cs ds P k (o ∷ os) [] a h = absurd h
shown_kept cs ds P k (o ∷ os) (f ∷ fs) a h = (record { node = h.0.node; enter = h.0.enter; exit = h.0.exit; seat = seated_kept cs ds o.children o.node f.passed (λ t c e i. k t c e (a.0 t i)) h.0.seat }, (h.1.0, shown_kept cs ds P k os fs a.1 h.1.1))

-- visits whose cursors are others than the cursor of the innermost stay shown where all others stay
pub below_kept : (cs ds : List (Option Place)) (o : Option ℕ) (os : List Open) (fs : List Frame) → AreOthers o os → ((serial : ℕ) (c : Place) → cursor_at cs serial ≡ Some c → Apart o serial → cursor_at ds serial ≡ Some c) → AllShown cs os fs → AllShown ds os fs
below_kept cs ds None os fs a k h = shown_kept cs ds (λ t. Unit {0}) (λ t c e u. k t c e tt) os fs (all_seated os) h
below_kept cs ds (Some s) os fs a k h = shown_kept cs ds (λ t. s ≢ t) k os fs (others_seated s os a) h

-- a cursor that no open visit had is another than those of the visits
pub all_others : (cs : List (Option Place)) (o new : Option ℕ) → ((serial : ℕ) (c : Place) → cursor_at cs serial ≡ Some c → Apart o serial → Apart new serial) → (os : List Open) (fs : List Frame) → AreOthers o os → AllShown cs os fs → AreOthers new os
all_others cs o None k os fs a h = tt
all_others cs o (Some n) k [] [] a h = tt
all_others cs o (Some n) k [] (f ∷ fs) a h = absurd h
all_others cs o (Some n) k (p ∷ os) [] a h = absurd h
all_others cs o (Some n) k (p ∷ os) (f ∷ fs) a h = (this p.children h.0.seat (first o a), all_others cs o (Some n) k os fs (later o a) h.1.1)
  where
    this : (q : Option ℕ) → IsSeated cs q p.node f.passed → ((s : ℕ) → q ≡ Some s → Apart o s) → Apart q n
    this None e b = tt
    this (Some s) e b = λ i. k s (record { container = p.node; passed = f.passed }) e (b s refl) (sym i)

    first : (o : Option ℕ) → AreOthers o (p ∷ os) → (s : ℕ) → p.children ≡ Some s → Apart o s
    first None b s e = tt
    first (Some t) b s e = λ i. subst (λ q. Apart q t) e b.0 (sym i)

    later : (o : Option ℕ) → AreOthers o (p ∷ os) → AreOthers o os
    later None b = tt
    later (Some t) b = b.1

pub no_ok : {A E : Type 0} (P : A → Type 0) (r : Result A E) → IsErr r → IfOk r P
no_ok P (Ok a) h = absurd (false≢true h)
no_ok P (Err e) h = tt

-- the group of an event is the machine's list
pub grouped : (hooks : RunHooks) (hs : List PickedHook) (xs : List RunHook) (e d : Event) → IsGrouped hooks hs → xs ≡ group_of hooks e → e ≡ d → shown_hooks xs ≡ hooks_at d hs
grouped hooks hs xs e d g i j = ap shown_hooks (i ∙ ap (group_of hooks) j) ∙ g d

-- the cursor of the visit stays as it is
pub same_seat : (f : Forest) (old : Option ℕ) (n passed : ℕ) → IsSeated f.cursors old n passed → Reseats f f old old n passed
same_seat f old n passed s = record {
  same = record { text = refl; nodes = refl; log = refl };
  count = refl;
  kept = λ serial c e a. (e, a);
  seat = s;
}

first_none : (o : Option (ℕ × ℕ)) → None ≡ first_of o → o ≡ None
first_none None e = refl
first_none (Some x) e = absurd cc

first_some : (m : ℕ) (o : Option (ℕ × ℕ)) → Some m ≡ first_of o → (x : ℕ × ℕ) × (o ≡ Some x) × (x.0 ≡ m)
first_some m None e = absurd cc
first_some m (Some x) e = (x, refl, cc)

module _ (hs : List PickedHook) (most : ℕ) (f : Forest) (o : Open) (os : List Open) (s : State) (pass : IsPass hs s.stage) (w : Shows f (o ∷ os) s) where
  abbrev pub top : Top f.cursors o os s.frames
  top = top_of f.cursors o os s.frames w.frames

  abbrev pub passed_now : ℕ
  passed_now = top.f.passed

  pub seat_now : IsSeated f.cursors o.children o.node passed_now
  seat_now = top.shown.seat

  pub sure_now : (edits : ℕ) → s.edits ≡ edits → IsSure f.nodes edits o
  sure_now edits q = subst (λ k. IsSure f.nodes k o) q w.sure.0

  turned : turn hs s ≡ in_tree_at hs f.nodes top.f (holds f.nodes 0 o.node)
  turned = pass s.nodes s.frames ∙ (ap (λ l. walking hs s.nodes l) top.frames ∙ (ap (λ x. in_tree_at hs x top.f (holds x 0 top.f.node)) w.nodes ∙ ap (λ n. in_tree_at hs f.nodes top.f (holds f.nodes 0 n)) top.shown.node))

  pub leaves_out : holds f.nodes 0 o.node ≡ false → turn hs s ≡ ToLeave o.node
  leaves_out h = turned ∙ (ap (in_tree_at hs f.nodes top.f) h ∙ ap (λ n. ToLeave n) top.shown.node)

  abbrev pub next_enter : Option (PickedHook × ℕ)
  next_enter = through (fits (key_at f.nodes o.node)) (drop o.enter (enters hs (kind_at f.nodes o.node)))

  abbrev pub next_exit : Option (PickedHook × ℕ)
  next_exit = through (fits (key_at f.nodes o.node)) (drop o.exit (exits hs (kind_at f.nodes o.node)))

  in_it : holds f.nodes 0 o.node ≡ true → turn hs s ≡ at_enter hs f.nodes top.f next_enter
  in_it h = turned ∙ (ap (in_tree_at hs f.nodes top.f) h ∙ (ap (λ n. at_enter hs f.nodes top.f (through (fits (key_at f.nodes n)) (drop top.f.enter (enters hs (kind_at f.nodes n))))) top.shown.node ∙ ap (λ k. at_enter hs f.nodes top.f (through (fits (key_at f.nodes o.node)) (drop k (enters hs (kind_at f.nodes o.node))))) top.shown.enter))

  pub due_enter : (x : PickedHook × ℕ) (k : ℕ) → holds f.nodes 0 o.node ≡ true → next_enter ≡ Some x → o.enter + x.1 ≡ k → turn hs s ≡ ToEnterHook o.node x.0 k
  due_enter x k h e i = in_it h ∙ (ap (at_enter hs f.nodes top.f) e ∙ (ap (λ n. ToEnterHook n x.0 (top.f.enter + x.1)) top.shown.node ∙ ap (λ m. ToEnterHook o.node x.0 m) (ap (λ m. m + x.1) top.shown.enter ∙ i)))

  past_enter : holds f.nodes 0 o.node ≡ true → next_enter ≡ None → turn hs s ≡ at_child hs f.nodes top.f (due_child f.nodes o.node passed_now)
  past_enter h e = in_it h ∙ (ap (at_enter hs f.nodes top.f) e ∙ ap (λ n. at_child hs f.nodes top.f (due_child f.nodes n passed_now)) top.shown.node)

  pub due_child_now : (x : ℕ × ℕ) → holds f.nodes 0 o.node ≡ true → next_enter ≡ None → due_child f.nodes o.node passed_now ≡ Some x → turn hs s ≡ ToChild x.0 (passed_now + x.1)
  due_child_now x h e d = past_enter h e ∙ ap (at_child hs f.nodes top.f) d

  past_child : holds f.nodes 0 o.node ≡ true → next_enter ≡ None → due_child f.nodes o.node passed_now ≡ None → turn hs s ≡ at_exit top.f next_exit
  past_child h e d = past_enter h e ∙ (ap (at_child hs f.nodes top.f) d ∙ (ap (λ n. at_exit top.f (through (fits (key_at f.nodes n)) (drop top.f.exit (exits hs (kind_at f.nodes n))))) top.shown.node ∙ ap (λ k. at_exit top.f (through (fits (key_at f.nodes o.node)) (drop k (exits hs (kind_at f.nodes o.node))))) top.shown.exit))

  pub due_exit : (x : PickedHook × ℕ) (k : ℕ) → holds f.nodes 0 o.node ≡ true → next_enter ≡ None → due_child f.nodes o.node passed_now ≡ None → next_exit ≡ Some x → o.exit + x.1 ≡ k → turn hs s ≡ ToExitHook o.node x.0 k
  due_exit x k h e d j i = past_child h e d ∙ (ap (at_exit top.f) j ∙ (ap (λ n. ToExitHook n x.0 (top.f.exit + x.1)) top.shown.node ∙ ap (λ m. ToExitHook o.node x.0 m) (ap (λ m. m + x.1) top.shown.exit ∙ i)))

  pub leaves_whole : holds f.nodes 0 o.node ≡ true → next_enter ≡ None → due_child f.nodes o.node passed_now ≡ None → next_exit ≡ None → turn hs s ≡ ToLeave o.node
  leaves_whole h e d j = past_child h e d ∙ (ap (at_exit top.f) j ∙ ap (λ n. ToLeave n) top.shown.node)

  -- cursors beside those of the visits stay where the innermost is given another cursor
  kept_by : (h : Forest) (new : Option ℕ) (passed : ℕ) → Reseats f h o.children new o.node passed → (serial : ℕ) (c : Place) → cursor_at f.cursors serial ≡ Some c → AllApart (o ∷ os) serial → cursor_at h.cursors serial ≡ Some c
  kept_by h new passed r serial c e a = (r.kept serial c e a.0).0

  pub below_still : (h : Forest) (new : Option ℕ) (passed : ℕ) → Reseats f h o.children new o.node passed → AllShown h.cursors os top.rest
  below_still h new passed r = below_kept f.cursors h.cursors o.children os top.rest top.others (λ serial c e a. (r.kept serial c e a).0) top.below

  pub others_still : (h : Forest) (new : Option ℕ) (passed : ℕ) → Reseats f h o.children new o.node passed → AreOthers new os
  others_still h new passed r = all_others f.cursors o.children new (λ serial c e a. (r.kept serial c e a).1) os top.rest top.others top.below

  pub strolls_not : (h : Forest) (new : Option ℕ) (passed : ℕ) → Reseats f h o.children new o.node passed → Strolls hs most f (o ∷ os) s h
  strolls_not h new passed r = stayed hs most f h (o ∷ os) s w.nodes r.same (kept_by h new passed r)

  pub leave_fails : (h g : Forest) (p : Open) (passed : ℕ) (e : AllocError) → Reseats f h o.children p.children o.node passed → Leaves h g p (Err e) → Strolls hs most f (o ∷ os) s g
  leave_fails h g p passed e r l = stayed hs most f g (o ∷ os) s w.nodes (record { text = l.text ∙ r.same.text; nodes = l.nodes ∙ r.same.nodes; log = l.log ∙ r.same.log }) (λ serial c i a. let k = r.kept serial c i a.0 in l.kept serial k.1 ∙ k.0)

  pub left : (h g : Forest) (p : Open) (passed : ℕ) → Reseats f h o.children p.children o.node passed → p.node ≡ o.node → turn hs s ≡ ToLeave o.node → Leaves h g p (Ok tt) → (x : Strolls hs most f (o ∷ os) s g) × Turned hs f g (o ∷ os) os s x.state None
  left h g p passed r n e l = (
    moved_on hs most f g (o ∷ os) s (ToLeave o.node) (I.Leave o.node) w.free e refl tt refl (l.text ∙ r.same.text) (l.log ∙ (ap (λ k. h.log ++ I.Leave k ∷ []) n ∙ ap (λ x. x ++ I.Leave o.node ∷ []) r.same.log)) (l.nodes ∙ (r.same.nodes ∙ sym w.nodes)) (λ serial c i a. let k = r.kept serial c i a.0 in l.kept serial k.1 ∙ k.0),
    (
      record {
        nodes = w.nodes ∙ sym (l.nodes ∙ r.same.nodes);
        free = w.free;
        frames = subst (λ fs. AllShown g.cursors os (outer fs)) (sym top.frames) (below_kept h.cursors g.cursors p.children os top.rest (others_still h p.children passed r) (λ serial c i a. l.kept serial a ∙ i) (below_still h p.children passed r));
        sure = subst (λ ns. AllSure ns s.edits os) (sym (l.nodes ∙ r.same.nodes)) w.sure.1;
      },
      (record { apart = λ serial c i a. a.1; count = let i : open_total g.cursors + held_by p.children ≡ open_total h.cursors + 0 = l.count o.node passed r.seat in let j : open_total h.cursors + held_by o.children ≡ open_total f.cursors + held_by p.children = r.count in let k : open_total g.cursors + (held_by o.children + held os) ≡ open_total f.cursors + held os = omega arith in k }, refl),
    ),
  )

  pub enter_due : (edits : ℕ) (next : Next) (x : PickedHook × ℕ) → s.edits ≡ edits → IsInTree f.nodes o.node → turn hs s ≡ ToEnterHook o.node x.0 next.behind → called o.node x.0 ≡ I.Call next.due.plugin next.due.hook next.due.moment
      → (y : Strolls hs most f (o ∷ os) s f) × Turned hs f f (o ∷ os) (record o { enter = next.behind; sure = edits } ∷ os) s y.state (Some next.due)
  unfolding strolls_not
  enter_due edits next x q t e i = (
    strolls_not f o.children passed_now (same_seat f o.children o.node passed_now seat_now),
    (
      record {
        item = ap item_of e ∙ ap Some i;
        before = w.nodes;
        free = w.free;
        calling = ap (λ m. (done hs s m).calling) e;
        nodes = ap (λ m. (done hs s m).nodes) e ∙ w.nodes;
        frames = subst (λ m. AllShown f.cursors (record o { enter = next.behind; sure = edits } ∷ os) (done hs s m).frames) (sym e)
            (subst (λ fs. AllShown f.cursors (record o { enter = next.behind; sure = edits } ∷ os) (calling_enter (called o.node x.0) next.behind fs)) (sym top.frames)
            (record { node = top.shown.node; enter = refl; exit = top.shown.exit; seat = top.shown.seat }, (top.others, top.below)));
        sure = (sure_from f.nodes s.edits (record o { enter = next.behind; sure = edits }) (sym q) t, w.sure.1);
      },
      (record { apart = λ serial c j a. a; count = refl }, ap (λ m. (done hs s m).stage) e),
    ),
  )

  pub exit_due : (h : Forest) (new : Option ℕ) (end edits : ℕ) (next : Next) (x : PickedHook × ℕ) → s.edits ≡ edits → IsInTree f.nodes o.node → Reseats f h o.children new o.node passed_now → end ≡ length (enters hs (kind_at f.nodes o.node)) → turn hs s ≡ ToExitHook o.node x.0 next.behind → called o.node x.0 ≡ I.Call next.due.plugin next.due.hook next.due.moment
      → (y : Strolls hs most f (o ∷ os) s h) × Turned hs f h (o ∷ os) (record { node = o.node; enter = end; exit = next.behind; children = new; sure = edits } ∷ os) s y.state (Some next.due)
  unfolding strolls_not
  exit_due h new end edits next x q t r l e i = (
    strolls_not h new passed_now r,
    (
      record {
        item = ap item_of e ∙ ap Some i;
        before = w.nodes ∙ sym r.same.nodes;
        free = w.free;
        calling = ap (λ m. (done hs s m).calling) e;
        nodes = ap (λ m. (done hs s m).nodes) e ∙ (w.nodes ∙ sym r.same.nodes);
        frames = subst (λ m. AllShown h.cursors (record { node = o.node; enter = end; exit = next.behind; children = new; sure = edits } ∷ os) (done hs s m).frames) (sym e)
            (subst (λ fs. AllShown h.cursors (record { node = o.node; enter = end; exit = next.behind; children = new; sure = edits } ∷ os) (calling_exit hs s.nodes (called o.node x.0) next.behind fs)) (sym top.frames)
            (record { node = top.shown.node; enter = ap (λ n. length (enters hs (kind_at s.nodes n))) top.shown.node ∙ (ap (λ ns. length (enters hs (kind_at ns o.node))) w.nodes ∙ sym l); exit = refl; seat = r.seat }, (others_still h new passed_now r, below_still h new passed_now r)));
        sure = subst (λ ns. AllSure ns s.edits (record { node = o.node; enter = end; exit = next.behind; children = new; sure = edits } ∷ os)) (sym r.same.nodes) (sure_from f.nodes s.edits (record { node = o.node; enter = end; exit = next.behind; children = new; sure = edits }) (sym q) t, w.sure.1);
      },
      (record { apart = λ serial c j a. ((r.kept serial c j a.0).1, a.1); count = let i : open_total h.cursors + held_by o.children ≡ open_total f.cursors + held_by new = r.count in let j : open_total h.cursors + (held_by o.children + held os) ≡ open_total f.cursors + (held_by new + held os) = omega arith in j }, ap (λ m. (done hs s m).stage) e),
    ),
  )

  pub enter_fails : (h g : Forest) (old more : List Open) (p : Open) (x : ℕ × ℕ) (passed : ℕ) (e : AllocError) → Reseats f h o.children p.children o.node passed → turn hs s ≡ ToChild x.0 (passed_now + x.1) → Enters h g old more p x.0 (Err e) → Strolls hs most f (o ∷ os) s g
  enter_fails h g old more p x passed e r i n =
      let kept : (serial : ℕ) (c : Place) → cursor_at f.cursors serial ≡ Some c → AllApart (o ∷ os) serial → cursor_at g.cursors serial ≡ Some c = λ serial c j a. ap (λ cs. cursor_at cs serial) n.cursors ∙ (r.kept serial c j a.0).0 in
      elim n.noted [
        | inl q ↦ stayed hs most f g (o ∷ os) s w.nodes (record { text = n.text ∙ r.same.text; nodes = q.0 ∙ r.same.nodes; log = q.1 ∙ r.same.log }) kept
        | inr q ↦ moved_on hs most f g (o ∷ os) s (ToChild x.0 (passed_now + x.1)) (I.Enter x.0) w.free i refl tt refl (n.text ∙ r.same.text) (q.1 ∙ ap (λ l. l ++ I.Enter x.0 ∷ []) r.same.log) (q.0 ∙ ap (λ ns. with_mark ns x.0 false) (r.same.nodes ∙ sym w.nodes)) kept
      ]

  pub entered : (h g : Forest) (old more : List Open) (new : Option ℕ) (end edits : ℕ) (x : ℕ × ℕ) → s.edits ≡ edits → IsInTree f.nodes o.node → IsInTree f.nodes x.0 → Reseats f h o.children new o.node (passed_now + x.1) → end ≡ length (enters hs (kind_at f.nodes o.node)) → turn hs s ≡ ToChild x.0 (passed_now + x.1) → os ≡ reverse old
      → Enters h g old more (record { node = o.node; enter = end; exit = o.exit; children = new; sure = edits }) x.0 (Ok tt) → (y : Strolls hs most f (o ∷ os) s g) × Turned hs f g (o ∷ os) (reverse more) s y.state None
  entered h g old more new end edits x q t tc r l e eo n =
      let p : Open = record { node = o.node; enter = end; exit = o.exit; children = new; sure = edits } in
      let ok = n.ok in
      let nodes : g.nodes ≡ with_mark s.nodes x.0 false = ok.0 ∙ ap (λ ns. with_mark ns x.0 false) (r.same.nodes ∙ sym w.nodes) in
      let back : reverse more ≡ fresh edits x.0 ∷ p ∷ os = ap reverse ok.2 ∙ (reverse_last (old ++ p ∷ []) (fresh edits x.0) ∙ (ap (λ l. fresh edits x.0 ∷ l) (reverse_last old p) ∙ ap (λ l. fresh edits x.0 ∷ p ∷ l) (sym eo))) in
      let shown : AllShown h.cursors (fresh edits x.0 ∷ p ∷ os) (new_frame x.0 s.count ∷ passing_on hs s.nodes (passed_now + x.1) s.frames) = (
        record { node = refl; enter = refl; exit = refl; seat = refl },
        (
          tt,
          subst (λ fs. AllShown h.cursors (p ∷ os) (passing_on hs s.nodes (passed_now + x.1) fs)) (sym top.frames)
              (record { node = top.shown.node; enter = ap (λ n. length (enters hs (kind_at s.nodes n))) top.shown.node ∙ (ap (λ ns. length (enters hs (kind_at ns o.node))) w.nodes ∙ sym l); exit = top.shown.exit; seat = r.seat }, (others_still h new (passed_now + x.1) r, below_still h new (passed_now + x.1) r)),
        ),
      ) in (
        moved_on hs most f g (o ∷ os) s (ToChild x.0 (passed_now + x.1)) (I.Enter x.0) w.free e refl tt refl (n.text ∙ r.same.text) (ok.1 ∙ ap (λ l. l ++ I.Enter x.0 ∷ []) r.same.log) nodes (λ serial c j a. ap (λ cs. cursor_at cs serial) n.cursors ∙ (r.kept serial c j a.0).0),
        (
          record {
            nodes = sym nodes;
            free = w.free;
            frames = subst (λ us. AllShown g.cursors us (new_frame x.0 s.count ∷ passing_on hs s.nodes (passed_now + x.1) s.frames)) (sym back) (subst (λ cs. AllShown cs (fresh edits x.0 ∷ p ∷ os) (new_frame x.0 s.count ∷ passing_on hs s.nodes (passed_now + x.1) s.frames)) (sym n.cursors) shown);
            sure = subst (λ us. AllSure g.nodes s.edits us) (sym back) (subst (λ ns. AllSure ns s.edits (fresh edits x.0 ∷ p ∷ os)) (sym nodes) (sure_marked s.nodes x.0 s.edits (fresh edits x.0 ∷ p ∷ os) (subst (λ ns. AllSure ns s.edits (fresh edits x.0 ∷ p ∷ os)) (sym w.nodes) (sure_from f.nodes s.edits (fresh edits x.0) (sym q) tc, (sure_from f.nodes s.edits p (sym q) t, w.sure.1)))));
          },
          (
            record {
              apart = λ serial c j a. subst (λ us. AllApart us serial) (sym back) (tt, ((r.kept serial c j a.0).1, a.1));
              count =
                  let i : held (reverse more) ≡ 0 + (held_by new + held os) = ap held back in
                  let j : open_total g.cursors ≡ open_total h.cursors = ap open_total n.cursors in
                  let k : open_total h.cursors + held_by o.children ≡ open_total f.cursors + held_by new = r.count in
                  let l : open_total g.cursors + (held_by o.children + held os) ≡ open_total f.cursors + held (reverse more) = omega arith in
                  l;
            },
            refl,
          ),
        ),
      )

  -- no dirty child is left
  pub gone_on : (h1 h : Forest) (new : Option ℕ) → Opened f h1 o.node o.children (Ok new) → NextDirty h1 h new None → (due_child f.nodes o.node passed_now ≡ None) × Reseats f h o.children new o.node passed_now
  gone_on h1 h new a b =
      let r = reseated f h1 h o.node o.children new None passed_now a b seat_now in
      let d = first_none (due_child f.nodes o.node passed_now) r.0 in
      (d, subst (λ x. Reseats f h o.children new o.node (passed_with passed_now x)) d r.1)

  came_to : (h1 h : Forest) (new : Option ℕ) (child : ℕ) → Opened f h1 o.node o.children (Ok new) → NextDirty h1 h new (Some child) → (x : ℕ × ℕ) × (due_child f.nodes o.node passed_now ≡ Some x) × (x.0 ≡ child) × Reseats f h o.children new o.node (passed_now + x.1)
  came_to h1 h new child a b =
      let r = reseated f h1 h o.node o.children new (Some child) passed_now a b seat_now in
      let d = first_some child (due_child f.nodes o.node passed_now) r.0 in
      (d.0, d.1, d.2, subst (λ x. Reseats f h o.children new o.node (passed_with passed_now x)) d.1 r.1)

  pub child_entered : (h1 h g : Forest) (old more : List Open) (new : Option ℕ) (end child edits : ℕ) → s.edits ≡ edits → IsSound f.nodes → IsInTree f.nodes o.node → next_enter ≡ None → Opened f h1 o.node o.children (Ok new) → NextDirty h1 h new (Some child) → end ≡ length (enters hs (kind_at f.nodes o.node)) → os ≡ reverse old
      → Enters h g old more (record { node = o.node; enter = end; exit = o.exit; children = new; sure = edits }) child (Ok tt) → (y : Strolls hs most f (o ∷ os) s g) × Turned hs f g (o ∷ os) (reverse more) s y.state None
  child_entered h1 h g old more new end child edits q sound t e a b l eo n =
      let x = came_to h1 h new child a b in
      entered h g old more new end edits x.0 q t (child_there f.nodes o.node passed_now x.0 sound x.1 t) x.3 l (due_child_now x.0 t.1 e x.1) eo (subst (λ m. Enters h g old more (record { node = o.node; enter = end; exit = o.exit; children = new; sure = edits }) m (Ok tt)) (sym x.2) n)

  pub child_fails : (h1 h g : Forest) (old more : List Open) (new : Option ℕ) (end child edits : ℕ) (err : AllocError) → holds f.nodes 0 o.node ≡ true → next_enter ≡ None → Opened f h1 o.node o.children (Ok new) → NextDirty h1 h new (Some child)
      → Enters h g old more (record { node = o.node; enter = end; exit = o.exit; children = new; sure = edits }) child (Err err) → Strolls hs most f (o ∷ os) s g
  child_fails h1 h g old more new end child edits err ho e a b n =
      let x = came_to h1 h new child a b in
      let p : Open = record { node = o.node; enter = end; exit = o.exit; children = new; sure = edits } in
      enter_fails h g old more p x.0 (passed_now + x.0.1) err x.3 (due_child_now x.0 ho e x.1) (subst (λ m. Enters h g old more p m (Err err)) (sym x.2) n)

  pub open_fails : (h : Forest) (err : AllocError) → Opened f h o.node o.children (Err err) → Strolls hs most f (o ∷ os) s h
  open_fails h err a = stayed hs most f h (o ∷ os) s w.nodes a.same (λ serial c e k. (a.kept serial c e k.0).0)

pub restacked : {hs : List PickedHook} {most : ℕ} {f g : Forest} {os us vs : List Open} {s : State} (r : Option Due) → vs ≡ us → (y : Strolls hs most f os s g) × Turned hs f g os us s y.state r → (y : Strolls hs most f os s g) × Turned hs f g os vs s y.state r
restacked {hs} {most} {f} {g} {os} {us} {vs} {s} r e h = subst (λ l. (y : Strolls hs most f os s g) × Turned hs f g os l s y.state r) (sym e) h

pub pushed_back : (old new : List Open) (p : Open) → new ≡ old ++ p ∷ [] → reverse new ≡ p ∷ reverse old
pushed_back old new p e = ap reverse e ∙ reverse_last old p

-- the first hook that fits, of the group and of the machine's list
pub searched : (ns ms : List Node) (n from : ℕ) (xs ys : List PickedHook) (r : Option (PickedHook × ℕ)) → ms ≡ ns → xs ≡ ys → through (fits (key_at ms n)) (drop from xs) ≡ r → through (fits (key_at ns n)) (drop from ys) ≡ r
searched ns ms n from xs ys r e i h = ap (λ ns. through (fits (key_at ns n)) (drop from ys)) (sym e) ∙ (ap (λ l. through (fits (key_at ms n)) (drop from l)) (sym i) ∙ h)

shown_length : (xs : List RunHook) → length (shown_hooks xs) ≡ length xs
shown_length [] = refl
shown_length (x ∷ xs) = ap suc (shown_length xs)

pub group_end : (xs : List RunHook) (ys : List PickedHook) → shown_hooks xs ≡ ys → length xs ≡ length ys
group_end xs ys e = sym (shown_length xs) ∙ ap length e

one_dirty : (b : Bool) → b ≡ true → cond {A = ℕ} b 1 0 ≡ 1
one_dirty b e = let f : Bool → ℕ = λ c. cond c 1 0 in ap f e

-- an entered node is one dirty node less
pub dirty_less : (ns : List Node) (m : ℕ) → is_dirty ns m ≡ true → suc (dirty_total (with_mark ns m false)) ≡ dirty_total ns
dirty_less ns m d =
    let f : Node → ℕ = λ y. cond y.dirty 1 0 in
    let i : sum_by f (with_mark ns m false) + f (node_at ns m) ≡ sum_by f ns + 0 = sum_by-set f ns m (record (node_at ns m) { dirty = false }) no_node (dirty-inside ns m d) in
    let j : f (node_at ns m) ≡ 1 = one_dirty (is_dirty ns m) d in
    omega arith

pub less_entered : (f h g : Forest) (old more : List Open) (p : Open) (child : ℕ) → dirty_total h.nodes ≤ dirty_total f.nodes → is_dirty h.nodes child ≡ true → Enters h g old more p child (Ok tt) → IsLess f g old more None
less_entered f h g old more p child k dirty n =
    let i : dirty_total g.nodes ≡ dirty_total (with_mark h.nodes child false) = ap dirty_total n.ok.0 in
    let d : suc (dirty_total (with_mark h.nodes child false)) ≡ dirty_total h.nodes = dirty_less h.nodes child dirty in
    let l : length more ≡ length ((old ++ p ∷ []) ++ fresh p.sure child ∷ []) = ap length n.ok.2 in
    let q : length ((old ++ p ∷ []) ++ fresh p.sure child ∷ []) ≡ length (old ++ p ∷ []) + 1 = length-append (old ++ p ∷ []) (fresh p.sure child ∷ []) in
    let r : length (old ++ p ∷ []) ≡ length old + 1 = length-append old (p ∷ []) in
    (omega arith, omega arith)
