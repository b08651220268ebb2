-- Turn after turn, and pass after pass.
use Rattle.std.proofs.Common.{◌≡◌, ℕ, suc, ◌+◌, List, [], ◌∷◌, ◌++◌, true, false, length, Option, Some, None, refl, ap, sym, ◌∙◌, subst, reverse, append_assoc, arith, ◌≤◌, ◌<◌, length-append}
use Rattle.std.proofs.lemmas.List.{length-reverse}
use Rattle.node_rows.specs.Nodes.{is_dirty}
use Rattle.node_rows.specs.Marks.{with_mark}
use Rattle.node_store.specs.declared.item.Item.{Item}
use Rattle.node_store.specs.declared.item.Item.TheVariants as I
use Rattle.node_store.specs.Forest.{Forest, Place, cursor_at, unreserved}
use Rattle.node_store.specs.Edits.{noted}
use Rattle.visitor_machine.specs.Hooks.{PickedHook}
use Rattle.visitor_machine.specs.Machine.{Frame, State, Stage, Walking, ToPass, ToRoot, walking, at_rest, turn, new_frame}
use Rattle.visitor_machine.proofs.Turns.{follow_append}
use Rattle.visitor_machine.specs.Settled.{IsInTree}
use Rattle.visitor_walk.specs.declared.turn.Open.{Open}
use Rattle.visitor_walk.specs.declared.turn.Due.{Due}
use Rattle.plugin_api.specs.Open.{open_total}
use Rattle.visitor_walk.specs.Turns.{held, AllApart, AllShown, AllSure, Shows, IsPass, IsPlain, Strolls, StayApart, Turned, Advanced, Began, Passed, fresh, nodes_through}
use Rattle.visitor_walk.proofs.Chunks.{through-append}
use Rattle.visitor_walk.proofs.Sure.{sure_from, root_there, there_marked}
use Rattle.visitor_walk.proofs.Turning.{stayed, moved_on}

pub plain-append : (xs ys : List Item) → IsPlain xs → IsPlain ys → IsPlain (xs ++ ys)
plain-append [] ys h k = k
plain-append (I.Pass ∷ xs) ys h k = plain-append xs ys h k
plain-append (I.Enter n ∷ xs) ys h k = plain-append xs ys h k
plain-append (I.Leave n ∷ xs) ys h k = plain-append xs ys h k
plain-append (I.End ∷ xs) ys h k = plain-append xs ys h k
plain-append (I.Call p n m ∷ xs) ys h k = absurd h
plain-append (I.Edit e ∷ xs) ys h k = absurd h
plain-append (I.Back o ∷ xs) ys h k = absurd h

-- cursors that were not of the visits are not of them now
abbrev AreApart : Forest → List Open → List Open → Type 0
AreApart f os us = (serial : ℕ) (c : Place) → cursor_at f.cursors serial ≡ Some c → AllApart os serial → AllApart us serial

-- one stroll after another
abbrev pub then : {hs : List PickedHook} {most : ℕ} {f g h : Forest} {os us : List Open} {s : State} → (w : Strolls hs most f os s g) → AreApart f os us → (v : Strolls hs most g us w.state h) → Strolls hs most f os s h
then {hs} {most} {f} {g} {h} {os} {us} {s} w apart v = record {
  items = w.items ++ v.items;
  state = v.state;
  run = follow_append hs most s w.state w.items v.items w.run ∙ v.run;
  plain = plain-append w.items v.items w.plain v.plain;
  text = v.text ∙ w.text;
  log = v.log ∙ (ap (λ l. l ++ v.items) w.log ∙ append_assoc f.log w.items v.items);
  nodes = v.nodes;
  through = v.through ∙ (ap (λ ns. nodes_through ns v.items) w.through ∙ sym (through-append s.nodes w.items v.items));
  edits = v.edits ∙ w.edits;
  kept = λ serial c e a. v.kept serial c (w.kept serial c e a) (apart serial c e a);
}

-- what has been so far: the code stands where the machine does
abbrev pub Stood : List PickedHook → ℕ → Forest → List Open → State → Forest → List Open → Type 0
Stood hs most f os s g us = (w : Strolls hs most f os s g) × (Shows g us w.state × (StayApart f g os us × IsPass hs w.state.stage))

pub at_first : (hs : List PickedHook) (most : ℕ) (f : Forest) (os : List Open) (s : State) → IsPass hs s.stage → Shows f os s → Stood hs most f os s f os
at_first hs most f os s p w = (stayed hs most f f os s w.nodes (record { text = refl; nodes = refl; log = refl }) (λ serial c e a. e), (w, (record { apart = λ serial c e a. a; count = refl }, p)))

-- the visits have another name
pub renamed : (hs : List PickedHook) (most : ℕ) (f g : Forest) (os us vs : List Open) (s : State) → vs ≡ us → Stood hs most f os s g us → Stood hs most f os s g vs
renamed hs most f g os us vs s e h = subst (Stood hs most f os s g) (sym e) h

pub same_pass : (hs : List PickedHook) (a b : Stage) → a ≡ b → IsPass hs b → IsPass hs a
same_pass hs a b e p = subst (IsPass hs) (sym e) p

pub kept_apart : {hs : List PickedHook} {most : ℕ} {f g h : Forest} {os : List Open} {s : State} (us vs : List Open) → (w : Strolls hs most f os s g) → StayApart f g os us → StayApart g h us vs → StayApart f h os vs
kept_apart {f = f} {g = g} {h = h} {os = os} us vs w a b = record {
  apart = λ serial c e k. b.apart serial c (w.kept serial c e k) (a.apart serial c e k);
  count = let i : open_total g.cursors + held os ≡ open_total f.cursors + held us = a.count in let j : open_total h.cursors + held us ≡ open_total g.cursors + held vs = b.count in let k : open_total h.cursors + held os ≡ open_total f.cursors + held vs = omega arith in k;
}

-- a turn after what has been so far
module _ (hs : List PickedHook) (most : ℕ) (f g h : Forest) (os us vs : List Open) (s : State) (t : Stood hs most f os s g us) where
  pub turned_on : (v : Strolls hs most g us t.0.state h) × Turned hs g h us vs t.0.state v.state None → Stood hs most f os s h vs
  turned_on v = (then t.0 t.1.1.0.apart v.0, (v.1.0, (kept_apart us vs t.0 t.1.1.0 v.1.1.0, same_pass hs _ _ v.1.1.1 t.1.1.1)))

  pub turned_due : (due : Due) → (v : Strolls hs most g us t.0.state h) × Turned hs g h us vs t.0.state v.state (Some due) → (x : Strolls hs most f os s h) × Advanced hs f h os vs x.state (Some due)
  turned_due due v = (then t.0 t.1.1.0.apart v.0, (v.1.0, (kept_apart us vs t.0 t.1.1.0 v.1.1.0, same_pass hs _ _ v.1.1.1 t.1.1.1)))

  pub strolled_on : Strolls hs most g us t.0.state h → Strolls hs most f os s h
  strolled_on v = then t.0 t.1.1.0.apart v

  pub advanced_due : (due : Due) → (v : Strolls hs most g us t.0.state h) × Advanced hs g h us vs v.state (Some due) → (x : Strolls hs most f os s h) × Passed hs f h os vs x.state (Some due)
  advanced_due due v = (then t.0 t.1.1.0.apart v.0, (v.1.0, (kept_apart us vs t.0 t.1.1.0 v.1.1.0, v.1.1.1)))

  pub advanced_none : (v : Strolls hs most g us t.0.state h) × Advanced hs g h us vs v.state None → Stood hs most f os s h vs
  advanced_none v = (then t.0 t.1.1.0.apart v.0, (v.1.0, (kept_apart us vs t.0 t.1.1.0 v.1.1.0, v.1.1.1.0)))

pub all_left : (hs : List PickedHook) (most : ℕ) (f g : Forest) (os us : List Open) (s : State) → us ≡ [] → Stood hs most f os s g us → (x : Strolls hs most f os s g) × Advanced hs f g os us x.state None
all_left hs most f g os us s e t = (t.0, (t.1.0, (t.1.1.0, (t.1.1.1, e))))

no_frames : (cs : List (Option Place)) (us : List Open) (fs : List Frame) → us ≡ [] → AllShown cs us fs → fs ≡ []
no_frames cs [] [] e h = refl
no_frames cs [] (f ∷ fs) e h = absurd h
no_frames cs (u ∷ us) fs e h = absurd cc

-- with no visit open the root decides
pub at_root : (hs : List PickedHook) (g : Forest) (us : List Open) (t : State) → us ≡ [] → IsPass hs t.stage → Shows g us t → turn hs t ≡ at_rest hs (is_dirty g.nodes 0)
at_root hs g us t e p w = p t.nodes t.frames ∙ (ap (λ fs. walking hs t.nodes fs) (no_frames g.cursors us t.frames e w.frames) ∙ ap (λ ns. at_rest hs (is_dirty ns 0)) w.nodes)

pub over : (hs : List PickedHook) (most : ℕ) (f g : Forest) (os us : List Open) (s : State) → us ≡ [] → is_dirty g.nodes 0 ≡ false → Stood hs most f os s g us → (x : Strolls hs most f os s g) × Passed hs f g os us x.state None
over hs most f g os us s e d t = (t.0, ((t.1.0, (t.1.1.0, (t.1.1.1, e))), at_root hs g us t.0.state e t.1.1.1 t.1.0 ∙ ap (at_rest hs) d))

walking_is : (hs : List PickedHook) → IsPass hs Walking
walking_is hs = λ ns fs. refl

pub begun : (hs : List PickedHook) (most : ℕ) (f g h : Forest) (os us vs : List Open) (s : State) → us ≡ [] → (t : Stood hs most f os s g us) → (v : Strolls hs most g [] t.0.state h) × Began hs g h vs v.state → Stood hs most f os s h vs
begun hs most f g h os us vs s e t v =
    let a : StayApart f g os [] = subst (StayApart f g os) e t.1.1.0 in
    (then t.0 a.apart v.0, (v.1.0, (kept_apart [] vs t.0 a v.1.1.1, v.1.1.0)))

pub shows_none : (g : Forest) (us : List Open) (t : State) → us ≡ [] → Shows g us t → Shows g [] t
shows_none g us t e w = subst (λ l. Shows g l t) e w

-- the Pass, where the root is dirty
module _ (hs : List PickedHook) (most : ℕ) (f : Forest) (s : State) (p : IsPass hs s.stage) (w : Shows f [] s) (d : is_dirty f.nodes 0 ≡ true) where
  due_pass : turn hs s ≡ ToPass
  due_pass = at_root hs f [] s refl p w ∙ ap (at_rest hs) d

  pub passed_in : (g : Forest) → unreserved g ≡ noted (unreserved f) I.Pass → Strolls hs most f [] s g
  passed_in g e = moved_on hs most f g [] s ToPass I.Pass w.free due_pass refl tt refl (ap (λ (x : Forest). x.text) e) (ap (λ (x : Forest). x.log) e) (ap (λ (x : Forest). x.nodes) e ∙ sym w.nodes) (λ serial c i a. ap (λ (x : Forest). cursor_at x.cursors serial) e ∙ i)

  pub root_in : (g h : Forest) → unreserved g ≡ noted (unreserved f) I.Pass → unreserved h ≡ noted (unreserved g) (I.Enter 0) → Strolls hs most f [] s h
  unfolding passed_in
  root_in g h e i =
      let a = passed_in g e in
      let b : Strolls hs most g [] a.state h = moved_on hs most g h [] a.state ToRoot (I.Enter 0) w.free refl refl tt refl (ap (λ (x : Forest). x.text) i) (ap (λ (x : Forest). x.log) i) (ap (λ (x : Forest). x.nodes) i ∙ ap (λ ns. with_mark ns 0 false) a.nodes) (λ serial c j k. ap (λ (x : Forest). cursor_at x.cursors serial) i ∙ j) in
      then a (λ serial c j k. tt) b

  pub root_began : (g h : Forest) (old more : List Open) (edits : ℕ) → s.edits ≡ edits → 0 < length f.nodes → old ≡ [] → more ≡ old ++ fresh edits 0 ∷ [] → (e : unreserved g ≡ noted (unreserved f) I.Pass) → (i : unreserved h ≡ noted (unreserved g) (I.Enter 0)) → (x : Strolls hs most f [] s h) × Began hs f h (reverse more) x.state
  unfolding root_in passed_in
  root_began g h old more edits q some eo em e i =
      let x = root_in g h e i in
      let none : s.frames ≡ [] = no_frames f.cursors [] s.frames refl w.frames in
      let back : reverse more ≡ fresh edits 0 ∷ [] = ap reverse (em ∙ ap (λ l. l ++ fresh edits 0 ∷ []) eo) in
      let there : IsInTree h.nodes 0 = subst (λ ns. IsInTree ns 0) (sym x.nodes) (there_marked s.nodes 0 0 (subst (λ ns. IsInTree ns 0) (sym w.nodes) (root_there f.nodes some))) in (
        x,
        (
          record {
            nodes = sym x.nodes;
            free = w.free;
            frames = subst (λ us. AllShown h.cursors us x.state.frames) (sym back) (subst (λ fs. AllShown h.cursors (fresh edits 0 ∷ []) (new_frame 0 (suc s.count) ∷ fs)) (sym none) (record { node = refl; enter = refl; exit = refl; seat = refl }, (tt, tt)));
            sure = subst (λ us. AllSure h.nodes s.edits us) (sym back) (sure_from h.nodes s.edits (fresh edits 0) (sym q) there, tt);
          },
          (
            walking_is hs,
            record {
              apart = λ serial c j k. subst (λ us. AllApart us serial) (sym back) (tt, tt);
              count =
                  let j : held (reverse more) ≡ 0 = ap held back in
                  let k : open_total g.cursors ≡ open_total f.cursors = ap (λ (y : Forest). open_total y.cursors) e in
                  let l : open_total h.cursors ≡ open_total g.cursors = ap (λ (y : Forest). open_total y.cursors) i in
                  let m : open_total h.cursors + 0 ≡ open_total f.cursors + held (reverse more) = omega arith in
                  m;
            },
          ),
        ),
      )

pub pass_fails : (hs : List PickedHook) (most : ℕ) (f g : Forest) (s : State) → Shows f [] s → unreserved g ≡ unreserved f → Strolls hs most f [] s g
pass_fails hs most f g s w e = stayed hs most f g [] s w.nodes (record { text = ap (λ (x : Forest). x.text) e; nodes = ap (λ (x : Forest). x.nodes) e; log = ap (λ (x : Forest). x.log) e }) (λ serial c i a. ap (λ (x : Forest). cursor_at x.cursors serial) e ∙ i)

pub reverse_nil : {A : Type 0} (xs : List A) → reverse xs ≡ [] → xs ≡ []
reverse_nil [] e = refl
reverse_nil (x ∷ xs) e = let i : length (reverse (x ∷ xs)) ≡ length (x ∷ xs) = length-reverse (x ∷ xs) in let j : length (reverse (x ∷ xs)) ≡ 0 = ap length e in absurd (omega arith)

pub empty_from : {A : Type 0} (xs : List A) → length xs ≡ 0 → xs ≡ []
empty_from [] e = refl
empty_from (x ∷ xs) e = absurd (omega arith)

pub begin_fails : (hs : List PickedHook) (most : ℕ) (f g h : Forest) (os us : List Open) (s : State) → (t : Stood hs most f os s g us) → Strolls hs most g [] t.0.state h → Strolls hs most f os s h
begin_fails hs most f g h os us s t v = then t.0 (λ serial c i k. tt) v

pub grows_noted : (f g : Forest) (i : Item) → unreserved g ≡ noted (unreserved f) i → length f.log ≤ length g.log
grows_noted f g i e = let a : length g.log ≡ length (f.log ++ i ∷ []) = ap (λ (x : Forest). length x.log) e in let b : length (f.log ++ i ∷ []) ≡ length f.log + 1 = length-append f.log (i ∷ []) in omega arith

pub grows_not : (f g : Forest) → unreserved g ≡ unreserved f → length f.log ≤ length g.log
grows_not f g e = let a : length g.log ≡ length f.log = ap (λ (x : Forest). length x.log) e in omega arith
