-- Every call of a run is one of a picked hook.
use Rattle.std.proofs.Common.{◌≡◌, ℕ, zero, suc, List, [], ◌∷◌, ◌++◌, Bool, true, false, Option, Some, None, refl, ap, sym, subst, cond, drop}
use Rattle.std.specs.Prelude.{filter, nat_eq, ◌&&◌, nat_lt, not}
use Rattle.std.specs.List.{All}
use Rattle.std.proofs.lemmas.Bool.{false≢true, and_parts}
use Rattle.std.proofs.lemmas.List.Elements.{All-head, All-tail}
use Rattle.node_rows.specs.Nodes.{Node, is_dirty, children_of, holds}
use Rattle.node_rows.proofs.Climb.{same_from_eqb}
use Rattle.node_store.specs.Cursors.{through, further}
use Rattle.node_store.specs.Edits.{can}
use Rattle.node_store.specs.declared.item.Event.{Event}
use Rattle.node_store.specs.declared.item.Event.TheVariants as E
use Rattle.node_store.specs.declared.item.Moment.{Moment}
use Rattle.node_store.specs.declared.item.Item.{Item}
use Rattle.node_store.specs.declared.item.Item.TheVariants as I
use Rattle.visitor_machine.specs.Hooks.{PickedHook, enters, exits, fits, is_at, is_filtered, hooks_at}
use Rattle.visitor_machine.specs.Machine.{called, kind_at, key_at, Frame, State, Stage, Opening, Walking, Passing, Closing, Ended, Stopped, Move, ToPass, ToRoot, ToChild, ToEnterHook, ToExitHook, ToOnce, ToOnceExit, ToLeave, ToEnd, Nothing, at_exit, at_child, at_enter, in_tree_at, closing, at_rest, walking, turn_in, turn, item_of, done}
use Rattle.visitor_machine.specs.Follow.{same_item, is_item, by_move, back, step, follow, start}
use Rattle.visitor_machine.proofs.Ends.{Each}
use Rattle.visitor_machine.proofs.Runs.{when_parts, by_move_parts, follow_parts}

each_kept : {A : Type 0} (P : A → Type 0) (test : A → Bool) (xs : List A) → Each P xs → Each P (filter test xs)
each_kept P test [] h = tt
each_kept P test (x ∷ xs) h = kept_by (test x) (each_kept P test xs h.1)
  where
    kept_by : (b : Bool) → Each P (filter test xs) → Each P (cond b (x ∷ filter test xs) (filter test xs))
    kept_by true k = (h.0, k)
    kept_by false k = k

pub each_append : {A : Type 0} (P : A → Type 0) (xs ys : List A) → Each P xs → Each P ys → Each P (xs ++ ys)
each_append P [] ys h g = g
each_append P (x ∷ xs) ys h g = (h.0, each_append P xs ys h.1 g)

each_drop : {A : Type 0} (P : A → Type 0) (xs : List A) (k : ℕ) → Each P xs → Each P (drop k xs)
each_drop P xs zero h = h
each_drop P [] (suc k) h = h
each_drop P (x ∷ xs) (suc k) h = each_drop P xs k h.1

through_by : {A : Type 0} (P : A → Type 0) (test : A → Bool) (x : A) (xs : List A) (p : A × ℕ) (b : Bool) (o : Option (A × ℕ)) → through test xs ≡ o → cond b (Some (x, 1)) (further o) ≡ Some p → P x → ((q : A × ℕ) → through test xs ≡ Some q → P q.0) → P p.0
through_by {A = A} P test x xs p true o f g h r = subst P (ap (λ q. elim q as (λ _. A) [ None ↦ x | Some r ↦ r.0 ]) g) h
through_by P test x xs p false None f g h r = absurd cc
through_by {A = A} P test x xs p false (Some q) f g h r = subst P (ap (λ r. elim r as (λ _. A) [ None ↦ x | Some t ↦ t.0 ]) g) (r q f)

each_through : {A : Type 0} (P : A → Type 0) (test : A → Bool) (xs : List A) (p : A × ℕ) → through test xs ≡ Some p → Each P xs → P p.0
each_through P test [] p e h = absurd cc
each_through P test (x ∷ xs) p e h = through_by P test x xs p (test x) (through test xs) refl e h.0 (λ q f. each_through P test xs q f h.1)

pub each_from_all : {A : Type 0} (P : A → Type 0) (xs : List A) → All P xs → Each P xs
each_from_all P [] h = tt
each_from_all P (x ∷ xs) h = (All-head P x xs h, each_from_all P xs (All-tail P x xs h))

-- what is true of the place of each picked hook is true of each call
module _ (P : ℕ → ℕ → Type 0) (hs : List PickedHook) (all : Each (λ h. P h.plugin h.hook) hs) where
  abbrev Q : PickedHook → Type 0
  Q h = P h.plugin h.hook

  -- the hooks still to be called are picked ones
  abbrev pub Stays : Stage → Type 0
  Stays (Opening l) = Each Q l
  Stays (Closing l) = Each Q l
  Stays _ = Unit {0}

  abbrev Fine : Move → Type 0
  Fine (ToEnterHook n h k) = Q h
  Fine (ToExitHook n h k) = Q h
  Fine (ToOnce h rest) = Q h × Each Q rest
  Fine (ToOnceExit h rest) = Q h × Each Q rest
  Fine _ = Unit {0}

  hooks_fine : (v : Event) → Each Q (hooks_at v hs)
  hooks_fine v = each_append Q (filter (λ h. is_at v h && not (is_filtered h)) hs) (filter (λ h. is_at v h && is_filtered h) hs) (each_kept Q _ hs all) (each_kept Q _ hs all)

  exit_fine : (ns : List Node) (f : Frame) (o : Option (PickedHook × ℕ)) → through (fits (key_at ns f.node)) (drop f.exit (exits hs (kind_at ns f.node))) ≡ o → Fine (at_exit f o)
  exit_fine ns f None e = tt
  exit_fine ns f (Some x) e = each_through Q _ (drop f.exit (exits hs (kind_at ns f.node))) x e (each_drop Q (exits hs (kind_at ns f.node)) f.exit (hooks_fine _))

  child_fine : (ns : List Node) (f : Frame) (o : Option (ℕ × ℕ)) → Fine (at_child hs ns f o)
  child_fine ns f None = exit_fine ns f (through (fits (key_at ns f.node)) (drop f.exit (exits hs (kind_at ns f.node)))) refl
  child_fine ns f (Some x) = tt

  enter_fine : (ns : List Node) (f : Frame) (o : Option (PickedHook × ℕ)) → through (fits (key_at ns f.node)) (drop f.enter (enters hs (kind_at ns f.node))) ≡ o → Fine (at_enter hs ns f o)
  enter_fine ns f None e = child_fine ns f (through (is_dirty ns) (drop f.passed (children_of ns f.node)))
  enter_fine ns f (Some x) e = each_through Q _ (drop f.enter (enters hs (kind_at ns f.node))) x e (each_drop Q (enters hs (kind_at ns f.node)) f.enter (hooks_fine _))

  tree_fine : (ns : List Node) (f : Frame) (b : Bool) → Fine (in_tree_at hs ns f b)
  tree_fine ns f false = tt
  tree_fine ns f true = enter_fine ns f (through (fits (key_at ns f.node)) (drop f.enter (enters hs (kind_at ns f.node)))) refl

  closing_fine : (l : List PickedHook) → Each Q l → Fine (closing l)
  closing_fine [] h = tt
  closing_fine (x ∷ l) h = h

  rest_fine : (b : Bool) → Fine (at_rest hs b)
  rest_fine true = tt
  rest_fine false = closing_fine (filter (is_at E.OnceExit) hs) (each_kept Q (is_at E.OnceExit) hs all)

  walking_fine : (ns : List Node) (fs : List Frame) → Fine (walking hs ns fs)
  walking_fine ns [] = rest_fine (is_dirty ns 0)
  walking_fine ns (f ∷ fs) = tree_fine ns f (holds ns 0 f.node)

  turn_fine : (ns : List Node) (fs : List Frame) (g : Stage) → Stays g → Fine (turn_in hs ns fs g)
  turn_fine ns fs (Opening []) h = walking_fine ns fs
  turn_fine ns fs (Opening (x ∷ l)) h = h
  turn_fine ns fs Walking h = walking_fine ns fs
  turn_fine ns fs Passing h = tt
  turn_fine ns fs (Closing l) h = closing_fine l h
  turn_fine ns fs Ended h = tt
  turn_fine ns fs Stopped h = tt

  done_stays : (s : State) (m : Move) → Fine m → Stays s.stage → Stays (done hs s m).stage
  done_stays s ToPass f h = tt
  done_stays s ToRoot f h = tt
  done_stays s (ToChild n k) f h = h
  done_stays s (ToEnterHook n x k) f h = h
  done_stays s (ToExitHook n x k) f h = h
  done_stays s (ToOnce x l) f h = f.1
  done_stays s (ToOnceExit x l) f h = f.1
  done_stays s (ToLeave n) f h = h
  done_stays s ToEnd f h = tt
  done_stays s Nothing f h = h

  stop_stays : (b : Bool) (g : Stage) → Stays g → Stays (cond b Stopped g)
  stop_stays true g h = tt
  stop_stays false g h = h

  back_stays : (most : ℕ) (s : State) (o : Option (List ℕ)) → Stays s.stage → Stays (back most s o).stage
  back_stays most s None h = stop_stays (nat_lt most s.edits) s.stage h
  back_stays most s (Some x) h = tt

  moved_stays : (s t : State) (i : Item) → Stays s.stage → by_move hs s i s.calling ≡ Some t → Stays t.stage
  moved_stays s t i h e = subst (λ u. Stays u.stage) (by_move_parts hs s i s.calling e).1 (done_stays s (turn hs s) (turn_fine s.nodes s.frames s.stage h) h)

  pub step_stays : (most : ℕ) (s t : State) (i : Item) → Stays s.stage → step hs most s i ≡ Some t → Stays t.stage
  step_stays most s t (I.Edit x) h e = subst (λ u. Stays u.stage) (when_parts (s.calling && can s.nodes x) e).1 h
  step_stays most s t (I.Back o) h e = subst (λ u. Stays u.stage) (when_parts s.calling e).1 (back_stays most s o h)
  step_stays most s t I.Pass h e = moved_stays s t I.Pass h e
  step_stays most s t (I.Enter n) h e = moved_stays s t (I.Enter n) h e
  step_stays most s t (I.Call p k m) h e = moved_stays s t (I.Call p k m) h e
  step_stays most s t (I.Leave n) h e = moved_stays s t (I.Leave n) h e
  step_stays most s t I.End h e = moved_stays s t I.End h e

  same_place : (p k : ℕ) (m : Moment) (n : ℕ) (x : PickedHook) → same_item (I.Call p k m) (called n x) ≡ true → Q x → P p k
  same_place p k m n x e h =
      let a = and_parts (nat_eq p x.plugin) _ e in
      let b = and_parts (nat_eq k x.hook) _ a.1 in
      subst (λ z. P z k) (sym (same_from_eqb p x.plugin a.0)) (subst (λ z. P x.plugin z) (sym (same_from_eqb k x.hook b.0)) h)

  move_place : (p k : ℕ) (m : Moment) (v : Move) → Fine v → is_item (I.Call p k m) (item_of v) ≡ true → P p k
  move_place p k m ToPass f e = absurd (false≢true e)
  move_place p k m ToRoot f e = absurd (false≢true e)
  move_place p k m (ToChild n j) f e = absurd (false≢true e)
  move_place p k m (ToEnterHook n x j) f e = same_place p k m n x e f
  move_place p k m (ToExitHook n x j) f e = same_place p k m n x e f
  move_place p k m (ToOnce x l) f e = same_place p k m 0 x e f.0
  move_place p k m (ToOnceExit x l) f e = same_place p k m 0 x e f.0
  move_place p k m (ToLeave n) f e = absurd (false≢true e)
  move_place p k m ToEnd f e = absurd (false≢true e)
  move_place p k m Nothing f e = absurd (false≢true e)

  pub call_place : (most : ℕ) (s t : State) (p k : ℕ) (m : Moment) → Stays s.stage → step hs most s (I.Call p k m) ≡ Some t → P p k
  call_place most s t p k m h e = move_place p k m (turn hs s) (turn_fine s.nodes s.frames s.stage h) (by_move_parts hs s (I.Call p k m) s.calling e).0

  pub start_stays : (ns : List Node) → Stays (start hs ns).stage
  start_stays ns = each_kept Q (is_at E.Once) hs all

  pub called_place : (most : ℕ) (s t : State) (front : List Item) (p k : ℕ) (m : Moment) (rest : List Item) → Stays s.stage → follow hs most s (front ++ I.Call p k m ∷ rest) ≡ Some t → P p k
  called_place most s t [] p k m rest h e = call_place most s (follow_parts hs most s (I.Call p k m) rest t e).mid p k m h (follow_parts hs most s (I.Call p k m) rest t e).first
  called_place most s t (i ∷ front) p k m rest h e =
      let q = follow_parts hs most s i (front ++ I.Call p k m ∷ rest) t e in
      called_place most q.mid t front p k m rest (step_stays most s q.mid i h q.first) q.rest
