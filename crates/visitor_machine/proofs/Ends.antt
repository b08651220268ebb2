-- Where the passes end: no frame is open, and the root is clean.
use Rattle.std.proofs.Common.{◌⊎◌, inl, inr, ◌≡◌, ◌≢◌, ℕ, zero, suc, ◌+◌, ◌<◌, ◌≤◌, List, [], ◌∷◌, ◌++◌, Bool, true, false, length, Option, Some, None, refl, ap, sym, ◌∙◌, arith, drop, map, cond, subst, eqb}
use Rattle.std.specs.Prelude.{filter, ◌&&◌, nat_eq, not, nat_lt}
use Rattle.std.proofs.lemmas.Bool.{false≢true, and_parts, ne_eqb}
use Rattle.css_tree.specs.declared.node.Kind.{Kind}
use Rattle.css_tree.specs.declared.node.Kind.TheVariants as K
use Rattle.node_rows.specs.Nodes.{is_dirty}
use Rattle.visitor_machine.specs.Machine.{kind_at, key_at}
use Rattle.node_store.specs.declared.item.Event.{Event}
use Rattle.node_store.specs.declared.item.Event.TheVariants as E
use Rattle.visitor_machine.specs.Hooks.{PickedHook, enters, exits, fits, is_at, is_filtered, hooks_at, same_event, enter_event, exit_event, event_number}
use Rattle.node_store.specs.Cursors.{through, further}
use Rattle.node_store.specs.Edits.{can}
use Rattle.node_store.specs.declared.item.Item.{Item}
use Rattle.node_store.specs.declared.item.Item.TheVariants as I
use Rattle.visitor_machine.specs.Machine.{called, Frame, State, Stage, Opening, Walking, Passing, Closing, Ended, Stopped, Move, at_exit, at_child, at_enter, in_tree_at, closing, at_rest, walking, turn_in, turn, item_of, done}
use Rattle.visitor_machine.specs.Follow.{same_item, is_item, by_move, step, and_then, follow, is_closing, passes}
use Rattle.node_rows.proofs.Climb.{same_from_eqb}
use Rattle.visitor_machine.proofs.Runs.{when_parts, by_move_parts, follow_parts, some_same}

-- what each member of a list passes
abbrev pub Each : {A : Type 0} → (A → Type 0) → List A → Type 0
Each P [] = Unit {0}
Each P (x ∷ xs) = P x × Each P xs

each_cond : {A : Type 0} (P : A → Type 0) (test : A → Bool) (x : A) (xs : List A) (b : Bool) → test x ≡ b → ((x : A) → test x ≡ true → P x) → Each P xs → Each P (cond b (x ∷ xs) xs)
each_cond P test x xs true e f h = (f x e, h)
each_cond P test x xs false e f h = h

pub each_filter : {A : Type 0} (P : A → Type 0) (test : A → Bool) (xs : List A) → ((x : A) → test x ≡ true → P x) → Each P (filter test xs)
each_filter P test [] f = tt
each_filter P test (x ∷ xs) f = each_cond P test x (filter test xs) (test x) refl f (each_filter P test xs f)

each_append : {A : Type 0} (P : A → Type 0) (xs ys : List A) → Each P xs → Each P ys → Each P (xs ++ ys)
each_append P [] ys h g = g
each_append P (x ∷ xs) ys h g = (h.0, each_append P xs ys h.1 g)

each_drop : {A : Type 0} (P : A → Type 0) (xs : List A) (k : ℕ) → Each P xs → Each P (drop k xs)
each_drop P xs zero h = h
each_drop P [] (suc k) h = h
each_drop P (x ∷ xs) (suc k) h = each_drop P xs k h.1

each_through_by : {A : Type 0} (P : A → Type 0) (test : A → Bool) (x : A) (xs : List A) (p : A × ℕ) (b : Bool) (o : Option (A × ℕ)) → through test xs ≡ o → cond b (Some (x, 1)) (further o) ≡ Some p → P x → ((q : A × ℕ) → through test xs ≡ Some q → P q.0) → P p.0
each_through_by {A = A} P test x xs p true o f g h r = subst P (ap (λ q. elim q as (λ _. A) [ None ↦ x | Some r ↦ r.0 ]) g) h
each_through_by P test x xs p false None f g h r = absurd cc
each_through_by {A = A} P test x xs p false (Some q) f g h r = subst P (ap (λ r. elim r as (λ _. A) [ None ↦ x | Some t ↦ t.0 ]) g) (r q f)

each_through : {A : Type 0} (P : A → Type 0) (test : A → Bool) (xs : List A) (p : A × ℕ) → through test xs ≡ Some p → Each P xs → P p.0
each_through P test [] p e h = absurd cc
each_through P test (x ∷ xs) p e h = each_through_by P test x xs p (test x) (through test xs) refl e h.0 (λ q f. each_through P test xs q f h.1)

abbrev pub IsAt : Event → PickedHook → Type 0
IsAt v h = event_number h.event ≡ event_number v

pub at_event : (v : Event) (h : PickedHook) → is_at v h ≡ true → IsAt v h
at_event v h e = sym (same_from_eqb (event_number v) (event_number h.event) e)

each_hooks_at : (v : Event) (hs : List PickedHook) → Each (IsAt v) (hooks_at v hs)
each_hooks_at v hs =
    each_append (IsAt v) (filter (λ h. is_at v h && not (is_filtered h)) hs) (filter (λ h. is_at v h && is_filtered h) hs)
    (each_filter (IsAt v) _ hs (λ h e. at_event v h (and_parts (is_at v h) _ e).0))
    (each_filter (IsAt v) _ hs (λ h e. at_event v h (and_parts (is_at v h) _ e).0))

closes : (h : PickedHook) (n : ℕ) (x : ℕ) → event_number h.event ≡ x → x ≢ 11 → is_closing (called n h) ≡ false
closes h n x e d = ne_eqb (event_number h.event) 11 (λ i. d (sym e ∙ i))

on_not : (k : Kind) → event_number (enter_event k) ≢ 11
on_not K.Root e = omega arith
on_not K.AtRule e = omega arith
on_not K.Rule e = omega arith
on_not K.Declaration e = omega arith
on_not K.Comment e = omega arith

off_not : (k : Kind) → event_number (exit_event k) ≢ 11
off_not K.Root e = omega arith
off_not K.AtRule e = omega arith
off_not K.Rule e = omega arith
off_not K.Declaration e = omega arith
off_not K.Comment e = omega arith

-- the stages before the first OnceExit call
abbrev pub IsEarly : Stage → Type 0
IsEarly (Opening l) = Each (IsAt E.Once) l
IsEarly Walking = Unit {0}
IsEarly Passing = Unit {0}
IsEarly (Closing l) = ⊥
IsEarly Ended = ⊥
IsEarly Stopped = ⊥

abbrev pub is_closing_move : Option Item → Bool
is_closing_move None = false
is_closing_move (Some i) = is_closing i

pub record AtRest (s : State) : Type 0 where
  pub no_frames : s.frames ≡ []
  pub root_clean : is_dirty s.nodes 0 ≡ false

-- a move ends the passes, or leaves the stage early
abbrev pub Ends : List PickedHook → State → Move → Type 0
Ends hs s m = ((is_closing_move (item_of m) ≡ true) × AtRest s) ⊎ ((is_closing_move (item_of m) ≡ false) × IsEarly (done hs s m).stage)

module _ (hs : List PickedHook) (s : State) (g : IsEarly s.stage) where
  ends_exit : (f : Frame) (o : Option (PickedHook × ℕ)) → through (fits (key_at s.nodes f.node)) (drop f.exit (exits hs (kind_at s.nodes f.node))) ≡ o → Ends hs s (at_exit f o)
  ends_exit f None e = inr (refl, g)
  ends_exit f (Some x) e = inr (closes x.0 f.node _ (each_through (IsAt (exit_event (kind_at s.nodes f.node))) _ (drop f.exit (exits hs (kind_at s.nodes f.node))) x e (each_drop _ _ f.exit (each_hooks_at (exit_event (kind_at s.nodes f.node)) hs))) (off_not (kind_at s.nodes f.node)), g)

  ends_child : (f : Frame) (o : Option (ℕ × ℕ)) → Ends hs s (at_child hs s.nodes f o)
  ends_child f None = ends_exit f _ refl
  ends_child f (Some x) = inr (refl, g)

  ends_enter : (f : Frame) (o : Option (PickedHook × ℕ)) → through (fits (key_at s.nodes f.node)) (drop f.enter (enters hs (kind_at s.nodes f.node))) ≡ o → Ends hs s (at_enter hs s.nodes f o)
  ends_enter f None e = ends_child f _
  ends_enter f (Some x) e = inr (closes x.0 f.node _ (each_through (IsAt (enter_event (kind_at s.nodes f.node))) _ (drop f.enter (enters hs (kind_at s.nodes f.node))) x e (each_drop _ _ f.enter (each_hooks_at (enter_event (kind_at s.nodes f.node)) hs))) (on_not (kind_at s.nodes f.node)), g)

  ends_in_tree : (f : Frame) (b : Bool) → Ends hs s (in_tree_at hs s.nodes f b)
  ends_in_tree f false = inr (refl, g)
  ends_in_tree f true = ends_enter f _ refl

  ends_closing : (l : List PickedHook) → Each (IsAt E.OnceExit) l → AtRest s → Ends hs s (closing l)
  ends_closing [] h r = inl (refl, r)
  ends_closing (x ∷ l) h r = inl (Rattle.std.proofs.Common.eq-eqb (event_number x.event) 11 h.0, r)

  ends_rest : (b : Bool) → is_dirty s.nodes 0 ≡ b → s.frames ≡ [] → Ends hs s (at_rest hs b)
  ends_rest true e r = inr (refl, tt)
  ends_rest false e r = ends_closing (filter (is_at E.OnceExit) hs) (each_filter (IsAt E.OnceExit) _ hs (at_event E.OnceExit)) (record { no_frames = r; root_clean = e })

  ends_walking : (fs : List Frame) → s.frames ≡ fs → Ends hs s (walking hs s.nodes fs)
  ends_walking [] e = ends_rest (is_dirty s.nodes 0) refl e
  ends_walking (f ∷ fs) e = ends_in_tree f _

  ends_turn : (k : Stage) → IsEarly k → Ends hs s (turn_in hs s.nodes s.frames k)
  ends_turn (Opening []) h = ends_walking s.frames refl
  ends_turn (Opening (x ∷ l)) h = inr (closes x 0 _ h.0 (λ e. omega arith), h.1)
  ends_turn Walking h = ends_walking s.frames refl
  ends_turn Passing h = inr (refl, tt)
  ends_turn (Closing l) h = absurd h
  ends_turn Ended h = absurd h
  ends_turn Stopped h = absurd h

same_closing : (i j : Item) → same_item i j ≡ true → is_closing i ≡ is_closing j
same_closing I.Pass I.Pass h = refl
same_closing (I.Enter n) (I.Enter m) h = refl
same_closing (I.Call p k a) (I.Call q l b) h =
    let h1 = and_parts (nat_eq p q) _ h in
    let h2 = and_parts (nat_eq k l) _ h1.1 in
    let h3 = and_parts (same_event a.event b.event) _ h2.1 in
    ap (λ x. nat_eq x 11) (same_from_eqb (event_number a.event) (event_number b.event) h3.0)
same_closing (I.Leave n) (I.Leave m) h = refl
same_closing I.End I.End h = refl
same_closing _ _ h = absurd (false≢true h)

closing_item : (i : Item) (o : Option Item) → is_item i o ≡ true → is_closing i ≡ is_closing_move o
closing_item i None h = absurd (false≢true h)
closing_item i (Some j) h = same_closing i j h

-- what an item does in an early stage: it ends the passes, or the stage stays early, or the run is stopped
pub data Progress (s : State) (i : Item) (t : State) : Type 0 where
  over : is_closing i ≡ true → AtRest s → Progress s i t
  on : is_closing i ≡ false → IsEarly t.stage → Progress s i t
  stopped : is_closing i ≡ false → t.stage ≡ Stopped → t.calling ≡ false → Progress s i t

progress_move : (hs : List PickedHook) (s t : State) (i : Item) → IsEarly s.stage → by_move hs s i s.calling ≡ Some t → Progress s i t
progress_move hs s t i g e =
    let p = by_move_parts hs s i s.calling e in
    let c : is_closing i ≡ is_closing_move (item_of (turn hs s)) = closing_item i (item_of (turn hs s)) p.0 in
    elim (ends_turn hs s g s.stage g) [
      | inl h ↦ over (c ∙ h.0) h.1
      | inr h ↦ on (c ∙ h.0) (subst (λ u. IsEarly u.stage) p.1 h.1)
    ]

progress_stage : (s t : State) (i : Item) (b : Bool) → is_closing i ≡ false → IsEarly s.stage → cond b Stopped s.stage ≡ t.stage → t.calling ≡ false → Progress s i t
progress_stage s t i true c g e f = stopped c (sym e) f
progress_stage s t i false c g e f = on c (subst IsEarly e g)

progress : (hs : List PickedHook) (most : ℕ) (s t : State) (i : Item) → IsEarly s.stage → step hs most s i ≡ Some t → Progress s i t
progress hs most s t (I.Edit x) g e = on refl (subst (λ u. IsEarly u.stage) (when_parts (s.calling && can s.nodes x) e).1 g)
progress hs most s t (I.Back None) g e = let p = (when_parts s.calling e).1 in progress_stage s t (I.Back None) (nat_lt most s.edits) refl g (ap (λ u. u.stage) p) (sym (ap (λ u. u.calling) p))
progress hs most s t (I.Back (Some x)) g e = let p = (when_parts s.calling e).1 in stopped refl (sym (ap (λ u. u.stage) p)) (sym (ap (λ u. u.calling) p))
progress hs most s t I.Pass g e = progress_move hs s t I.Pass g e
progress hs most s t (I.Enter n) g e = progress_move hs s t (I.Enter n) g e
progress hs most s t (I.Call p k m) g e = progress_move hs s t (I.Call p k m) g e
progress hs most s t (I.Leave n) g e = progress_move hs s t (I.Leave n) g e
progress hs most s t I.End g e = progress_move hs s t I.End g e

turn_stopped : (hs : List PickedHook) (s : State) (i : Item) {t : State} → s.stage ≡ Stopped → by_move hs s i s.calling ≡ Some t → ⊥
turn_stopped hs s i e h = false≢true (sym (ap (λ k. is_item i (item_of (turn_in hs s.nodes s.frames k))) e) ∙ (by_move_parts hs s i s.calling h).0)

-- nothing follows where the run is stopped
none_follows : (hs : List PickedHook) (most : ℕ) (s t : State) (i : Item) → s.stage ≡ Stopped → s.calling ≡ false → step hs most s i ≡ Some t → ⊥
none_follows hs most s t (I.Edit x) a b e = false≢true (sym b ∙ (and_parts s.calling (can s.nodes x) (when_parts (s.calling && can s.nodes x) e).0).0)
none_follows hs most s t (I.Back o) a b e = false≢true (sym b ∙ (when_parts s.calling e).0)
none_follows hs most s t I.Pass a b e = turn_stopped hs s I.Pass a e
none_follows hs most s t (I.Enter n) a b e = turn_stopped hs s (I.Enter n) a e
none_follows hs most s t (I.Call p k m) a b e = turn_stopped hs s (I.Call p k m) a e
none_follows hs most s t (I.Leave n) a b e = turn_stopped hs s (I.Leave n) a e
none_follows hs most s t I.End a b e = turn_stopped hs s I.End a e

is_ended : Stage → Bool
is_ended (Opening l) = false
is_ended Walking = false
is_ended Passing = false
is_ended (Closing l) = false
is_ended Ended = true
is_ended Stopped = false

stopped_not : (g : Stage) → g ≡ Stopped → g ≡ Ended → ⊥
unfolding is_ended
stopped_not g a b = false≢true (ap is_ended (sym a ∙ b))

early_not : (g : Stage) → IsEarly g → g ≡ Ended → ⊥
early_not g h e = subst IsEarly e h

stopped_all : (hs : List PickedHook) (most : ℕ) (s t : State) (log : List Item) → s.stage ≡ Stopped → s.calling ≡ false → follow hs most s log ≡ Some t → t.stage ≡ Ended → ⊥
stopped_all hs most s t [] a b e d = stopped_not s.stage a (ap (λ u. u.stage) (some_same e) ∙ d)
stopped_all hs most s t (i ∷ is) a b e d = none_follows hs most s (follow_parts hs most s i is t e).mid i a b (follow_parts hs most s i is t e).first

pub record RestsAt (hs : List PickedHook) (most : ℕ) (s : State) (log : List Item) : Type 0 where
  pub state : State
  pub reached : follow hs most s (passes log) ≡ Some state
  pub rest : AtRest state

-- a whole run comes to rest where its passes end
pub rests : (hs : List PickedHook) (most : ℕ) (s t : State) (log : List Item) → IsEarly s.stage → follow hs most s log ≡ Some t → t.stage ≡ Ended → RestsAt hs most s log
rests hs most s t [] g e d = absurd (early_not s.stage g (ap (λ u. u.stage) (some_same e) ∙ d))
rests hs most s t (i ∷ is) g e d =
    let p = follow_parts hs most s i is t e in
    elim (progress hs most s p.mid i g p.first) [
      | over c r ↦ record { state = s; reached = ap (λ b. follow hs most s (cond b [] (i ∷ passes is))) c; rest = r }
      | on c h ↦
          let r = rests hs most p.mid t is h p.rest d in
          record { state = r.state; reached = ap (λ b. follow hs most s (cond b [] (i ∷ passes is))) c ∙ (ap (λ o. and_then o (λ u. follow hs most u (passes is))) p.first ∙ r.reached); rest = r.rest }
      | stopped c a b ↦ absurd (stopped_all hs most p.mid t is a b p.rest d)
    ]
