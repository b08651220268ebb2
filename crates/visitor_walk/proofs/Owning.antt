-- Whose the calls of a run are: what holds of the places of each of its hooks holds of those of each call.
use Rattle.std.proofs.Common.{◌≡◌, ℕ, suc, List, [], ◌∷◌, ◌++◌, Bool, true, false, Option, Some, None, IsSome, refl, ap, sym, ◌∙◌, subst, drop, cond, slice_get}
use Rattle.std.specs.Prelude.{filter, ◌&&◌, not, nat_eq, nat_lt, Contains}
use Rattle.std.specs.List.{All}
use Rattle.std.proofs.lemmas.Bool.{false≢true, and_parts}
use Rattle.std.proofs.lemmas.List.Elements.{All-nil, All-cons, All-head, All-tail, All-filter, All-append, All-drop, All-contains_itself}
use Rattle.node_rows.proofs.Climb.{same_from_eqb}
use Rattle.node_rows.specs.Nodes.{Node, is_dirty, holds}
use Rattle.node_store.specs.declared.item.Event.{Event}
use Rattle.node_store.specs.declared.item.Event.TheVariants as E
use Rattle.node_store.specs.declared.item.Item.{Item}
use Rattle.node_store.specs.declared.item.Item.TheVariants as I
use Rattle.node_store.specs.declared.item.Moment.{Moment}
use Rattle.node_store.specs.Cursors.{through, further}
use Rattle.node_store.specs.Edits.{can}
use Rattle.plugin_api.specs.Shelf.{HookSeen, PluginSeen, hooks_of, hook_at}
use Rattle.visitor_machine.specs.Hooks.{PickedHook, is_at, is_filtered, fits, hooks_at, enters, exits, enter_event, exit_event}
use Rattle.visitor_machine.specs.Machine.{kind_at, key_at, Frame, State, Stage, Opening, Walking, Passing, Closing, Ended, Stopped, Move, ToPass, ToRoot, ToChild, ToEnterHook, ToExitHook, ToOnce, ToOnceExit, ToLeave, ToEnd, Nothing, at_exit, at_child, at_enter, in_tree_at, closing, at_rest, walking, turn_in, turn, item_of, done}
use Rattle.visitor_machine.specs.Follow.{same_item, is_item, by_move, step, follow, start}
use Rattle.visitor_machine.proofs.Runs.{when_parts, by_move_parts, follow_parts}
use Rattle.visitor_walk.specs.Picked.{hooks_from, picked_hooks}
use Rattle.visitor_walk.specs.Laws.{IsPicked}
use Rattle.visitor_walk.proofs.Picking.{picked_there}

found_by : {A : Type 0} (P : A → Type 0) (x : A) (b : Bool) (o : Option (A × ℕ)) (y : A × ℕ) → P x → ((z : A × ℕ) → o ≡ Some z → P z.0) → cond b (Some (x, 1)) (further o) ≡ Some y → P y.0
found_by {A = A} P x true o y h f e = subst P (ap (λ q. elim q as (λ _. A) [ None ↦ x | Some z ↦ z.0 ]) e) h
found_by P x false None y h f e = absurd cc
found_by {A = A} P x false (Some z) y h f e = subst P (ap (λ q. elim q as (λ _. A) [ None ↦ x | Some w ↦ w.0 ]) e) (f z refl)

-- the first that passes a test is one of the list
found_has : {A : Type 0} (P : A → Type 0) (test : A → Bool) (xs : List A) (y : A × ℕ) → All P xs → through test xs ≡ Some y → P y.0
found_has P test [] y h e = absurd cc
found_has P test (x ∷ xs) y h e = found_by P x (test x) (through test xs) y (All-head P x xs h) (λ z. found_has P test xs z (All-tail P x xs h)) e

module _ (Q : ℕ → ℕ → Type 0) where
  abbrev Has : PickedHook → Type 0
  Has x = Q x.plugin x.hook

  abbrev IsMoveOf : Move → Type 0
  IsMoveOf (ToEnterHook n x k) = Has x
  IsMoveOf (ToExitHook n x k) = Has x
  IsMoveOf (ToOnce x rest) = Has x × All Has rest
  IsMoveOf (ToOnceExit x rest) = Has x × All Has rest
  IsMoveOf _ = Unit {0}

  abbrev IsStageOf : Stage → Type 0
  IsStageOf (Opening l) = All Has l
  IsStageOf (Closing l) = All Has l
  IsStageOf _ = Unit {0}

  abbrev IsCallOf : Item → Type 0
  IsCallOf (I.Call p k m) = Q p k
  IsCallOf _ = Unit {0}

  abbrev IsItemOf : Option Item → Type 0
  IsItemOf None = Unit {0}
  IsItemOf (Some i) = IsCallOf i

  item_has : (m : Move) → IsMoveOf m → IsItemOf (item_of m)
  item_has ToPass h = tt
  item_has ToRoot h = tt
  item_has (ToChild n k) h = tt
  item_has (ToEnterHook n x k) h = h
  item_has (ToExitHook n x k) h = h
  item_has (ToOnce x rest) h = h.0
  item_has (ToOnceExit x rest) h = h.0
  item_has (ToLeave n) h = tt
  item_has ToEnd h = tt
  item_has Nothing h = tt

  same_call : (p k : ℕ) (m : Moment) (j : Item) → same_item (I.Call p k m) j ≡ true → IsCallOf j → Q p k
  same_call p k m (I.Call q l n) e h =
      let a = and_parts (nat_eq p q) _ e in
      let b = and_parts (nat_eq k l) _ a.1 in
      subst (λ x. Q x k) (sym (same_from_eqb p q a.0)) (subst (λ x. Q q x) (sym (same_from_eqb k l b.0)) h)
  same_call p k m _ e h = absurd (false≢true e)

  is_own : (i : Item) (o : Option Item) → is_item i o ≡ true → IsItemOf o → IsCallOf i
  is_own (I.Call p k m) None e h = absurd (false≢true e)
  is_own (I.Call p k m) (Some j) e h = same_call p k m j e h
  is_own I.Pass o e h = tt
  is_own (I.Enter n) o e h = tt
  is_own (I.Edit x) o e h = tt
  is_own (I.Back x) o e h = tt
  is_own (I.Leave n) o e h = tt
  is_own I.End o e h = tt

  module _ (hs : List PickedHook) (own : All Has hs) where
    at_event : (e : Event) → All Has (hooks_at e hs)
    at_event e = All-append Has (filter (λ h. is_at e h && not (is_filtered h)) hs) (filter (λ h. is_at e h && is_filtered h) hs) (All-filter _ Has hs own) (All-filter _ Has hs own)

    exit_of : (ns : List Node) (f : Frame) (o : Option (PickedHook × ℕ)) → through (fits (key_at ns f.node)) (drop f.exit (exits hs (kind_at ns f.node))) ≡ o → IsMoveOf (at_exit f o)
    exit_of ns f None e = tt
    exit_of ns f (Some x) e = found_has Has (fits (key_at ns f.node)) (drop f.exit (exits hs (kind_at ns f.node))) x (All-drop Has f.exit (exits hs (kind_at ns f.node)) (at_event (exit_event (kind_at ns f.node)))) e

    child_of : (ns : List Node) (f : Frame) (o : Option (ℕ × ℕ)) → IsMoveOf (at_child hs ns f o)
    child_of ns f None = exit_of ns f _ refl
    child_of ns f (Some x) = tt

    enter_of : (ns : List Node) (f : Frame) (o : Option (PickedHook × ℕ)) → through (fits (key_at ns f.node)) (drop f.enter (enters hs (kind_at ns f.node))) ≡ o → IsMoveOf (at_enter hs ns f o)
    enter_of ns f None e = child_of ns f _
    enter_of ns f (Some x) e = found_has Has (fits (key_at ns f.node)) (drop f.enter (enters hs (kind_at ns f.node))) x (All-drop Has f.enter (enters hs (kind_at ns f.node)) (at_event (enter_event (kind_at ns f.node)))) e

    in_tree_of : (ns : List Node) (f : Frame) (b : Bool) → IsMoveOf (in_tree_at hs ns f b)
    in_tree_of ns f false = tt
    in_tree_of ns f true = enter_of ns f _ refl

    closing_of : (l : List PickedHook) → All Has l → IsMoveOf (closing l)
    closing_of [] h = tt
    closing_of (x ∷ l) h = (All-head Has x l h, All-tail Has x l h)

    rest_of : (b : Bool) → IsMoveOf (at_rest hs b)
    rest_of true = tt
    rest_of false = closing_of (filter (is_at E.OnceExit) hs) (All-filter _ Has hs own)

    walking_of : (ns : List Node) (fs : List Frame) → IsMoveOf (walking hs ns fs)
    walking_of ns [] = rest_of (is_dirty ns 0)
    walking_of ns (f ∷ fs) = in_tree_of ns f (holds ns 0 f.node)

    turn_of : (ns : List Node) (fs : List Frame) (stage : Stage) → IsStageOf stage → IsMoveOf (turn_in hs ns fs stage)
    turn_of ns fs (Opening []) h = walking_of ns fs
    turn_of ns fs (Opening (x ∷ l)) h = (All-head Has x l h, All-tail Has x l h)
    turn_of ns fs Walking h = walking_of ns fs
    turn_of ns fs Passing h = tt
    turn_of ns fs (Closing l) h = closing_of l h
    turn_of ns fs Ended h = tt
    turn_of ns fs Stopped h = tt

    done_of : (s : State) (m : Move) → IsStageOf s.stage → IsMoveOf m → IsStageOf (done hs s m).stage
    done_of s ToPass h k = tt
    done_of s ToRoot h k = tt
    done_of s (ToChild n j) h k = h
    done_of s (ToEnterHook n x j) h k = h
    done_of s (ToExitHook n x j) h k = h
    done_of s (ToOnce x rest) h k = k.1
    done_of s (ToOnceExit x rest) h k = k.1
    done_of s (ToLeave n) h k = h
    done_of s ToEnd h k = tt
    done_of s Nothing h k = h

    moved_of : (s t : State) (i : Item) → IsStageOf s.stage → by_move hs s i s.calling ≡ Some t → IsCallOf i × IsStageOf t.stage
    moved_of s t i h e =
        let p = by_move_parts hs s i s.calling e in
        let m = turn_of s.nodes s.frames s.stage h in
        (is_own i (item_of (turn hs s)) p.0 (item_has (turn hs s) m), subst (λ u. IsStageOf u.stage) p.1 (done_of s (turn hs s) h m))

    stopped_of : (b : Bool) (stage : Stage) → IsStageOf stage → IsStageOf (cond b Stopped stage)
    stopped_of true stage h = tt
    stopped_of false stage h = h

    step_of : (most : ℕ) (s t : State) (i : Item) → IsStageOf s.stage → step hs most s i ≡ Some t → IsCallOf i × IsStageOf t.stage
    step_of most s t (I.Edit x) h e = (tt, subst (λ u. IsStageOf u.stage) (when_parts (s.calling && can s.nodes x) e).1 h)
    step_of most s t (I.Back None) h e = (tt, subst (λ u. IsStageOf u.stage) (when_parts s.calling e).1 (stopped_of (nat_lt most s.edits) s.stage h))
    step_of most s t (I.Back (Some text)) h e = (tt, subst (λ u. IsStageOf u.stage) (when_parts s.calling e).1 tt)
    step_of most s t I.Pass h e = moved_of s t I.Pass h e
    step_of most s t (I.Enter n) h e = moved_of s t (I.Enter n) h e
    step_of most s t (I.Call p k m) h e = moved_of s t (I.Call p k m) h e
    step_of most s t (I.Leave n) h e = moved_of s t (I.Leave n) h e
    step_of most s t I.End h e = moved_of s t I.End h e

    call_of_own : (most : ℕ) (s t : State) (front : List Item) (p k : ℕ) (m : Moment) (rest : List Item) → IsStageOf s.stage → follow hs most s (front ++ I.Call p k m ∷ rest) ≡ Some t → Q p k
    call_of_own most s t [] p k m rest h e = (step_of most s _ (I.Call p k m) h (follow_parts hs most s (I.Call p k m) rest t e).first).0
    call_of_own most s t (i ∷ front) p k m rest h e =
        let d = follow_parts hs most s i (front ++ I.Call p k m ∷ rest) t e in
        call_of_own most d.mid t front p k m rest (step_of most s d.mid i h d.first).1 d.rest

    pub started_call : (most : ℕ) (ns : List Node) (items : List Item) (t : State) (front : List Item) (p k : ℕ) (m : Moment) (rest : List Item) → follow hs most (start hs ns) items ≡ Some t → items ≡ front ++ I.Call p k m ∷ rest → Q p k
    started_call most ns items t front p k m rest run e = call_of_own most (start hs ns) t front p k m rest (All-filter _ Has hs own) (ap (follow hs most (start hs ns)) (sym e) ∙ run)

-- the hook's plugin is picked
abbrev IsAmong : List ℕ → PickedHook → Type 0
IsAmong picked x = Contains picked x.plugin

from_one : (picked : List ℕ) (i k : ℕ) (hs : List HookSeen) → Contains picked i → All (IsAmong picked) (hooks_from i k hs)
from_one picked i k [] c = All-nil (IsAmong picked)
from_one picked i k (h ∷ hs) c = All-cons (IsAmong picked) (record { plugin = i; hook = k; event = h.event; filter = h.filter }) (hooks_from i (suc k) hs) c (from_one picked i (suc k) hs c)

-- the plugin of each picked hook is picked
picked_among : (shelf : List PluginSeen) (picked is : List ℕ) → All (Contains picked) is → All (IsAmong picked) (picked_hooks shelf is)
picked_among shelf picked [] c = All-nil (IsAmong picked)
picked_among shelf picked (i ∷ is) c = All-append (IsAmong picked) (hooks_from i 0 (hooks_of (slice_get shelf i))) (picked_hooks shelf is) (from_one picked i 0 (hooks_of (slice_get shelf i)) (All-head (Contains picked) i is c)) (picked_among shelf picked is (All-tail (Contains picked) i is c))

pub calls_picked : (shelf : List PluginSeen) (picked : List ℕ) (most : ℕ) (ns : List Node) (items : List Item) (t : State) (front : List Item) (i j : ℕ) (m : Moment) (rest : List Item) → follow (picked_hooks shelf picked) most (start (picked_hooks shelf picked) ns) items ≡ Some t → items ≡ front ++ I.Call i j m ∷ rest → IsPicked shelf picked i j
calls_picked shelf picked most ns items t front i j m rest run e = record {
  among = started_call (λ p k. Contains picked p) (picked_hooks shelf picked) (picked_among shelf picked picked (All-contains_itself picked)) most ns items t front i j m rest run e;
  there = started_call (λ p k. IsSome (hook_at shelf p k)) (picked_hooks shelf picked) (picked_there shelf picked) most ns items t front i j m rest run e;
}
