-- The history of a state is that of the log that it followed.
use Rattle.std.proofs.Common.{◌≡◌, ℕ, zero, suc, ◌<◌, List, [], ◌∷◌, ◌++◌, Bool, true, false, length, Option, Some, None, refl, ap, sym, ◌∙◌, arith, map, subst, length-append, append_assoc, append-nil}
use Rattle.std.specs.Prelude.{◌&&◌, slice_get}
use Rattle.std.proofs.lemmas.Bool.{false≢true}
use Rattle.node_rows.specs.Nodes.{Node}
use Rattle.visitor_machine.specs.Machine.{kind_at}
use Rattle.visitor_machine.specs.Hooks.{PickedHook, enters}
use Rattle.node_store.specs.declared.item.Edit.{Edit}
use Rattle.node_store.specs.Edits.{can}
use Rattle.node_store.specs.declared.item.Item.{Item}
use Rattle.node_store.specs.declared.item.Item.TheVariants as I
use Rattle.visitor_machine.specs.Machine.{called, Frame, Visit, State, Stage, Opening, Walking, Passing, Closing, Ended, Stopped, Move, ToPass, ToRoot, ToChild, ToEnterHook, ToExitHook, ToOnce, ToOnceExit, ToLeave, ToEnd, Nothing, at_exit, at_child, at_enter, in_tree_at, closing, at_rest, walking, turn_in, turn, item_of, new_frame, passing_on, calling_enter, calling_exit, outer, leaving, done, moved_frame, edited}
use Rattle.visitor_machine.specs.Follow.{same_item, is_item, by_move, back, step, follow, start}
use Rattle.visitor_machine.specs.Told.{IsVisitOf, IsOpenIn, Each, IsTold}
use Rattle.node_rows.proofs.Climb.{same_from_eqb}
use Rattle.visitor_machine.proofs.Runs.{when_parts, by_move_parts, follow_parts, some_same}

get_front : (log : List Item) (i : Item) (k : ℕ) → k < length log → slice_get (log ++ i ∷ []) k ≡ slice_get log k
get_front [] i k h = absurd (omega arith)
get_front (x ∷ log) i zero h = refl
get_front (x ∷ log) i (suc k) h = get_front log i k (omega arith)

get_last : (log : List Item) (i : Item) → slice_get (log ++ i ∷ []) (length log) ≡ Some i
get_last [] i = refl
get_last (x ∷ log) i = get_last log i

longer : (log : List Item) (i : Item) → length (log ++ i ∷ []) ≡ suc (length log)
longer log i = length-append log (i ∷ []) ∙ omega arith

visits_on : (log : List Item) (i : Item) (vs : List Visit) → Each (IsVisitOf log) vs → Each (IsVisitOf (log ++ i ∷ [])) vs
visits_on log i [] h = tt
visits_on log i (v ∷ vs) h =
    let l = longer log i in
    let a = h.0.order in
    let b = h.0.inside in
    (record { enters = get_front log i v.entered (omega arith) ∙ h.0.enters; leaves = get_front log i v.left b ∙ h.0.leaves; order = a; inside = omega arith }, visits_on log i vs h.1)

open_on : (log : List Item) (i : Item) (f g : Frame) → g.node ≡ f.node → g.entered ≡ f.entered → IsOpenIn log f → IsOpenIn (log ++ i ∷ []) g
open_on log i f g en ee h =
    let l = longer log i in
    let b = h.inside in
    record { enters = ap (slice_get (log ++ i ∷ [])) ee ∙ (get_front log i f.entered b ∙ (h.enters ∙ ap (λ n. Some (I.Enter n)) (sym en))); inside = omega arith }

frames_on : (log : List Item) (i : Item) (fs : List Frame) → Each (IsOpenIn log) fs → Each (IsOpenIn (log ++ i ∷ [])) fs
frames_on log i [] h = tt
frames_on log i (f ∷ fs) h = (open_on log i f f refl refl h.0, frames_on log i fs h.1)

moved_on : (log : List Item) (i : Item) (ns : List Node) (e : Edit) (fs : List Frame) → Each (IsOpenIn log) fs → Each (IsOpenIn (log ++ i ∷ [])) (map (moved_frame ns e) fs)
moved_on log i ns e [] h = tt
moved_on log i ns e (f ∷ fs) h = (open_on log i f (moved_frame ns e f) refl refl h.0, moved_on log i ns e fs h.1)

-- the innermost frame changes in its places and calls alone
head_on : (log : List Item) (i : Item) (g : Frame → Frame) (fs : List Frame) → ((f : Frame) → (g f).node ≡ f.node) → ((f : Frame) → (g f).entered ≡ f.entered) → Each (IsOpenIn log) fs → (f : Frame) (rest : List Frame) → fs ≡ f ∷ rest → Each (IsOpenIn (log ++ i ∷ [])) (g f ∷ rest)
head_on log i g fs en ee h f rest e =
    let k : Each (IsOpenIn log) (f ∷ rest) = subst (Each (IsOpenIn log)) e h in
    (open_on log i f (g f) (en f) (ee f) k.0, frames_on log i rest k.1)

-- the item of an I.Enter and of a I.Leave
enter_is : (i : Item) (m : ℕ) → same_item i (I.Enter m) ≡ true → i ≡ I.Enter m
enter_is (I.Enter n) m h = ap (λ k. I.Enter k) (same_from_eqb n m h)
enter_is I.Pass m h = absurd (false≢true h)
enter_is (I.Call p k o) m h = absurd (false≢true h)
enter_is (I.Edit e) m h = absurd (false≢true h)
enter_is (I.Back f) m h = absurd (false≢true h)
enter_is (I.Leave n) m h = absurd (false≢true h)
enter_is I.End m h = absurd (false≢true h)

leave_is : (i : Item) (m : ℕ) → same_item i (I.Leave m) ≡ true → i ≡ I.Leave m
leave_is (I.Leave n) m h = ap (λ k. I.Leave k) (same_from_eqb n m h)
leave_is I.Pass m h = absurd (false≢true h)
leave_is (I.Call p k o) m h = absurd (false≢true h)
leave_is (I.Edit e) m h = absurd (false≢true h)
leave_is (I.Back f) m h = absurd (false≢true h)
leave_is (I.Enter n) m h = absurd (false≢true h)
leave_is I.End m h = absurd (false≢true h)

-- a state of which only the count grew
module _ (hs : List PickedHook) (log : List Item) (i : Item) (s : State) (h : IsTold log s) where
  counted : suc s.count ≡ length (log ++ i ∷ [])
  counted = ap suc h.count ∙ sym (longer log i)

  abbrev pub Next : State → Type 0
  Next t = IsTold (log ++ i ∷ []) t

  plain : (t : State) → t.count ≡ suc s.count → t.visits ≡ s.visits → t.frames ≡ s.frames → Next t
  plain t a b c = record { count = a ∙ counted; visits = subst (Each (IsVisitOf (log ++ i ∷ []))) (sym b) (visits_on log i s.visits h.visits); frames = subst (Each (IsOpenIn (log ++ i ∷ []))) (sym c) (frames_on log i s.frames h.frames) }

  framed : (t : State) → t.count ≡ suc s.count → t.visits ≡ s.visits → Each (IsOpenIn (log ++ i ∷ [])) t.frames → Next t
  framed t a b c = record { count = a ∙ counted; visits = subst (Each (IsVisitOf (log ++ i ∷ []))) (sym b) (visits_on log i s.visits h.visits); frames = c }

  fresh_frame : (m : ℕ) → i ≡ I.Enter m → IsOpenIn (log ++ i ∷ []) (new_frame m s.count)
  fresh_frame m e = let l = longer log i in let c = h.count in record { enters = ap (slice_get (log ++ i ∷ [])) h.count ∙ (get_last log i ∙ ap (λ x. Some x) e); inside = omega arith }

  passing : (m k : ℕ) (fs : List Frame) → i ≡ I.Enter m → s.frames ≡ fs → Each (IsOpenIn (log ++ i ∷ [])) (new_frame m s.count ∷ passing_on hs s.nodes k fs)
  passing m k [] e f = (fresh_frame m e, tt)
  passing m k (f ∷ fs) e j = (fresh_frame m e, head_on log i (λ f. record f { passed = k; enter = length (enters hs (kind_at s.nodes f.node)) }) s.frames (λ f. refl) (λ f. refl) h.frames f fs j)

  entering : (x : Item) (k : ℕ) (fs : List Frame) → s.frames ≡ fs → Each (IsOpenIn (log ++ i ∷ [])) (calling_enter x k fs)
  entering x k [] j = tt
  entering x k (f ∷ fs) j = head_on log i (λ f. record f { enter = k; calls = f.calls ++ x ∷ [] }) s.frames (λ f. refl) (λ f. refl) h.frames f fs j

  exiting : (x : Item) (k : ℕ) (fs : List Frame) → s.frames ≡ fs → Each (IsOpenIn (log ++ i ∷ [])) (calling_exit hs s.nodes x k fs)
  exiting x k [] j = tt
  exiting x k (f ∷ fs) j = head_on log i (λ f. record f { exit = k; enter = length (enters hs (kind_at s.nodes f.node)); calls = f.calls ++ x ∷ [] }) s.frames (λ f. refl) (λ f. refl) h.frames f fs j

  left_frames : (fs : List Frame) → s.frames ≡ fs → Each (IsOpenIn (log ++ i ∷ [])) (outer fs)
  left_frames [] j = tt
  left_frames (f ∷ fs) j = frames_on log i fs (subst (Each (IsOpenIn log)) j h.frames).1

  left_visits : (fs : List Frame) (n : ℕ) → s.frames ≡ fs → i ≡ I.Leave n → ((f : Frame) (rest : List Frame) → fs ≡ f ∷ rest → f.node ≡ n) → Each (IsVisitOf (log ++ i ∷ [])) (leaving s.count fs s.visits)
  left_visits [] n j e g = visits_on log i s.visits h.visits
  left_visits (f ∷ fs) n j e g =
      let o = (subst (Each (IsOpenIn log)) j h.frames).0 in
      let l = longer log i in
      let c = h.count in
      let b = o.inside in
      (record { enters = get_front log i f.entered b ∙ o.enters; leaves = ap (slice_get (log ++ i ∷ [])) h.count ∙ (get_last log i ∙ ap (λ x. Some x) (e ∙ ap (λ k. I.Leave k) (sym (g f fs refl)))); order = omega arith; inside = omega arith }, visits_on log i s.visits h.visits)

-- a I.Leave is that of the innermost frame
abbrev pub LeavesTop : State → Move → Type 0
LeavesTop s (ToLeave n) = (f : Frame) (rest : List Frame) → s.frames ≡ f ∷ rest → f.node ≡ n
LeavesTop s ToPass = Unit {0}
LeavesTop s ToRoot = Unit {0}
LeavesTop s (ToChild m k) = Unit {0}
LeavesTop s (ToEnterHook n h k) = Unit {0}
LeavesTop s (ToExitHook n h k) = Unit {0}
LeavesTop s (ToOnce h r) = Unit {0}
LeavesTop s (ToOnceExit h r) = Unit {0}
LeavesTop s ToEnd = Unit {0}
LeavesTop s Nothing = Unit {0}

told_move : (hs : List PickedHook) (log : List Item) (i : Item) (s : State) (m : Move) → IsTold log s → is_item i (item_of m) ≡ true → LeavesTop s m → IsTold (log ++ i ∷ []) (done hs s m)
told_move hs log i s ToPass h e g = plain hs log i s h _ refl refl refl
told_move hs log i s ToRoot h e g = framed hs log i s h _ refl refl (fresh_frame hs log i s h 0 (enter_is i 0 e), frames_on log i s.frames h.frames)
told_move hs log i s (ToChild m k) h e g = framed hs log i s h _ refl refl (passing hs log i s h m k s.frames (enter_is i m e) refl)
told_move hs log i s (ToEnterHook n x k) h e g = framed hs log i s h _ refl refl (entering hs log i s h (called n x) k s.frames refl)
told_move hs log i s (ToExitHook n x k) h e g = framed hs log i s h _ refl refl (exiting hs log i s h (called n x) k s.frames refl)
told_move hs log i s (ToOnce x r) h e g = plain hs log i s h _ refl refl refl
told_move hs log i s (ToOnceExit x r) h e g = plain hs log i s h _ refl refl refl
told_move hs log i s (ToLeave n) h e g = record { count = counted hs log i s h; visits = left_visits hs log i s h s.frames n refl (leave_is i n e) g; frames = left_frames hs log i s h s.frames refl }
told_move hs log i s ToEnd h e g = plain hs log i s h _ refl refl refl
told_move hs log i s Nothing h e g = absurd (false≢true e)

same_head : {f g : Frame} {fs gs : List Frame} → f ∷ fs ≡ g ∷ gs → g.node ≡ f.node
same_head {f} {g} e = ap (λ l. elim l as (λ _. ℕ) [ [] ↦ g.node | x ∷ xs ↦ x.node ]) (sym e)

module _ (hs : List PickedHook) (s : State) (f : Frame) (fs : List Frame) (e : s.frames ≡ f ∷ fs) where
  top_left : LeavesTop s (ToLeave f.node)
  top_left g rest i = same_head (sym e ∙ i)

  top_exit : (o : Option (PickedHook × ℕ)) → LeavesTop s (at_exit f o)
  top_exit None = top_left
  top_exit (Some x) = tt

  top_child : (o : Option (ℕ × ℕ)) → LeavesTop s (at_child hs s.nodes f o)
  top_child None = top_exit _
  top_child (Some x) = tt

  top_enter : (o : Option (PickedHook × ℕ)) → LeavesTop s (at_enter hs s.nodes f o)
  top_enter None = top_child _
  top_enter (Some x) = tt

  top_in_tree : (b : Bool) → LeavesTop s (in_tree_at hs s.nodes f b)
  top_in_tree false = top_left
  top_in_tree true = top_enter _

top_closing : (s : State) (l : List PickedHook) → LeavesTop s (closing l)
top_closing s [] = tt
top_closing s (x ∷ l) = tt

top_rest : (hs : List PickedHook) (s : State) (b : Bool) → LeavesTop s (at_rest hs b)
top_rest hs s true = tt
top_rest hs s false = top_closing s _

top_walking : (hs : List PickedHook) (s : State) (fs : List Frame) → s.frames ≡ fs → LeavesTop s (walking hs s.nodes fs)
top_walking hs s [] e = top_rest hs s _
top_walking hs s (f ∷ fs) e = top_in_tree hs s f fs e _

top_turn : (hs : List PickedHook) (s : State) (g : Stage) → LeavesTop s (turn_in hs s.nodes s.frames g)
top_turn hs s (Opening []) = top_walking hs s s.frames refl
top_turn hs s (Opening (x ∷ l)) = tt
top_turn hs s Walking = top_walking hs s s.frames refl
top_turn hs s Passing = tt
top_turn hs s (Closing l) = top_closing s l
top_turn hs s Ended = tt
top_turn hs s Stopped = tt

told_moved : (hs : List PickedHook) (log : List Item) (s t : State) (i : Item) → IsTold log s → by_move hs s i s.calling ≡ Some t → IsTold (log ++ i ∷ []) t
told_moved hs log s t i h e = let p = by_move_parts hs s i s.calling e in subst (IsTold (log ++ i ∷ [])) p.1 (told_move hs log i s (turn hs s) h p.0 (top_turn hs s s.stage))

told_back : (hs : List PickedHook) (most : ℕ) (log : List Item) (i : Item) (s : State) (o : Option (List ℕ)) → IsTold log s → IsTold (log ++ i ∷ []) (back most s o)
told_back hs most log i s None h = plain hs log i s h _ refl refl refl
told_back hs most log i s (Some x) h = plain hs log i s h _ refl refl refl

told_step : (hs : List PickedHook) (most : ℕ) (log : List Item) (s t : State) (i : Item) → IsTold log s → step hs most s i ≡ Some t → IsTold (log ++ i ∷ []) t
told_step hs most log s t (I.Edit x) h e = subst (IsTold (log ++ I.Edit x ∷ [])) (when_parts (s.calling && can s.nodes x) e).1 (framed hs log (I.Edit x) s h (edited s x) refl refl (moved_on log (I.Edit x) s.nodes x s.frames h.frames))
told_step hs most log s t (I.Back o) h e = subst (IsTold (log ++ I.Back o ∷ [])) (when_parts s.calling e).1 (told_back hs most log (I.Back o) s o h)
told_step hs most log s t I.Pass h e = told_moved hs log s t I.Pass h e
told_step hs most log s t (I.Enter n) h e = told_moved hs log s t (I.Enter n) h e
told_step hs most log s t (I.Call p k m) h e = told_moved hs log s t (I.Call p k m) h e
told_step hs most log s t (I.Leave n) h e = told_moved hs log s t (I.Leave n) h e
told_step hs most log s t I.End h e = told_moved hs log s t I.End h e

told_on : (hs : List PickedHook) (most : ℕ) (front : List Item) (s t : State) (log : List Item) → IsTold front s → follow hs most s log ≡ Some t → IsTold (front ++ log) t
told_on hs most front s t [] h e = subst (λ l. IsTold l t) (sym (append-nil front)) (subst (IsTold front) (some_same e) h)
told_on hs most front s t (i ∷ is) h e =
    let p = follow_parts hs most s i is t e in
    subst (λ l. IsTold l t) (append_assoc front (i ∷ []) is) (told_on hs most (front ++ i ∷ []) p.mid t is (told_step hs most front s p.mid i h p.first) p.rest)

-- the state that a log comes to tells the visits of that log
pub told : (hs : List PickedHook) (most : ℕ) (ns : List Node) (log : List Item) (t : State) → follow hs most (start hs ns) log ≡ Some t → IsTold log t
told hs most ns log t e = told_on hs most [] (start hs ns) t log (record { count = refl; visits = tt; frames = tt }) e
