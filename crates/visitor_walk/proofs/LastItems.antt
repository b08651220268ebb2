-- What the last items of a run tell of its state and its end.
use Rattle.std.proofs.Common.{◌≡◌, ℕ, ◌<◌, List, [], ◌∷◌, ◌++◌, Bool, true, false, Option, Some, None, refl, ap, sym, ◌∙◌, map, append_assoc, cond, subst}
use Rattle.std.proofs.lemmas.Bool.{lt-ltb}
use Rattle.node_store.specs.declared.item.Edit.{Edit}
use Rattle.node_store.specs.declared.item.Item.{Item}
use Rattle.node_store.specs.declared.item.Item.TheVariants as I
use Rattle.node_store.specs.declared.item.Moment.{Moment}
use Rattle.visitor_machine.specs.Hooks.{PickedHook}
use Rattle.visitor_machine.specs.Machine.{State, Stage, Ended, Stopped, item_of, turn_in, turn}
use Rattle.visitor_machine.specs.Follow.{back, follow}
use Rattle.visitor_machine.proofs.Runs.{when_parts, follow_parts, some_same}
use Rattle.visitor_walk.specs.declared.walk_end.WalkEnd.{WalkEnd}
use Rattle.visitor_walk.specs.declared.walk_end.WalkEnd.TheVariants.{Done, Failed, BudgetSpent, EditBudgetSpent}
use Rattle.visitor_walk.specs.Walk.{EndsCalled, IsNextCall, Ends}

-- the moment of the last call
abbrev call_after : Option Moment → Item → Option Moment
call_after o (I.Call p h m) = Some m
call_after o _ = o

abbrev last_call : Option Moment → List Item → Option Moment
last_call o [] = o
last_call o (i ∷ is) = last_call (call_after o i) is

-- how the last call that ended did
abbrev back_after : Option (Option (List ℕ)) → Item → Option (Option (List ℕ))
back_after o (I.Back fault) = Some fault
back_after o _ = o

abbrev last_back : Option (Option (List ℕ)) → List Item → Option (Option (List ℕ))
last_back o [] = o
last_back o (i ∷ is) = last_back (back_after o i) is

call_behind : (o : Option Moment) (front : List Item) (p h : ℕ) (m : Moment) (is : List Item) → last_call o (front ++ I.Call p h m ∷ is) ≡ last_call (Some m) is
call_behind o [] p h m is = refl
call_behind o (i ∷ front) p h m is = call_behind (call_after o i) front p h m is

back_behind : (o : Option (Option (List ℕ))) (front is : List Item) → last_back o (front ++ is) ≡ last_back (last_back o front) is
back_behind o [] is = refl
back_behind o (i ∷ front) is = back_behind (back_after o i) front is

no_call_in_edits : (m : Moment) (es : List Edit) (fault : Option (List ℕ)) → last_call (Some m) (map (λ e. I.Edit e) es ++ I.Back fault ∷ []) ≡ Some m
no_call_in_edits m [] fault = refl
no_call_in_edits m (e ∷ es) fault = no_call_in_edits m es fault

module _ {items : List Item} {m : Moment} {fault : Option (List ℕ)} (e : EndsCalled items m fault) where
  pub open_items : List Item
  open_items = e.front ++ I.Call e.plugin e.hook m ∷ map (λ x. I.Edit x) e.edits

  pub at_back : items ≡ open_items ++ I.Back fault ∷ []
  unfolding open_items
  at_back = e.are ∙ sym (append_assoc e.front (I.Call e.plugin e.hook m ∷ map (λ x. I.Edit x) e.edits) (I.Back fault ∷ []))

  last_call_is : last_call None items ≡ Some m
  last_call_is = ap (last_call None) e.are ∙ (call_behind None e.front e.plugin e.hook m _ ∙ no_call_in_edits m e.edits fault)

  last_back_is : last_back None items ≡ Some fault
  last_back_is = ap (last_back None) at_back ∙ back_behind None open_items (I.Back fault ∷ [])

-- the state after a run that ends with the end of a call
pub back_state : (hs : List PickedHook) (most : ℕ) (s t : State) (is : List Item) (fault : Option (List ℕ)) → follow hs most s (is ++ I.Back fault ∷ []) ≡ Some t → (u : State) × (back most u fault ≡ t)
back_state hs most s t [] fault e = let p = follow_parts hs most s (I.Back fault) [] t e in (s, (when_parts s.calling p.first).1 ∙ some_same p.rest)
back_state hs most s t (i ∷ is) fault e = let p = follow_parts hs most s i (is ++ I.Back fault ∷ []) t e in back_state hs most p.mid t is fault p.rest

fault_stops : (most : ℕ) (u t : State) (text : List ℕ) → back most u (Some text) ≡ t → t.stage ≡ Stopped
fault_stops most u t text e = sym (ap (λ s. s.stage) e)

edits_stop : (most : ℕ) (u t : State) → back most u None ≡ t → most < t.edits → t.stage ≡ Stopped
edits_stop most u t e l =
    let k : most < u.edits = subst (λ n. most < n) (sym (ap (λ s. s.edits) e)) l in
    sym (ap (λ s. s.stage) e) ∙ ap (λ b. cond {A = Stage} b Stopped u.stage) (lt-ltb most u.edits k)

-- nothing follows a state of that stage
abbrev IsLast : Stage → Type 0
IsLast stage = (hs : List PickedHook) (ns : _) (fs : _) → item_of (turn_in hs ns fs stage) ≡ None

ended_is_last : IsLast Ended
ended_is_last = λ hs ns fs. refl

stopped_is_last : IsLast Stopped
stopped_is_last = λ hs ns fs. refl

no_next_by : (b : Bool) (o : Option Item) (i : Item) → o ≡ None → cond {A = Option Item} b None o ≡ Some i → ⊥
no_next_by true o i e h = cc
no_next_by false o i e h = cc

no_next : (hs : List PickedHook) (s : State) (stage : Stage) (m : Moment) → IsLast stage → s.stage ≡ stage → IsNextCall hs s m → ⊥
no_next hs s stage m l e n = no_next_by s.calling (item_of (turn hs s)) _ (ap (λ g. item_of (turn_in hs s.nodes s.frames g)) e ∙ l hs s.nodes s.frames) n.is

module _ (hs : List PickedHook) (most : ℕ) (start end : State) (items : List Item) (run : follow hs most start items ≡ Some end) where
  pub after_fault : (m : Moment) (text : List ℕ) → EndsCalled items m (Some text) → end.stage ≡ Stopped
  after_fault m text e =
      let u = back_state hs most start end (open_items e) (Some text) (ap (follow hs most start) (sym (at_back e)) ∙ run) in
      fault_stops most u.0 end text u.1

  pub after_edits : (m : Moment) → EndsCalled items m None → most < end.edits → end.stage ≡ Stopped
  after_edits m e l =
      let u = back_state hs most start end (open_items e) None (ap (follow hs most start) (sym (at_back e)) ∙ run) in
      edits_stop most u.0 end u.1 l

  same_call : (m n : Moment) (f g : Option (List ℕ)) → EndsCalled items m f → EndsCalled items n g → m ≡ n
  same_call m n f g a b = let x = last_call_is a in let y = last_call_is b in cc

  same_back : (m n : Moment) (f g : Option (List ℕ)) → EndsCalled items m f → EndsCalled items n g → f ≡ g
  same_back m n f g a b = let x = last_back_is a in let y = last_back_is b in cc

  done_not_failed : (m : Moment) (text : List ℕ) → EndsCalled items m (Some text) → end.stage ≡ Ended → ⊥
  done_not_failed m text e d = let s = after_fault m text e in cc

  done_not_spent : (m : Moment) (edits : ℕ) → (edits ≡ end.edits) × (most < edits) × EndsCalled items m None → end.stage ≡ Ended → ⊥
  done_not_spent m edits e d = let s = after_edits m e.2 (subst (λ n. most < n) e.0 e.1) in cc

  next_not_failed : (m n : Moment) (text : List ℕ) → EndsCalled items m (Some text) → IsNextCall hs end n → ⊥
  next_not_failed m n text e x = no_next hs end Stopped n stopped_is_last (after_fault m text e) x

  next_not_spent : (m n : Moment) (edits : ℕ) → (edits ≡ end.edits) × (most < edits) × EndsCalled items m None → IsNextCall hs end n → ⊥
  next_not_spent m n edits e x = no_next hs end Stopped n stopped_is_last (after_edits m e.2 (subst (λ n. most < n) e.0 e.1)) x

  failed_not_spent : (m n : Moment) (text : List ℕ) → EndsCalled items m (Some text) → EndsCalled items n None → ⊥
  failed_not_spent m n text a b = let e = same_back m n (Some text) None a b in cc

  pub ends_once : (budget : ℕ) (a b : WalkEnd) → Ends a hs budget most end items → Ends b hs budget most end items → a ≡ b
  ends_once budget Done Done x y = refl
  ends_once budget Done (Failed t m) x y = absurd (done_not_failed m t y x)
  ends_once budget Done (BudgetSpent c m) x y = absurd (no_next hs end Ended m ended_is_last x y.2)
  ends_once budget Done (EditBudgetSpent k m) x y = absurd (done_not_spent m k y x)
  ends_once budget (Failed t m) Done x y = absurd (done_not_failed m t x y)
  ends_once budget (Failed t m) (Failed u n) x y =
      let e = same_back m n (Some t) (Some u) x y in
      let d = same_call m n (Some t) (Some u) x y in
      cc
  ends_once budget (Failed t m) (BudgetSpent c n) x y = absurd (next_not_failed m n t x y.2)
  ends_once budget (Failed t m) (EditBudgetSpent k n) x y = absurd (failed_not_spent m n t x y.2)
  ends_once budget (BudgetSpent c m) Done x y = absurd (no_next hs end Ended m ended_is_last y x.2)
  ends_once budget (BudgetSpent c m) (Failed t n) x y = absurd (next_not_failed n m t y x.2)
  ends_once budget (BudgetSpent c m) (BudgetSpent d n) x y = let e = x.2.is in let f = y.2.is in let i = x.0 in let j = y.0 in cc
  ends_once budget (BudgetSpent c m) (EditBudgetSpent k n) x y = absurd (next_not_spent n m k y x.2)
  ends_once budget (EditBudgetSpent k m) Done x y = absurd (done_not_spent m k x y)
  ends_once budget (EditBudgetSpent k m) (Failed t n) x y = absurd (failed_not_spent n m t y x.2)
  ends_once budget (EditBudgetSpent k m) (BudgetSpent c n) x y = absurd (next_not_spent m n k x y.2)
  ends_once budget (EditBudgetSpent k m) (EditBudgetSpent l n) x y =
      let e = same_call m n None None x.2 y.2 in
      let i = x.0 in
      let j = y.0 in
      cc
