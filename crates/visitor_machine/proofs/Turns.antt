-- What ties a loop to the machine: a run goes on by the next item, by a visitor's edits, and by the end of a call.
use Rattle.std.proofs.Common.{◌≡◌, ℕ, List, [], ◌∷◌, ◌++◌, true, false, Option, Some, None, refl, ap, ◌∙◌, map, eq-eqb}
use Rattle.std.specs.Prelude.{◌&&◌}
use Rattle.std.proofs.lemmas.Bool.{and_from}
use Rattle.node_rows.specs.Nodes.{Node}
use Rattle.node_store.specs.declared.item.Edit.{Edit}
use Rattle.node_store.specs.Edits.{can, apply}
use Rattle.visitor_machine.specs.Hooks.{PickedHook, event_number}
use Rattle.node_store.specs.declared.item.Item.{Item}
use Rattle.node_store.specs.declared.item.Item.TheVariants as I
use Rattle.visitor_machine.specs.Machine.{State, Move, ToPass, ToRoot, ToChild, ToEnterHook, ToExitHook, ToOnce, ToOnceExit, ToLeave, ToEnd, Nothing, item_of, turn, done, edited}
use Rattle.visitor_machine.specs.Follow.{same_item, is_item, when, by_move, back, step, and_then, follow}
use Rattle.visitor_machine.proofs.Runs.{some_same}

and_then_some : (o : Option State) (s : State) (f : State → Option State) → o ≡ Some s → and_then o f ≡ f s
and_then_some o s f e = ap (λ x. and_then x f) e

append_by : (hs : List PickedHook) (most : ℕ) (u : State) (is rest : List Item) (o : Option State) → ((t : State) → follow hs most t is ≡ Some u → follow hs most t (is ++ rest) ≡ follow hs most u rest) → and_then o (λ t. follow hs most t is) ≡ Some u → and_then o (λ t. follow hs most t (is ++ rest)) ≡ follow hs most u rest
append_by hs most u is rest None f e = absurd cc
append_by hs most u is rest (Some t) f e = f t e

-- one log after another
pub follow_append : (hs : List PickedHook) (most : ℕ) (s u : State) (front rest : List Item) → follow hs most s front ≡ Some u → follow hs most s (front ++ rest) ≡ follow hs most u rest
follow_append hs most s u [] rest e = ap (λ x. follow hs most x rest) (some_same e)
follow_append hs most s u (i ∷ is) rest e = append_by hs most u is rest (step hs most s i) (λ t h. follow_append hs most t u is rest h) e

-- one item more
pub follow_one : (hs : List PickedHook) (most : ℕ) (s u t : State) (log : List Item) (i : Item) → follow hs most s log ≡ Some u → step hs most u i ≡ Some t → follow hs most s (log ++ i ∷ []) ≡ Some t
follow_one hs most s u t log i e h = follow_append hs most s u log (i ∷ []) e ∙ and_then_some (step hs most u i) t (λ x. Some x) h

by_item : (hs : List PickedHook) (s : State) (i : Item) → s.calling ≡ false → item_of (turn hs s) ≡ Some i → same_item i i ≡ true → by_move hs s i s.calling ≡ Some (done hs s (turn hs s))
by_item hs s i c e h = ap (by_move hs s i) c ∙ ap (λ b. when b (done hs s (turn hs s))) (ap (is_item i) e ∙ h)

not_edit : (m : Move) (x : Edit) → item_of m ≡ Some (I.Edit x) → ⊥
not_edit ToPass x e = absurd cc
not_edit ToRoot x e = absurd cc
not_edit (ToChild n k) x e = absurd cc
not_edit (ToEnterHook n h k) x e = absurd cc
not_edit (ToExitHook n h k) x e = absurd cc
not_edit (ToOnce h r) x e = absurd cc
not_edit (ToOnceExit h r) x e = absurd cc
not_edit (ToLeave n) x e = absurd cc
not_edit ToEnd x e = absurd cc
not_edit Nothing x e = absurd cc

not_back : (m : Move) (x : Option (List ℕ)) → item_of m ≡ Some (I.Back x) → ⊥
not_back ToPass x e = absurd cc
not_back ToRoot x e = absurd cc
not_back (ToChild n k) x e = absurd cc
not_back (ToEnterHook n h k) x e = absurd cc
not_back (ToExitHook n h k) x e = absurd cc
not_back (ToOnce h r) x e = absurd cc
not_back (ToOnceExit h r) x e = absurd cc
not_back (ToLeave n) x e = absurd cc
not_back ToEnd x e = absurd cc
not_back Nothing x e = absurd cc

-- the machine's own item is taken
pub step_item : (hs : List PickedHook) (most : ℕ) (s : State) (i : Item) → s.calling ≡ false → item_of (turn hs s) ≡ Some i → step hs most s i ≡ Some (done hs s (turn hs s))
step_item hs most s I.Pass c e = by_item hs s I.Pass c e refl
step_item hs most s (I.Enter n) c e = by_item hs s (I.Enter n) c e (eq-eqb n n refl)
step_item hs most s (I.Call p k m) c e = by_item hs s (I.Call p k m) c e (and_from _ _ (eq-eqb p p refl) (and_from _ _ (eq-eqb k k refl) (and_from _ _ (eq-eqb (event_number m.event) (event_number m.event) refl) (eq-eqb m.node m.node refl))))
step_item hs most s (I.Leave n) c e = by_item hs s (I.Leave n) c e (eq-eqb n n refl)
step_item hs most s I.End c e = by_item hs s I.End c e refl
step_item hs most s (I.Edit x) c e = absurd (not_edit (turn hs s) x e)
step_item hs most s (I.Back x) c e = absurd (not_back (turn hs s) x e)

-- the edits of one call, and the state after them
abbrev pub CanAll : List Node → List Edit → Type 0
CanAll ns [] = Unit {0}
CanAll ns (e ∷ es) = (can ns e ≡ true) × CanAll (apply ns e) es

abbrev pub edited_all : State → List Edit → State
edited_all s [] = s
edited_all s (e ∷ es) = edited_all (edited s e) es

pub follow_edits : (hs : List PickedHook) (most : ℕ) (s : State) (es : List Edit) → s.calling ≡ true → CanAll s.nodes es → follow hs most s (map (λ e. I.Edit e) es) ≡ Some (edited_all s es)
follow_edits hs most s [] c h = refl
follow_edits hs most s (e ∷ es) c h = and_then_some (when (s.calling && can s.nodes e) (edited s e)) (edited s e) _ (ap (λ b. when b (edited s e)) (and_from s.calling (can s.nodes e) c h.0)) ∙ follow_edits hs most (edited s e) es c h.1

calling_on : (s : State) (es : List Edit) → s.calling ≡ true → (edited_all s es).calling ≡ true
calling_on s [] c = c
calling_on s (e ∷ es) c = calling_on (edited s e) es c

-- a call, the edits of its visitor, and its end
pub follow_call : (hs : List PickedHook) (most : ℕ) (s : State) (i : Item) (es : List Edit) (fault : Option (List ℕ)) → s.calling ≡ false → item_of (turn hs s) ≡ Some i → (done hs s (turn hs s)).calling ≡ true → CanAll (done hs s (turn hs s)).nodes es → follow hs most s (i ∷ (map (λ e. I.Edit e) es ++ I.Back fault ∷ [])) ≡ Some (back most (edited_all (done hs s (turn hs s)) es) fault)
follow_call hs most s i es fault c e d h =
    let t = done hs s (turn hs s) in
    let u = edited_all t es in
    and_then_some (step hs most s i) t (λ x. follow hs most x (map (λ e. I.Edit e) es ++ I.Back fault ∷ [])) (step_item hs most s i c e)
    ∙ (follow_append hs most t u (map (λ e. I.Edit e) es) (I.Back fault ∷ []) (follow_edits hs most t es d h)
    ∙ and_then_some (when u.calling (back most u fault)) (back most u fault) (λ x. Some x) (ap (λ b. when b (back most u fault)) (calling_on t es d)))
