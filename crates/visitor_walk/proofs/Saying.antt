-- What a run's faults are: one at most, which is its last item and stands behind its call.
use Rattle.std.proofs.Common.{◌≡◌, ◌≢◌, ℕ, ◌⊎◌, inl, inr, List, [], ◌∷◌, ◌++◌, Bool, true, false, Option, Some, None, refl, ap, sym, ◌∙◌, map, append_assoc, arith, cond, subst}
use Rattle.std.specs.Prelude.{nat_eq, ◌&&◌}
use Rattle.std.proofs.lemmas.Bool.{false≢true, and_parts, ne_eqb, eq-eqb}
use Rattle.node_rows.proofs.Climb.{same_from_eqb}
use Rattle.node_store.specs.declared.item.Edit.{Edit}
use Rattle.node_store.specs.declared.item.Item.{Item}
use Rattle.node_store.specs.declared.item.Item.TheVariants as I
use Rattle.node_store.specs.declared.item.Moment.{Moment}
use Rattle.node_store.specs.Edits.{can}
use Rattle.visitor_machine.specs.Hooks.{PickedHook}
use Rattle.visitor_machine.specs.Machine.{State, Stopped, Move, ToPass, ToRoot, ToChild, ToEnterHook, ToExitHook, ToOnce, ToOnceExit, ToLeave, ToEnd, Nothing, item_of, turn_in, turn, done}
use Rattle.visitor_machine.specs.Follow.{same_item, is_item, by_move, step, and_then, follow}
use Rattle.visitor_machine.specs.Calls.{call_of}
use Rattle.visitor_machine.proofs.Runs.{when_parts, by_move_parts, follow_parts, some_same}
use Rattle.visitor_walk.specs.Heard.{said_of}
use Rattle.visitor_walk.specs.Laws.{EndsFailed, SaysAlone, Failure}
use Rattle.visitor_walk.proofs.Calling.{back_free}

-- no call ends with a fault
abbrev IsNoFault : Item → Type 0
IsNoFault (I.Back (Some text)) = ⊥
IsNoFault _ = Unit {0}

abbrev IsFaultless : List Item → Type 0
IsFaultless [] = Unit {0}
IsFaultless (i ∷ is) = IsNoFault i × IsFaultless is

faultless_front : (xs ys : List Item) → IsFaultless (xs ++ ys) → IsFaultless xs
faultless_front [] ys h = tt
faultless_front (i ∷ xs) ys h = (h.0, faultless_front xs ys h.1)

-- what is said of items without a fault, and behind them
said_none : (i j : ℕ) (mine : Bool) (is : List Item) → IsFaultless is → said_of i j mine is ≡ []
said_none i j mine [] h = refl
said_none i j mine (I.Call p k m ∷ is) h = said_none i j (nat_eq p i && nat_eq k j) is h.1
said_none i j mine (I.Back None ∷ is) h = said_none i j mine is h.1
said_none i j mine (I.Back (Some text) ∷ is) h = absurd h.0
said_none i j mine (I.Pass ∷ is) h = said_none i j mine is h.1
said_none i j mine (I.Enter n ∷ is) h = said_none i j mine is h.1
said_none i j mine (I.Edit e ∷ is) h = said_none i j mine is h.1
said_none i j mine (I.Leave n ∷ is) h = said_none i j mine is h.1
said_none i j mine (I.End ∷ is) h = said_none i j mine is h.1

said_behind : (i j : ℕ) (mine : Bool) (front : List Item) (p k : ℕ) (m : Moment) (is : List Item) → IsFaultless front → said_of i j mine (front ++ I.Call p k m ∷ is) ≡ said_of i j (nat_eq p i && nat_eq k j) is
said_behind i j mine [] p k m is h = refl
said_behind i j mine (I.Call q l n ∷ front) p k m is h = said_behind i j (nat_eq q i && nat_eq l j) front p k m is h.1
said_behind i j mine (I.Back None ∷ front) p k m is h = said_behind i j mine front p k m is h.1
said_behind i j mine (I.Back (Some text) ∷ front) p k m is h = absurd h.0
said_behind i j mine (I.Pass ∷ front) p k m is h = said_behind i j mine front p k m is h.1
said_behind i j mine (I.Enter n ∷ front) p k m is h = said_behind i j mine front p k m is h.1
said_behind i j mine (I.Edit e ∷ front) p k m is h = said_behind i j mine front p k m is h.1
said_behind i j mine (I.Leave n ∷ front) p k m is h = said_behind i j mine front p k m is h.1
said_behind i j mine (I.End ∷ front) p k m is h = said_behind i j mine front p k m is h.1

-- the text, where the call was the hook's
abbrev text_where : Bool → List ℕ → List (List ℕ)
text_where mine text = cond {A = List (List ℕ)} mine (text ∷ []) []

said_of_call : (i j : ℕ) (mine : Bool) (es : List Edit) (text : List ℕ) → said_of i j mine (map (λ e. I.Edit e) es ++ I.Back (Some text) ∷ []) ≡ text_where mine text
said_of_call i j mine [] text = refl
said_of_call i j mine (e ∷ es) text = said_of_call i j mine es text

said_at_end : (i j p k : ℕ) (m : Moment) (text : List ℕ) (front : List Item) (es : List Edit) (items : List Item) → items ≡ front ++ I.Call p k m ∷ (map (λ e. I.Edit e) es ++ I.Back (Some text) ∷ []) → IsFaultless front → said_of i j false items ≡ text_where (nat_eq p i && nat_eq k j) text
said_at_end i j p k m text front es items e h = ap (said_of i j false) e ∙ (said_behind i j false front p k m _ h ∙ said_of_call i j (nat_eq p i && nat_eq k j) es text)

not_both : (a b : Bool) → (a ≡ false) ⊎ (b ≡ false) → (a && b) ≡ false
not_both false b h = refl
not_both true b (inl e) = absurd (false≢true (sym e))
not_both true b (inr e) = e

other_hook : (i j p k : ℕ) → (p ≢ i) ⊎ (k ≢ j) → (nat_eq i p && nat_eq j k) ≡ false
other_hook i j p k (inl n) = not_both (nat_eq i p) (nat_eq j k) (inl (ne_eqb i p (λ e. n (sym e))))
other_hook i j p k (inr n) = not_both (nat_eq i p) (nat_eq j k) (inr (ne_eqb j k (λ e. n (sym e))))

same_hook : (i j : ℕ) → (nat_eq i i && nat_eq j j) ≡ true
same_hook i j = ap (λ b. b && nat_eq j j) (eq-eqb i i refl) ∙ eq-eqb j j refl

says_alone : (i j : ℕ) (m : Moment) (text : List ℕ) (items : List Item) (e : EndsFailed i j m text items) → IsFaultless e.front → SaysAlone i j text items
says_alone i j m text items e h = record {
  said = said_at_end i j i j m text e.front e.edits items e.are h ∙ ap (λ b. text_where b text) (same_hook i j);
  others = λ p k n. said_at_end p k i j m text e.front e.edits items e.are h ∙ ap (λ b. text_where b text) (other_hook i j p k n);
}

-- nothing follows a fault
no_move : (hs : List PickedHook) (s : State) (i : Item) {t : State} → s.stage ≡ Stopped → by_move hs s i s.calling ≡ Some t → ⊥
no_move hs s i e h = false≢true (sym (ap (λ k. is_item i (item_of (turn_in hs s.nodes s.frames k))) e) ∙ (by_move_parts hs s i s.calling h).0)

no_step : (hs : List PickedHook) (most : ℕ) (s t : State) (i : Item) → s.stage ≡ Stopped → s.calling ≡ false → step hs most s i ≡ Some t → ⊥
no_step hs most s t (I.Edit x) a b e = false≢true (sym b ∙ (and_parts s.calling (can s.nodes x) (when_parts (s.calling && can s.nodes x) e).0).0)
no_step hs most s t (I.Back o) a b e = false≢true (sym b ∙ (when_parts s.calling e).0)
no_step hs most s t I.Pass a b e = no_move hs s I.Pass a e
no_step hs most s t (I.Enter n) a b e = no_move hs s (I.Enter n) a e
no_step hs most s t (I.Call p k m) a b e = no_move hs s (I.Call p k m) a e
no_step hs most s t (I.Leave n) a b e = no_move hs s (I.Leave n) a e
no_step hs most s t I.End a b e = no_move hs s I.End a e

after_fault : (hs : List PickedHook) (most : ℕ) (s t u : State) (text : List ℕ) (is : List Item) → step hs most s (I.Back (Some text)) ≡ Some t → follow hs most t is ≡ Some u → is ≡ []
after_fault hs most s t u text [] e f = refl
after_fault hs most s t u text (i ∷ is) e f =
    let b = (when_parts s.calling e).1 in
    absurd (no_step hs most t (follow_parts hs most t i is u f).mid i (sym (ap (λ x. x.stage) b)) (sym (ap (λ x. x.calling) b)) (follow_parts hs most t i is u f).first)

-- before its last item a run has no fault
no_fault_by : (hs : List PickedHook) (most : ℕ) (s t u : State) (i : Item) (is : List Item) → step hs most s i ≡ Some t → follow hs most t is ≡ Some u → is ≢ [] → IsNoFault i
no_fault_by hs most s t u (I.Back (Some text)) is e f n = n (after_fault hs most s t u text is e f)
no_fault_by hs most s t u (I.Back None) is e f n = tt
no_fault_by hs most s t u (I.Pass) is e f n = tt
no_fault_by hs most s t u (I.Enter k) is e f n = tt
no_fault_by hs most s t u (I.Call p k m) is e f n = tt
no_fault_by hs most s t u (I.Edit x) is e f n = tt
no_fault_by hs most s t u (I.Leave k) is e f n = tt
no_fault_by hs most s t u I.End is e f n = tt

not_empty : (xs : List Item) (i : Item) (is : List Item) → xs ++ i ∷ is ≢ []
not_empty [] i is e = cc
not_empty (x ∷ xs) i is e = cc

faultless_before : (hs : List PickedHook) (most : ℕ) (s t : State) (xs : List Item) (i : Item) (is : List Item) → follow hs most s (xs ++ i ∷ is) ≡ Some t → IsFaultless xs
faultless_before hs most s t [] i is e = tt
faultless_before hs most s t (x ∷ xs) i is e =
    let p = follow_parts hs most s x (xs ++ i ∷ is) t e in
    (no_fault_by hs most s p.mid t x (xs ++ i ∷ is) p.first p.rest (not_empty xs i is), faultless_before hs most p.mid t xs i is p.rest)

pub failed_said : (hs : List PickedHook) (most : ℕ) (s t : State) (items : List Item) (i j : ℕ) (m : Moment) (text : List ℕ) → follow hs most s items ≡ Some t → EndsFailed i j m text items → SaysAlone i j text items
failed_said hs most s t items i j m text run e = says_alone i j m text items e (faultless_before hs most s t e.front (I.Call i j m) (map (λ x. I.Edit x) e.edits ++ I.Back (Some text) ∷ []) (ap (follow hs most s) (sym e.are) ∙ run))

-- there is no fault among the items, or it is the last of them
data Faults (items : List Item) : Type 0 where
  none : IsFaultless items → Faults items
  last : (front : List Item) (text : List ℕ) → items ≡ front ++ I.Back (Some text) ∷ [] → Faults items

one_more : (i : Item) (is : List Item) → IsNoFault i → Faults is → Faults (i ∷ is)
one_more i is n (none h) = none (n, h)
one_more i is n (last front text e) = last (i ∷ front) text (ap (λ l. i ∷ l) e)

faults_by : (hs : List PickedHook) (most : ℕ) (s t u : State) (i : Item) (is : List Item) → step hs most s i ≡ Some t → follow hs most t is ≡ Some u → Faults is → Faults (i ∷ is)
faults_by hs most s t u (I.Back (Some text)) is e f h = last [] text (ap (λ l. I.Back (Some text) ∷ l) (after_fault hs most s t u text is e f))
faults_by hs most s t u (I.Back None) is e f h = one_more (I.Back None) is tt h
faults_by hs most s t u I.Pass is e f h = one_more I.Pass is tt h
faults_by hs most s t u (I.Enter n) is e f h = one_more (I.Enter n) is tt h
faults_by hs most s t u (I.Call p k m) is e f h = one_more (I.Call p k m) is tt h
faults_by hs most s t u (I.Edit x) is e f h = one_more (I.Edit x) is tt h
faults_by hs most s t u (I.Leave n) is e f h = one_more (I.Leave n) is tt h
faults_by hs most s t u I.End is e f h = one_more I.End is tt h

faults_in : (hs : List PickedHook) (most : ℕ) (s t : State) (items : List Item) → follow hs most s items ≡ Some t → Faults items
faults_in hs most s t [] e = none tt
faults_in hs most s t (i ∷ is) e = let p = follow_parts hs most s i is t e in faults_by hs most s p.mid t i is p.first p.rest (faults_in hs most p.mid t is p.rest)

-- the run up to the end of a call, where the call is open
record UpToBack (hs : List PickedHook) (most : ℕ) (s : State) (front : List Item) : Type 0 where
  state : State
  run : follow hs most s front ≡ Some state
  calling : state.calling ≡ true

up_to_back : (hs : List PickedHook) (most : ℕ) (s t : State) (front : List Item) (fault : Option (List ℕ)) → follow hs most s (front ++ I.Back fault ∷ []) ≡ Some t → UpToBack hs most s front
up_to_back hs most s t [] fault e = record { state = s; run = refl; calling = (when_parts s.calling (follow_parts hs most s (I.Back fault) [] t e).first).0 }
up_to_back hs most s t (i ∷ front) fault e =
    let p = follow_parts hs most s i (front ++ I.Back fault ∷ []) t e in
    let u = up_to_back hs most p.mid t front fault p.rest in
    record { state = u.state; run = ap (λ o. and_then o (λ x. follow hs most x front)) p.first ∙ u.run; calling = u.calling }

-- the last call isn't over: only edits stand behind it
data OpenCall (s : State) (items : List Item) : Type 0 where
  before : (es : List Edit) → s.calling ≡ true → items ≡ map (λ e. I.Edit e) es → OpenCall s items
  inside : (front : List Item) (p k : ℕ) (m : Moment) (es : List Edit) → items ≡ front ++ I.Call p k m ∷ map (λ e. I.Edit e) es → OpenCall s items

same_call : (i j : Item) → same_item i j ≡ true → call_of i ≡ call_of j
same_call I.Pass I.Pass h = refl
same_call (I.Enter n) (I.Enter m) h = refl
same_call (I.Call p k a) (I.Call q l b) h = refl
same_call (I.Leave n) (I.Leave m) h = refl
same_call I.End I.End h = refl
same_call _ _ h = absurd (false≢true h)

no_hook : (i : Item) (p k : ℕ) (m : Moment) → call_of i ≡ 0 → same_item i (I.Call p k m) ≡ true → ⊥
no_hook i p k m z h = let e : call_of i ≡ 1 = same_call i (I.Call p k m) h in omega arith

-- a move that is no call opens none
quiet_move : (hs : List PickedHook) (s : State) (m : Move) (i : Item) → call_of i ≡ 0 → is_item i (item_of m) ≡ true → (done hs s m).calling ≡ s.calling
quiet_move hs s ToPass i z h = refl
quiet_move hs s ToRoot i z h = refl
quiet_move hs s (ToChild n k) i z h = refl
quiet_move hs s (ToEnterHook n x k) i z h = absurd (no_hook i x.plugin x.hook (record { event = x.event; node = n }) z h)
quiet_move hs s (ToExitHook n x k) i z h = absurd (no_hook i x.plugin x.hook (record { event = x.event; node = n }) z h)
quiet_move hs s (ToOnce x rest) i z h = absurd (no_hook i x.plugin x.hook (record { event = x.event; node = 0 }) z h)
quiet_move hs s (ToOnceExit x rest) i z h = absurd (no_hook i x.plugin x.hook (record { event = x.event; node = 0 }) z h)
quiet_move hs s (ToLeave n) i z h = refl
quiet_move hs s ToEnd i z h = refl
quiet_move hs s Nothing i z h = refl

pub move_free : (hs : List PickedHook) (s : State) (i : Item) (b : Bool) {t : State} → by_move hs s i b ≡ Some t → b ≡ false
move_free hs s i true e = absurd cc
move_free hs s i false e = refl

pub stays_free : (hs : List PickedHook) (s t : State) (i : Item) → call_of i ≡ 0 → by_move hs s i s.calling ≡ Some t → t.calling ≡ true → ⊥
stays_free hs s t i z e c =
    let p = by_move_parts hs s i s.calling e in
    false≢true (sym (move_free hs s i s.calling e) ∙ (sym (quiet_move hs s (turn hs s) i z p.0) ∙ (ap (λ x. x.calling) p.1 ∙ c)))

open_by : (hs : List PickedHook) (most : ℕ) (s t : State) (i : Item) (is : List Item) → step hs most s i ≡ Some t → OpenCall t is → OpenCall s (i ∷ is)
open_by hs most s t i is st (inside front p k m es e) = inside (i ∷ front) p k m es (ap (λ l. i ∷ l) e)
open_by hs most s t (I.Edit x) is st (before es c e) = before (x ∷ es) (and_parts s.calling (can s.nodes x) (when_parts (s.calling && can s.nodes x) st).0).0 (ap (λ l. I.Edit x ∷ l) e)
open_by hs most s t (I.Call p k m) is st (before es c e) = inside [] p k m es (ap (λ l. I.Call p k m ∷ l) e)
open_by hs most s t (I.Back o) is st (before es c e) = absurd (false≢true (sym (back_free most s o) ∙ (ap (λ x. x.calling) (when_parts s.calling st).1 ∙ c)))
open_by hs most s t I.Pass is st (before es c e) = absurd (stays_free hs s t I.Pass refl st c)
open_by hs most s t (I.Enter n) is st (before es c e) = absurd (stays_free hs s t (I.Enter n) refl st c)
open_by hs most s t (I.Leave n) is st (before es c e) = absurd (stays_free hs s t (I.Leave n) refl st c)
open_by hs most s t I.End is st (before es c e) = absurd (stays_free hs s t I.End refl st c)

open_call : (hs : List PickedHook) (most : ℕ) (s t : State) (items : List Item) → follow hs most s items ≡ Some t → t.calling ≡ true → OpenCall s items
open_call hs most s t [] e c = before [] (ap (λ x. x.calling) (some_same e) ∙ c) refl
open_call hs most s t (i ∷ is) e c = let p = follow_parts hs most s i is t e in open_by hs most s p.mid i is p.first (open_call hs most p.mid t is p.rest c)

-- a run that ends with a fault ends with the call that failed
record FailedCall (text : List ℕ) (items : List Item) : Type 0 where
  plugin : ℕ
  hook : ℕ
  moment : Moment
  ends : EndsFailed plugin hook moment text items

failed_call : (hs : List PickedHook) (most : ℕ) (s t : State) (front items : List Item) (text : List ℕ) → s.calling ≡ false → items ≡ front ++ I.Back (Some text) ∷ [] → follow hs most s items ≡ Some t → FailedCall text items
failed_call hs most s t front items text c e run =
    let u = up_to_back hs most s t front (Some text) (ap (follow hs most s) (sym e) ∙ run) in
    elim (open_call hs most s u.state front u.run u.calling) [
      | before es d i ↦ absurd (false≢true (sym c ∙ d))
      | inside first p k m es i ↦ record {
        plugin = p;
        hook = k;
        moment = m;
        ends = record { front = first; edits = es; are = e ∙ (ap (λ l. l ++ I.Back (Some text) ∷ []) i ∙ append_assoc first (I.Call p k m ∷ map (λ x. I.Edit x) es) (I.Back (Some text) ∷ [])) };
      }
    ]

said_some : (b : Bool) (text : List ℕ) → text_where b text ≢ [] → b ≡ true
said_some true text n = refl
said_some false text n = absurd (n refl)

-- where the hook (i, j) says something, the call that failed is its own
own_call : (i j p k : ℕ) (m : Moment) (text : List ℕ) (items : List Item) (e : EndsFailed p k m text items) → IsFaultless e.front → said_of i j false items ≢ [] → EndsFailed i j m text items
own_call i j p k m text items e h n =
    let b = said_some (nat_eq p i && nat_eq k j) text (λ x. n (said_at_end i j p k m text e.front e.edits items e.are h ∙ x)) in
    let s = and_parts (nat_eq p i) (nat_eq k j) b in
    subst (λ q. EndsFailed q j m text items) (same_from_eqb p i s.0) (subst (λ q. EndsFailed p q m text items) (same_from_eqb k j s.1) e)

pub said_once : (hs : List PickedHook) (most : ℕ) (s t : State) (items : List Item) (i j : ℕ) → s.calling ≡ false → follow hs most s items ≡ Some t → said_of i j false items ≢ [] → Failure i j items
said_once hs most s t items i j c run n =
    elim (faults_in hs most s t items run) [
      | none h ↦ absurd (n (said_none i j false items h))
      | last front text e ↦
          let f = failed_call hs most s t front items text c e run in
          let h = faultless_before hs most s t f.ends.front (I.Call f.plugin f.hook f.moment) (map (λ x. I.Edit x) f.ends.edits ++ I.Back (Some text) ∷ []) (ap (follow hs most s) (sym f.ends.are) ∙ run) in
          let own = own_call i j f.plugin f.hook f.moment text items f.ends h n in
          record { moment = f.moment; text = text; ends = own; alone = failed_said hs most s t items i j f.moment text run own }
    ]
