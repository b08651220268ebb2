-- Two walks whose visitors have the same duties have one log and one end.
use Rattle.std.proofs.Common.{◌≡◌, ℕ, suc, ◌+◌, ◌≤◌, List, [], ◌∷◌, ◌++◌, Bool, true, false, Option, Some, None, refl, ap, sym, ◌∙◌, subst, map, arith, cond}
use Rattle.std.specs.Prelude.{◌&&◌}
use Rattle.std.specs.List.{All}
use Rattle.std.specs.Option.{option_map}
use Rattle.std.proofs.lemmas.Bool.{false≢true, and_parts, false_from_ne_true}
use Rattle.std.proofs.lemmas.List.Elements.{All-weaker}
use Rattle.node_rows.specs.Nodes.{Node}
use Rattle.node_store.specs.declared.item.Edit.{Edit}
use Rattle.node_store.specs.declared.item.Item.{Item}
use Rattle.node_store.specs.declared.item.Item.TheVariants as I
use Rattle.node_store.specs.declared.item.Moment.{Moment}
use Rattle.node_store.specs.Edits.{can}
use Rattle.plugin_api.specs.declared.visitor.Duty.{Duty}
use Rattle.plugin_api.specs.Effect.{IsEffect}
use Rattle.plugin_api.specs.Visit.{Answer, Does, Dutiful}
use Rattle.plugin_api.specs.Shelf.{HookSeen, PluginSeen, hook_at}
use Rattle.visitor_machine.specs.Hooks.{PickedHook}
use Rattle.visitor_machine.specs.Machine.{State, Move, ToPass, ToRoot, ToChild, ToEnterHook, ToExitHook, ToOnce, ToOnceExit, ToLeave, ToEnd, Nothing, Ended, item_of, turn_in, turn, done}
use Rattle.visitor_machine.specs.Follow.{is_item, by_move, step, and_then, follow, start}
use Rattle.visitor_machine.specs.Calls.{call_of, calls_in}
use Rattle.visitor_machine.proofs.Runs.{when_parts, by_move_parts, follow_parts, some_same}
use Rattle.visitor_walk.specs.declared.walk_end.WalkEnd.{WalkEnd}
use Rattle.visitor_walk.specs.declared.walk_end.WalkEnd.TheVariants.{Done, Failed, BudgetSpent, EditBudgetSpent}
use Rattle.visitor_walk.specs.Heard.{edits_ahead, came_back, duty_of}
use Rattle.visitor_walk.specs.Walk.{EndsCalled, Ends}
use Rattle.visitor_walk.specs.OneLog.{duty_at, SameDuties, HasDuty, EndedWalk}
use Rattle.visitor_walk.proofs.Calling.{back_free}
use Rattle.visitor_walk.proofs.Returning.{one_effect}
use Rattle.visitor_walk.proofs.Saying.{move_free, stays_free}
use Rattle.visitor_walk.proofs.Owning.{started_call}
use Rattle.visitor_walk.proofs.LastItems.{open_items, at_back, back_state, after_fault, after_edits, ends_once}
use Rattle.visitor_walk.proofs.SameItems.{item_is, one_item}

-- the log of edits
abbrev edits_of : List Edit → List Item
edits_of es = map (λ e. I.Edit e) es

-- the place has a hook whose visitor has a duty
abbrev Owes : List PluginSeen → ℕ → ℕ → Type 0
Owes shelf p k = (d : Duty) × (duty_at shelf p k ≡ Some (Some d))

abbrev AllOwe : List PluginSeen → List Item → Type 0
AllOwe shelf items = (front : List Item) (p k : ℕ) (m : Moment) (rest : List Item) → items ≡ front ++ I.Call p k m ∷ rest → Owes shelf p k

owes_by : (o : Option HookSeen) (h : HookSeen) (d : Duty) → o ≡ Some h → h.duty ≡ Some d → option_map (λ (x : HookSeen). x.duty) o ≡ Some (Some d)
owes_by o h d e i = ap (option_map (λ (x : HookSeen). x.duty)) e ∙ ap Some i

does_by : (o : Option HookSeen) (d : Duty) (ns : List Node) (m : Moment) (es : List Edit) (r : Answer) → option_map (λ (x : HookSeen). x.duty) o ≡ Some (Some d) → duty_of o ns m es r → Does d ns m es r
does_by None d ns m es r e h = absurd cc
does_by (Some x) d ns m es r e h = let i : x.duty ≡ Some d = cc in subst (λ y. Dutiful y ns m es r) i h

-- what stands behind a call that comes back: its edits, its end, and the rest
record Returned (items : List Item) : Type 0 where
  edits : List Edit
  fault : Option (List ℕ)
  behind : List Item
  are : items ≡ edits_of edits ++ I.Back fault ∷ behind

-- the same of a call that did its duty
record Dutied (d : Duty) (ns : List Node) (m : Moment) (items : List Item) : Type 0 where
  edits : List Edit
  behind : List Item
  are : items ≡ edits_of edits ++ I.Back None ∷ behind
  effect : IsEffect d ns m edits

dutied_by : (d : Duty) (ns : List Node) (m : Moment) (items : List Item) (es : List Edit) (fault : Option (List ℕ)) (behind : List Item) → items ≡ edits_of es ++ I.Back fault ∷ behind → Does d ns m es (came_back (I.Back fault ∷ behind)) → Dutied d ns m items
dutied_by d ns m items es None behind e h = record { edits = es; behind = behind; are = e; effect = h }
dutied_by d ns m items es (Some text) behind e h = absurd h

-- both logs go on with the same edits and the end of the call
record BothOpen (xs ys : List Item) : Type 0 where
  edits : List Edit
  behind : List Item
  other : List Item
  left : xs ≡ edits_of edits ++ I.Back None ∷ behind
  right : ys ≡ edits_of edits ++ I.Back None ∷ other

open_heads : (i j : Item) (xs ys : List Item) (es : List Edit) (b o : List Item) → i ∷ xs ≡ edits_of es ++ I.Back None ∷ b → j ∷ ys ≡ edits_of es ++ I.Back None ∷ o → i ≡ j
open_heads i j xs ys [] b o e f = cc
open_heads i j xs ys (x ∷ es) b o e f = cc

module _ (hs : List PickedHook) (most : ℕ) where
  -- a call that is open isn't at the end of a run
  abbrev IsOn : State → Type 0
  IsOn s = s.calling ≡ true → s.stage ≡ Ended → ⊥

  done_on : (s : State) (m : Move) → (s.stage ≡ Ended → ⊥) → s.calling ≡ false → IsOn (done hs s m)
  done_on s ToPass n f = λ c e. false≢true (sym f ∙ c)
  done_on s ToRoot n f = λ c e. false≢true (sym f ∙ c)
  done_on s (ToChild k j) n f = λ c e. false≢true (sym f ∙ c)
  done_on s (ToEnterHook k x j) n f = λ c e. n e
  done_on s (ToExitHook k x j) n f = λ c e. n e
  done_on s (ToOnce x rest) n f = λ c e. cc
  done_on s (ToOnceExit x rest) n f = λ c e. cc
  done_on s (ToLeave k) n f = λ c e. false≢true (sym f ∙ c)
  done_on s ToEnd n f = λ c e. false≢true (sym f ∙ c)
  done_on s Nothing n f = λ c e. n e

  moved_on : (s t : State) (i : Item) → by_move hs s i s.calling ≡ Some t → IsOn t
  moved_on s t i e =
      let p = by_move_parts hs s i s.calling e in
      subst IsOn p.1 (done_on s (turn hs s) (λ g. false≢true (sym (ap (λ x. is_item i (item_of (turn_in hs s.nodes s.frames x))) g) ∙ p.0)) (move_free hs s i s.calling e))

  step_on : (s t : State) (i : Item) → IsOn s → step hs most s i ≡ Some t → IsOn t
  step_on s t (I.Edit x) h e = subst IsOn (when_parts (s.calling && can s.nodes x) e).1 h
  step_on s t (I.Back o) h e = λ c g. false≢true (sym (ap (λ u. u.calling) (sym (when_parts s.calling e).1) ∙ back_free most s o) ∙ c)
  step_on s t I.Pass h e = moved_on s t I.Pass e
  step_on s t (I.Enter n) h e = moved_on s t (I.Enter n) e
  step_on s t (I.Call p k m) h e = moved_on s t (I.Call p k m) e
  step_on s t (I.Leave n) h e = moved_on s t (I.Leave n) e
  step_on s t I.End h e = moved_on s t I.End e

  run_on : (s t : State) (items : List Item) → IsOn s → follow hs most s items ≡ Some t → IsOn t
  run_on s t [] h e = subst IsOn (some_same e) h
  run_on s t (i ∷ is) h e = let p = follow_parts hs most s i is t e in run_on p.mid t is (step_on s p.mid i h p.first) p.rest

  -- outside a call the item is the machine's
  takes : (s t : State) (i : Item) → s.calling ≡ false → step hs most s i ≡ Some t → is_item i (item_of (turn hs s)) ≡ true
  takes s t (I.Edit x) c e = absurd (false≢true (sym c ∙ (and_parts s.calling (can s.nodes x) (when_parts (s.calling && can s.nodes x) e).0).0))
  takes s t (I.Back o) c e = absurd (false≢true (sym c ∙ (when_parts s.calling e).0))
  takes s t I.Pass c e = (by_move_parts hs s I.Pass s.calling e).0
  takes s t (I.Enter n) c e = (by_move_parts hs s (I.Enter n) s.calling e).0
  takes s t (I.Call p k m) c e = (by_move_parts hs s (I.Call p k m) s.calling e).0
  takes s t (I.Leave n) c e = (by_move_parts hs s (I.Leave n) s.calling e).0
  takes s t I.End c e = (by_move_parts hs s I.End s.calling e).0

  -- a call that is open at first and not at the end comes back
  no_move : (s t : State) (i : Item) → s.calling ≡ true → by_move hs s i s.calling ≡ Some t → ⊥
  no_move s t i c e = false≢true (sym (move_free hs s i s.calling e) ∙ c)

  returned : (s t : State) (items : List Item) → s.calling ≡ true → follow hs most s items ≡ Some t → t.calling ≡ false → Returned items
  returned s t [] c e f = absurd (false≢true (sym (ap (λ u. u.calling) (some_same e) ∙ f) ∙ c))
  returned s t (I.Edit x ∷ is) c e f =
      let p = follow_parts hs most s (I.Edit x) is t e in
      let q = returned p.mid t is (ap (λ u. u.calling) (sym (when_parts (s.calling && can s.nodes x) p.first).1) ∙ c) p.rest f in
      record { edits = x ∷ q.edits; fault = q.fault; behind = q.behind; are = ap (λ l. I.Edit x ∷ l) q.are }
  returned s t (I.Back o ∷ is) c e f = record { edits = []; fault = o; behind = is; are = refl }
  returned s t (I.Pass ∷ is) c e f = let p = follow_parts hs most s I.Pass is t e in absurd (no_move s p.mid I.Pass c p.first)
  returned s t (I.Enter n ∷ is) c e f = let p = follow_parts hs most s (I.Enter n) is t e in absurd (no_move s p.mid (I.Enter n) c p.first)
  returned s t (I.Call p k m ∷ is) c e f = let q = follow_parts hs most s (I.Call p k m) is t e in absurd (no_move s q.mid (I.Call p k m) c q.first)
  returned s t (I.Leave n ∷ is) c e f = let p = follow_parts hs most s (I.Leave n) is t e in absurd (no_move s p.mid (I.Leave n) c p.first)
  returned s t (I.End ∷ is) c e f = let p = follow_parts hs most s I.End is t e in absurd (no_move s p.mid I.End c p.first)

  -- the duties are kept from a state on
  abbrev Keeping : List PluginSeen → State → List Item → Type 0
  Keeping shelf s items = (front : List Item) (p h : ℕ) (m : Moment) (es : List Edit) (rest : List Item) (t : State) → items ≡ front ++ I.Call p h m ∷ (edits_of es ++ rest) → edits_ahead rest ≡ 0 → follow hs most s front ≡ Some t → duty_of (hook_at shelf p h) t.nodes m es (came_back rest)

  keeping_on : (shelf : List PluginSeen) (s t : State) (i : Item) (is : List Item) → step hs most s i ≡ Some t → Keeping shelf s (i ∷ is) → Keeping shelf t is
  keeping_on shelf s t i is e k = λ front p h m es rest u j z f. k (i ∷ front) p h m es rest u (ap (λ l. i ∷ l) j) z (ap (λ o. and_then o (λ x. follow hs most x front)) e ∙ f)

  module _ (budget : ℕ) where
    -- after so many calls nothing follows, or all are made and one more is due
    data Last (calls : ℕ) (t : State) : Type 0 where
      nothing : item_of (turn hs t) ≡ None → Last calls t
      due : (p k : ℕ) (m : Moment) → calls ≡ budget → item_of (turn hs t) ≡ Some (I.Call p k m) → Last calls t

    no_more : (s t : State) (i : Item) (calls : ℕ) → s.calling ≡ false → Last calls s → step hs most s i ≡ Some t → calls + call_of i ≤ budget → ⊥
    no_more s t i calls c (nothing e) st l = false≢true (sym (ap (is_item i) e) ∙ takes s t i c st)
    no_more s t i calls c (due p k m b e) st l =
        let z : call_of i ≡ 1 = ap call_of (item_is i (I.Call p k m) (sym (ap (is_item i) e) ∙ takes s t i c st)) in
        omega arith

    -- the rest of a walk, before which so many calls were made
    record Rest (shelf : List PluginSeen) (s : State) (made : ℕ) (items : List Item) : Type 0 where
      end : State
      run : follow hs most s items ≡ Some end
      keeps : Keeping shelf s items
      owed : AllOwe shelf items
      calls : ℕ
      count : made + calls_in items ≡ calls
      paid : calls ≤ budget
      free : end.calling ≡ false
      last : Last calls end

    record RestOn (shelf : List PluginSeen) (s : State) (made : ℕ) (i : Item) (is : List Item) : Type 0 where
      mid : State
      first : step hs most s i ≡ Some mid
      rest : Rest shelf mid (made + call_of i) is

    rest_on : (shelf : List PluginSeen) (s : State) (made : ℕ) (i : Item) (is : List Item) → Rest shelf s made (i ∷ is) → RestOn shelf s made i is
    rest_on shelf s made i is r =
        let p = follow_parts hs most s i is r.end r.run in
        let c : made + (call_of i + calls_in is) ≡ r.calls = r.count in
        record {
          mid = p.mid;
          first = p.first;
          rest = record {
            end = r.end;
            run = p.rest;
            keeps = keeping_on shelf s p.mid i is p.first r.keeps;
            owed = λ front q k m rest e. r.owed (i ∷ front) q k m rest (ap (λ l. i ∷ l) e);
            calls = r.calls;
            count = omega arith;
            paid = r.paid;
            free = r.free;
            last = r.last;
          };
        }

    -- one walk can't end where another one goes on
    no_longer : (a b : List PluginSeen) (s : State) (made : ℕ) (i : Item) (is : List Item) → Rest a s made [] → Rest b s made (i ∷ is) → ⊥
    no_longer a b s made i is x y =
        let e = some_same x.run in
        let n = rest_on b s made i is y in
        let c : made + 0 ≡ x.calls = x.count in
        let d : made + (call_of i + calls_in is) ≡ y.calls = y.count in
        let p = y.paid in
        no_more s n.mid i x.calls (ap (λ u. u.calling) e ∙ x.free) (subst (λ u. Last x.calls u) (sym e) x.last) n.first (omega arith)

    -- a call comes back with its duty done
    dutied : (shelf : List PluginSeen) (s t : State) (made p k : ℕ) (m : Moment) (is : List Item) (d : Duty) → duty_at shelf p k ≡ Some (Some d) → Rest shelf s made (I.Call p k m ∷ is) → step hs most s (I.Call p k m) ≡ Some t → t.calling ≡ true → Dutied d s.nodes m is
    dutied shelf s t made p k m is d o r st c =
        let q = returned t r.end is c (sym (ap (λ x. and_then x (λ u. follow hs most u is)) st) ∙ r.run) r.free in
        let h = r.keeps [] p k m q.edits (I.Back q.fault ∷ q.behind) s (ap (λ l. I.Call p k m ∷ l) q.are) refl refl in
        dutied_by d s.nodes m is q.edits q.fault q.behind q.are (does_by (hook_at shelf p k) d s.nodes m q.edits (came_back (I.Back q.fault ∷ q.behind)) o h)

    module _ (a b : List PluginSeen) (same : SameDuties a b) where
      call_opens : (s t : State) (made p k : ℕ) (m : Moment) (xs ys : List Item) → Rest a s made (I.Call p k m ∷ xs) → Rest b s made (I.Call p k m ∷ ys) → step hs most s (I.Call p k m) ≡ Some t → t.calling ≡ true → BothOpen xs ys
      call_opens s t made p k m xs ys x y st c =
          let o = x.owed [] p k m xs refl in
          let q = dutied a s t made p k m xs o.0 o.1 x st c in
          let r = dutied b s t made p k m ys o.0 (sym (same p k) ∙ o.1) y st c in
          record {
            edits = q.edits;
            behind = q.behind;
            other = r.behind;
            left = q.are;
            right = r.are ∙ ap (λ es. edits_of es ++ I.Back None ∷ r.behind) (one_effect o.0 s.nodes m q.edits r.edits q.effect r.effect);
          }

      back_closes : (s t : State) (i : Item) → i ≡ I.Back None → step hs most s i ≡ Some t → t.calling ≡ true → ⊥
      back_closes s t i j e c = false≢true (ap (λ u. u.calling) (when_parts s.calling (ap (step hs most s) (sym j) ∙ e)).1 ∙ c)

      open_on : (s t : State) (i j : Item) (xs ys : List Item) (es : List Edit) (l o : List Item) → i ∷ xs ≡ edits_of es ++ I.Back None ∷ l → j ∷ ys ≡ edits_of es ++ I.Back None ∷ o → step hs most s i ≡ Some t → t.calling ≡ true → BothOpen xs ys
      open_on s t i j xs ys [] l o e f st c = absurd (back_closes s t i (let z : i ≡ I.Back None = cc in z) st c)
      open_on s t i j xs ys (x ∷ es) l o e f st c = record { edits = es; behind = l; other = o; left = cc; right = cc }

      free_on : (s t : State) (made : ℕ) (i : Item) (xs ys : List Item) → s.calling ≡ false → Rest a s made (i ∷ xs) → Rest b s made (i ∷ ys) → step hs most s i ≡ Some t → t.calling ≡ true → BothOpen xs ys
      free_on s t made (I.Call p k m) xs ys f x y st c = call_opens s t made p k m xs ys x y st c
      free_on s t made (I.Edit e) xs ys f x y st c = absurd (false≢true (sym f ∙ (and_parts s.calling (can s.nodes e) (when_parts (s.calling && can s.nodes e) st).0).0))
      free_on s t made (I.Back o) xs ys f x y st c = absurd (false≢true (sym f ∙ (when_parts s.calling st).0))
      free_on s t made I.Pass xs ys f x y st c = absurd (stays_free hs s t I.Pass refl st c)
      free_on s t made (I.Enter n) xs ys f x y st c = absurd (stays_free hs s t (I.Enter n) refl st c)
      free_on s t made (I.Leave n) xs ys f x y st c = absurd (stays_free hs s t (I.Leave n) refl st c)
      free_on s t made I.End xs ys f x y st c = absurd (stays_free hs s t I.End refl st c)

      -- where a call is open, the logs agree up to its end
      abbrev Agree : Bool → List Item → List Item → Type 0
      Agree calling xs ys = calling ≡ true → BothOpen xs ys

      first_by : (s t u : State) (i j : Item) (xs ys : List Item) (c : Bool) → s.calling ≡ c → Agree c (i ∷ xs) (j ∷ ys) → step hs most s i ≡ Some t → step hs most s j ≡ Some u → i ≡ j
      first_by s t u i j xs ys true c g e f = let o = g refl in open_heads i j xs ys o.edits o.behind o.other o.left o.right
      first_by s t u i j xs ys false c g e f = one_item i j (item_of (turn hs s)) (takes s t i c e) (takes s u j c f)

      agree_on : (s t : State) (made : ℕ) (i j : Item) (xs ys : List Item) (c : Bool) → s.calling ≡ c → Agree c (i ∷ xs) (j ∷ ys) → Rest a s made (i ∷ xs) → Rest b s made (i ∷ ys) → step hs most s i ≡ Some t → Agree t.calling xs ys
      agree_on s t made i j xs ys true c g x y st = λ k. let o = g refl in open_on s t i j xs ys o.edits o.behind o.other o.left o.right st k
      agree_on s t made i j xs ys false c g x y st = λ k. free_on s t made i xs ys c x y st k

      same_rest : (s : State) (made : ℕ) (xs ys : List Item) → Agree s.calling xs ys → Rest a s made xs → Rest b s made ys → xs ≡ ys
      same_rest s made [] [] g x y = refl
      same_rest s made [] (j ∷ ys) g x y = absurd (no_longer a b s made j ys x y)
      same_rest s made (i ∷ xs) [] g x y = absurd (no_longer b a s made i xs y x)
      same_rest s made (i ∷ xs) (j ∷ ys) g x y =
          let p = rest_on a s made i xs x in
          let o = rest_on b s made j ys y in
          let e = first_by s p.mid o.mid i j xs ys s.calling refl g p.first o.first in
          let z = subst (λ h. Rest b s made (h ∷ ys)) (sym e) y in
          let q = rest_on b s made i ys z in
          let r = subst (λ u. Rest b u (made + call_of i) ys) (some_same (sym q.first ∙ p.first)) q.rest in
          ap (λ h. h ∷ xs) e ∙ ap (λ l. j ∷ l) (same_rest p.mid (made + call_of i) xs ys (agree_on s p.mid made i j xs ys s.calling refl g x z p.first) p.rest r)

    -- what the end says of the last state
    next_parts : (c : Bool) (o : Option Item) (i : Item) → cond {A = Option Item} c None o ≡ Some i → (c ≡ false) × (o ≡ Some i)
    next_parts true o i e = absurd cc
    next_parts false o i e = (refl, e)

    called_free : (s t : State) (items : List Item) (m : Moment) (fault : Option (List ℕ)) → follow hs most s items ≡ Some t → EndsCalled items m fault → t.calling ≡ false
    called_free s t items m fault run e =
        let u = back_state hs most s t (open_items e) fault (ap (follow hs most s) (sym (at_back e)) ∙ run) in
        ap (λ x. x.calling) (sym u.1) ∙ back_free most u.0 fault

    last_state : (s t : State) (items : List Item) (end : WalkEnd) → IsOn s → follow hs most s items ≡ Some t → Ends end hs budget most t items → (t.calling ≡ false) × Last (calls_in items) t
    last_state s t items Done n run e = (false_from_ne_true t.calling (λ c. run_on s t items n run c e), nothing (ap (λ g. item_of (turn_in hs t.nodes t.frames g)) e))
    last_state s t items (Failed text m) n run e = (called_free s t items m (Some text) run e, nothing (ap (λ g. item_of (turn_in hs t.nodes t.frames g)) (after_fault hs most s t items run m text e)))
    last_state s t items (BudgetSpent calls m) n run e = let p = next_parts t.calling (item_of (turn hs t)) (I.Call e.2.plugin e.2.hook m) e.2.is in (p.0, due e.2.plugin e.2.hook m e.1 p.1)
    last_state s t items (EditBudgetSpent edits m) n run e = (called_free s t items m None run e.2, nothing (ap (λ g. item_of (turn_in hs t.nodes t.frames g)) (after_edits hs most s t items run m e.2 (subst (λ k. suc most ≤ k) e.0 e.1))))

    walk_rest : (shelf : List PluginSeen) (ns : List Node) (items : List Item) (end : WalkEnd) → All (λ x. Owes shelf x.plugin x.hook) hs → EndedWalk shelf hs budget most ns items end → Rest shelf (start hs ns) 0 items
    walk_rest shelf ns items end own w =
        let l = last_state (start hs ns) w.state items end (λ c e. false≢true c) w.run w.ends in
        record {
          end = w.state;
          run = w.run;
          keeps = w.duties;
          owed = λ front p k m rest e. started_call (Owes shelf) hs own most ns items w.state front p k m rest w.run e;
          calls = calls_in items;
          count = omega arith;
          paid = w.paid;
          free = l.0;
          last = l.1;
        }

pub one_log : (hs : List PickedHook) (budget most : ℕ) (ns : List Node) (a b : List PluginSeen) (items others : List Item) (end other : WalkEnd) → SameDuties a b → All (HasDuty a) hs → EndedWalk a hs budget most ns items end → EndedWalk b hs budget most ns others other → (items ≡ others) × (end ≡ other)
one_log hs budget most ns a b items others end other same own x y =
    let mine = All-weaker (HasDuty a) (λ h. Owes a h.plugin h.hook) (λ h o. (o.duty, owes_by (hook_at a h.plugin h.hook) o.seen o.duty o.there o.owes)) hs own in
    let its = All-weaker (λ h. Owes a h.plugin h.hook) (λ h. Owes b h.plugin h.hook) (λ h o. (o.0, sym (same h.plugin h.hook) ∙ o.1)) hs mine in
    let e = same_rest hs most budget a b same (start hs ns) 0 items others (λ c. absurd (false≢true c)) (walk_rest hs most budget a ns items end mine x) (walk_rest hs most budget b ns others other its y) in
    let s = some_same (sym x.run ∙ (ap (follow hs most (start hs ns)) e ∙ y.run)) in
    let f = subst (λ l. Ends other hs budget most x.state l) (sym e) (subst (λ u. Ends other hs budget most u others) (sym s) y.ends) in
    (e, ends_once hs most (start hs ns) x.state items x.run budget end other x.ends f)
