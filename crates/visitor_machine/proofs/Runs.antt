-- The invariant over a whole run.
use Rattle.std.proofs.Common.{inl, inr, ◌≡◌, ℕ, suc, ◌+◌, ◌<◌, List, [], ◌∷◌, Bool, true, false, length, Option, Some, None, refl, ap, sym, ◌∙◌, arith, drop, subst}
use Rattle.std.specs.Prelude.{filter, ◌&&◌}
use Rattle.std.proofs.lemmas.Bool.{false≢true, and_parts}
use Rattle.node_rows.specs.Nodes.{Node, parent_of, children_of, is_dirty, holds}
use Rattle.node_rows.specs.Sound.{IsSound}
use Rattle.node_rows.specs.Marks.{with_mark}
use Rattle.visitor_machine.specs.Machine.{kind_at, key_at}
use Rattle.node_store.specs.declared.item.Event.TheVariants as E
use Rattle.visitor_machine.specs.Hooks.{PickedHook, enters, exits, fits, is_at}
use Rattle.node_store.specs.Cursors.{through}
use Rattle.node_store.specs.Edits.{can}
use Rattle.node_store.specs.declared.item.Item.{Item}
use Rattle.node_store.specs.declared.item.Item.TheVariants as I
use Rattle.visitor_machine.specs.Machine.{called, Frame, State, Stage, Opening, Walking, Passing, Closing, Ended, Stopped, at_exit, at_child, at_enter, in_tree_at, closing, at_rest, walking, turn_in, turn, item_of, new_frame, passing_on, calling_enter, calling_exit, outer, leaving, done}
use Rattle.visitor_machine.specs.Follow.{is_item, when, by_move, back, step, and_then, follow, start}
use Rattle.visitor_machine.specs.Settled.{IsAllDirty}
use Rattle.visitor_machine.proofs.Above.{Above, holds_from_above, above_step}
use Rattle.visitor_machine.proofs.Good.{GoodAt, Good}
use Rattle.visitor_machine.proofs.Steps.{NoEnter, good_edit, good_count, good_root, good_child, good_enter_hook, good_exit_hook, good_leave_out, good_leave_whole}

-- the moves of an open visit
module _ (hs : List PickedHook) (s : State) (f : Frame) (fs : List Frame) (e : s.frames ≡ f ∷ fs) (h : GoodAt hs s.nodes (f ∷ fs) s.visits s.touched s.count) where
  good_at_exit : NoEnter hs s.nodes f f.node → through (is_dirty s.nodes) (drop f.passed (children_of s.nodes f.node)) ≡ None → (o : Option (PickedHook × ℕ)) → through (fits (key_at s.nodes f.node)) (drop f.exit (exits hs (kind_at s.nodes f.node))) ≡ o → Good hs (done hs s (at_exit f o))
  good_at_exit none clean None i = subst (λ l. GoodAt hs s.nodes (outer l) (leaving s.count l s.visits) s.touched (suc s.count)) (sym e) (good_leave_whole hs s.nodes f fs s.visits s.touched s.count none clean i h)
  good_at_exit none clean (Some x) i = subst (λ l. GoodAt hs s.nodes (calling_exit hs s.nodes (called f.node x.0) (f.exit + x.1) l) s.visits s.touched (suc s.count)) (sym e) (good_exit_hook hs s.nodes f fs s.visits s.touched s.count x.0 x.1 none i h)

  good_at_child : NoEnter hs s.nodes f f.node → (o : Option (ℕ × ℕ)) → through (is_dirty s.nodes) (drop f.passed (children_of s.nodes f.node)) ≡ o → Good hs (done hs s (at_child hs s.nodes f o))
  good_at_child none None i = good_at_exit none i (through (fits (key_at s.nodes f.node)) (drop f.exit (exits hs (kind_at s.nodes f.node)))) refl
  good_at_child none (Some x) i = subst (λ l. GoodAt hs (with_mark s.nodes x.0 false) (new_frame x.0 s.count ∷ passing_on hs s.nodes (f.passed + x.1) l) s.visits s.touched (suc s.count)) (sym e) (good_child hs s.nodes f fs s.visits s.touched s.count x.0 x.1 none i h)

  good_at_enter : (o : Option (PickedHook × ℕ)) → through (fits (key_at s.nodes f.node)) (drop f.enter (enters hs (kind_at s.nodes f.node))) ≡ o → Good hs (done hs s (at_enter hs s.nodes f o))
  good_at_enter None i = good_at_child i (through (is_dirty s.nodes) (drop f.passed (children_of s.nodes f.node))) refl
  good_at_enter (Some x) i = subst (λ l. GoodAt hs s.nodes (calling_enter (called f.node x.0) (f.enter + x.1) l) s.visits s.touched (suc s.count)) (sym e) (good_enter_hook hs s.nodes f fs s.visits s.touched s.count x.0 x.1 i h)

  good_in_tree : (b : Bool) → holds s.nodes 0 f.node ≡ b → Good hs (done hs s (in_tree_at hs s.nodes f b))
  good_in_tree false i = subst (λ l. GoodAt hs s.nodes (outer l) (leaving s.count l s.visits) s.touched (suc s.count)) (sym e) (good_leave_out hs s.nodes f fs s.visits s.touched s.count i h)
  good_in_tree true i = good_at_enter (through (fits (key_at s.nodes f.node)) (drop f.enter (enters hs (kind_at s.nodes f.node)))) refl

good_closing : (hs : List PickedHook) (s : State) (l : List PickedHook) → Good hs s → Good hs (done hs s (closing l))
good_closing hs s [] h = good_count h
good_closing hs s (x ∷ l) h = good_count h

good_at_rest : (hs : List PickedHook) (s : State) (b : Bool) → Good hs s → Good hs (done hs s (at_rest hs b))
good_at_rest hs s true h = good_count h
good_at_rest hs s false h = good_closing hs s (filter (is_at E.OnceExit) hs) h

good_walking : (hs : List PickedHook) (s : State) (fs : List Frame) → s.frames ≡ fs → Good hs s → Good hs (done hs s (walking hs s.nodes fs))
good_walking hs s [] e h = good_at_rest hs s (is_dirty s.nodes 0) h
good_walking hs s (f ∷ fs) e h = good_in_tree hs s f fs e (subst (λ l. GoodAt hs s.nodes l s.visits s.touched s.count) e h) (holds s.nodes 0 f.node) refl

good_turn : (hs : List PickedHook) (s : State) (g : Stage) → Good hs s → Good hs (done hs s (turn_in hs s.nodes s.frames g))
good_turn hs s (Opening []) h = good_walking hs s s.frames refl h
good_turn hs s (Opening (x ∷ l)) h = good_count h
good_turn hs s Walking h = good_walking hs s s.frames refl h
good_turn hs s Passing h = good_root hs s.nodes s.frames s.visits s.touched s.count h
good_turn hs s (Closing l) h = good_closing hs s l h
good_turn hs s Ended h = h
good_turn hs s Stopped h = h

pub when_parts : (b : Bool) {x t : State} → when b x ≡ Some t → (b ≡ true) × (x ≡ t)
when_parts true {x} {t} e = (refl, ap (λ o. elim o as (λ _. State) [ None ↦ x | Some p ↦ p ]) e)
when_parts false e = absurd cc

pub by_move_parts : (hs : List PickedHook) (s : State) (i : Item) (b : Bool) {t : State} → by_move hs s i b ≡ Some t → (is_item i (item_of (turn hs s)) ≡ true) × (done hs s (turn hs s) ≡ t)
by_move_parts hs s i true e = absurd cc
by_move_parts hs s i false e = when_parts (is_item i (item_of (turn hs s))) e

good_moved : (hs : List PickedHook) (s t : State) (i : Item) → Good hs s → by_move hs s i s.calling ≡ Some t → Good hs t
good_moved hs s t i h e = subst (Good hs) (by_move_parts hs s i s.calling e).1 (good_turn hs s s.stage h)

good_back : (hs : List PickedHook) (most : ℕ) (s : State) (o : Option (List ℕ)) → Good hs s → Good hs (back most s o)
good_back hs most s None h = good_count h
good_back hs most s (Some x) h = good_count h

pub good_step : (hs : List PickedHook) (most : ℕ) (s t : State) (i : Item) → Good hs s → step hs most s i ≡ Some t → Good hs t
good_step hs most s t (I.Edit x) h e =
    let p = when_parts (s.calling && can s.nodes x) e in
    subst (Good hs) p.1 (good_edit hs s.nodes s.frames s.visits s.touched s.count x (and_parts s.calling (can s.nodes x) p.0).1 h)
good_step hs most s t (I.Back o) h e = subst (Good hs) (when_parts s.calling e).1 (good_back hs most s o h)
good_step hs most s t I.Pass h e = good_moved hs s t I.Pass h e
good_step hs most s t (I.Enter n) h e = good_moved hs s t (I.Enter n) h e
good_step hs most s t (I.Call p k m) h e = good_moved hs s t (I.Call p k m) h e
good_step hs most s t (I.Leave n) h e = good_moved hs s t (I.Leave n) h e
good_step hs most s t I.End h e = good_moved hs s t I.End h e

-- a run of one item more
pub record Steps (hs : List PickedHook) (most : ℕ) (s : State) (i : Item) (is : List Item) (t : State) : Type 0 where
  pub mid : State
  pub first : step hs most s i ≡ Some mid
  pub rest : follow hs most mid is ≡ Some t

then_parts : (o : Option State) (f : State → Option State) {t : State} → and_then o f ≡ Some t → (u : State) × (o ≡ Some u) × (f u ≡ Some t)
then_parts None f e = absurd cc
then_parts (Some u) f e = (u, refl, e)

pub follow_parts : (hs : List PickedHook) (most : ℕ) (s : State) (i : Item) (is : List Item) (t : State) → follow hs most s (i ∷ is) ≡ Some t → Steps hs most s i is t
follow_parts hs most s i is t e = let p = then_parts (step hs most s i) (λ u. follow hs most u is) e in record { mid = p.0; first = p.1; rest = p.2 }

pub some_same : {s t : State} → Some s ≡ Some t → s ≡ t
some_same {s} {t} e = ap (λ o. elim o as (λ _. State) [ None ↦ s | Some p ↦ p ]) e

pub good_follow : (hs : List PickedHook) (most : ℕ) (s t : State) (log : List Item) → Good hs s → follow hs most s log ≡ Some t → Good hs t
good_follow hs most s t [] h e = subst (Good hs) (some_same e) h
good_follow hs most s t (i ∷ is) h e = let p = follow_parts hs most s i is t e in good_follow hs most p.mid t is (good_step hs most s p.mid i h p.first) p.rest

pub good_start : (hs : List PickedHook) (ns : List Node) → IsSound ns → 0 < length ns → IsAllDirty ns → Good hs (start hs ns)
good_start hs ns s z d = record {
  sound = s;
  some = z;
  known = λ n. omega arith;
  covered = λ c q e a i. elim (above_step q a e) [
    | inl w ↦ let j : parent_of ns c ≡ parent_of ns 0 = ap (λ k. parent_of ns k) w in let r = s.root in absurd cc
    | inr b ↦ inl (d q (s.below c q e, holds_from_above s z b))
  ];
  visited = λ n a i. absurd (false≢true (sym i ∙ d n (inside n a, holds_from_above s z a)));
}
  where
    inside : (n : ℕ) → Above ns 0 n → n < length ns
    inside n a = Rattle.visitor_machine.proofs.Changes.above_inside z a
