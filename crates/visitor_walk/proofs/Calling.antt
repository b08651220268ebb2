-- A walk that goes on by a call.
use Rattle.std.proofs.Common.{◌≡◌, ℕ, suc, zero, ◌+◌, List, [], ◌∷◌, Bool, true, false, length, Option, Some, None, refl, ap, sym, ◌∙◌, subst, map, arith, slice_get, slice_set, sum_by, Ok, Err, cond, ◌-◌, ◌≤◌}
use Rattle.std.specs.Prelude.{nat_eq, nat_lt, ◌&&◌}
use Rattle.std.proofs.lemmas.Bool.{and_parts, le-ltb}
use Rattle.node_rows.specs.Nodes.{Node}
use Rattle.node_store.specs.declared.item.Edit.{Edit}
use Rattle.node_store.specs.declared.item.Moment.{Moment}
use Rattle.node_store.specs.Forest.{Forest, Place, cursor_at}
use Rattle.node_rows.specs.Nodes.{parent_of, place_of}
use Rattle.node_store.specs.declared.item.Edit.TheVariants.{Set, SetRaw, New, Insert, Remove}
use Rattle.std.proofs.lemmas.List.Sums.{sum_by-cons}
use Rattle.plugin_api.specs.declared.visitor.VisitFault.TheVariants.{Plugin, Memory}
use Rattle.plugin_api.specs.Open.{open_total, LeavesOpen}
use Rattle.plugin_api.specs.Visit.{Answer}
use Rattle.visitor_walk.specs.Called.{IsBack}
use Rattle.plugin_api.specs.Shelf.{HookSeen, PluginSeen, left_total, hooks_of, hook_at, VisitedAt}
use Rattle.plugin_api.proofs.ShelfLemmas.{get_other, get_same}
use Rattle.node_store.specs.Edits.{moved, moved_from, can, all_can, apply, apply_all, moved_all}
use Rattle.visitor_machine.specs.Machine.{Frame, State, edited, moved_frame}
use Rattle.visitor_machine.specs.Follow.{back}
use Rattle.visitor_machine.proofs.Turns.{CanAll, edited_all}
use Rattle.visitor_walk.specs.declared.turn.Open.{Open}
use Rattle.visitor_walk.specs.Turns.{IsSeated, AllShown}

pub can_each : (ns : List Node) (es : List Edit) → all_can ns es ≡ true → CanAll ns es
can_each ns [] h = tt
can_each ns (e ∷ es) h = let p = and_parts (can ns e) (all_can (apply ns e) es) h in (p.0, can_each (apply ns e) es p.1)

pub edited_nodes : (s : State) (es : List Edit) → (edited_all s es).nodes ≡ apply_all s.nodes es
edited_nodes s [] = refl
edited_nodes s (e ∷ es) = edited_nodes (edited s e) es

pub edited_count : (s : State) (es : List Edit) → (edited_all s es).edits ≡ s.edits + length es
edited_count s [] = let e : s.edits ≡ s.edits + 0 = omega arith in e
edited_count s (e ∷ es) = edited_count (edited s e) es ∙ (let i : suc s.edits + length es ≡ s.edits + suc (length es) = omega arith in i)

pub edited_stage : (s : State) (es : List Edit) → (edited_all s es).stage ≡ s.stage
edited_stage s [] = refl
edited_stage s (e ∷ es) = edited_stage (edited s e) es

-- frames that are moved by edits
abbrev pub moved_frames : List Node → List Edit → List Frame → List Frame
moved_frames ns [] fs = fs
moved_frames ns (e ∷ es) fs = moved_frames (apply ns e) es (map (moved_frame ns e) fs)

pub edited_frames : (s : State) (es : List Edit) → (edited_all s es).frames ≡ moved_frames s.nodes es s.frames
edited_frames s [] = refl
edited_frames s (e ∷ es) = edited_frames (edited s e) es

-- how many children of q are passed after the edits
abbrev pub moved_count : List Node → List Edit → ℕ → ℕ → ℕ
moved_count ns [] q k = k
moved_count ns (e ∷ es) q k = moved_count (apply ns e) es q (moved ns e q k)

moved_some : (ns : List Node) (es : List Edit) (q k : ℕ) → moved_all ns es (Some (record { container = q; passed = k })) ≡ Some (record { container = q; passed = moved_count ns es q k })
moved_some ns [] q k = refl
moved_some ns (e ∷ es) q k = moved_some (apply ns e) es q (moved ns e q k)

not_up : (b : Bool) (at : ℕ) → cond {A = ℕ} (b && nat_lt at 0) 1 0 ≡ 0
not_up true at = let l : 0 ≤ at = omega arith in ap (λ b. cond {A = ℕ} b 1 0) (le-ltb at 0 l)
not_up false at = refl

not_down : (b : Bool) → cond {A = ℕ} b (0 - 1) 0 ≡ 0
not_down true = refl
not_down false = refl

from_zero : (ns : List Node) (n : ℕ) (o : Option ℕ) (q : ℕ) → moved_from ns n o q 0 ≡ 0
from_zero ns n None q = refl
from_zero ns n (Some p) q = not_down (nat_eq q p && nat_lt (place_of ns p n) 0)

moved_zero : (ns : List Node) (e : Edit) (q : ℕ) → moved ns e q 0 ≡ 0
moved_zero ns (Insert n p at) q = not_up (nat_eq q p) at
moved_zero ns (Remove n) q = from_zero ns n (parent_of ns n) q
moved_zero ns (Set field n text) q = refl
moved_zero ns (SetRaw raw n text) q = refl
moved_zero ns (New n text span) q = refl

count_zero : (ns : List Node) (es : List Edit) (q k : ℕ) → k ≡ 0 → moved_count ns es q k ≡ 0
count_zero ns [] q k e = e
count_zero ns (x ∷ es) q k e = count_zero (apply ns x) es q (moved ns x q k) (ap (moved ns x q) e ∙ moved_zero ns x q)

no_moved : (ns : List Node) (es : List Edit) → moved_frames ns es [] ≡ []
no_moved ns [] = refl
no_moved ns (e ∷ es) = no_moved (apply ns e) es

moved_cons : (ns : List Node) (es : List Edit) (f : Frame) (fs : List Frame) → moved_frames ns es (f ∷ fs) ≡ record f { passed = moved_count ns es f.node f.passed } ∷ moved_frames ns es fs
moved_cons ns [] f fs = refl
moved_cons ns (e ∷ es) f fs = moved_cons (apply ns e) es (moved_frame ns e f) (map (moved_frame ns e) fs)

-- the cursors move as the machine's frames do
module _ (cs ds : List (Option Place)) (ns : List Node) (es : List Edit) (k : (serial : ℕ) (c : Place) → cursor_at cs serial ≡ Some c → cursor_at ds serial ≡ moved_all ns es (Some c)) where
  seat_moved : (o : Option ℕ) (n passed : ℕ) → IsSeated cs o n passed → IsSeated ds o n (moved_count ns es n passed)
  seat_moved None n passed e = count_zero ns es n passed e
  seat_moved (Some s) n passed e = k s (record { container = n; passed = passed }) e ∙ moved_some ns es n passed

  pub shown_moved : (os : List Open) (fs : List Frame) → AllShown cs os fs → AllShown ds os (moved_frames ns es fs)
  shown_moved [] [] h = subst (λ l. AllShown ds [] l) (sym (no_moved ns es)) tt
  shown_moved [] (f ∷ fs) h = absurd h
  shown_moved (o ∷ os) [] h = absurd h
  shown_moved (o ∷ os) (f ∷ fs) h =
      let s : IsSeated ds o.children o.node (moved_count ns es f.node f.passed) = subst (λ n. IsSeated ds o.children o.node (moved_count ns es n f.passed)) (sym h.0.node) (seat_moved o.children o.node f.passed h.0.seat) in
      subst (λ l. AllShown ds (o ∷ os) l) (sym (moved_cons ns es f fs)) (record { node = h.0.node; enter = h.0.enter; exit = h.0.exit; seat = s }, (h.1.0, shown_moved os fs h.1.1))

-- the end of a call changes no node, frame or count of edits
pub back_nodes : (most : ℕ) (s : State) (o : Option (List ℕ)) → (back most s o).nodes ≡ s.nodes
back_nodes most s None = refl
back_nodes most s (Some t) = refl

pub back_frames : (most : ℕ) (s : State) (o : Option (List ℕ)) → (back most s o).frames ≡ s.frames
back_frames most s None = refl
back_frames most s (Some t) = refl

pub back_edits : (most : ℕ) (s : State) (o : Option (List ℕ)) → (back most s o).edits ≡ s.edits
back_edits most s None = refl
back_edits most s (Some t) = refl

pub back_free : (most : ℕ) (s : State) (o : Option (List ℕ)) → (back most s o).calling ≡ false
back_free most s None = refl
back_free most s (Some t) = refl

-- one hook of the shelf is another
hook_other : (ps : List PluginSeen) (i j : ℕ) (p : PluginSeen) (h : HookSeen) (k l : ℕ) → slice_get ps i ≡ Some p → (k ≡ i → l ≡ j → ⊥) → hook_at (slice_set ps i (record { name = p.name; hooks = slice_set p.hooks j h })) k l ≡ hook_at ps k l
hook_other [] i j p h k l e n = refl
hook_other (x ∷ ps) zero j p h zero l e n = let i : x ≡ p = cc in get_other p.hooks j l h (λ q. n refl q) ∙ ap (λ (y : PluginSeen). slice_get y.hooks l) (sym i)
hook_other (x ∷ ps) zero j p h (suc k) l e n = refl
hook_other (x ∷ ps) (suc i) j p h zero l e n = refl
hook_other (x ∷ ps) (suc i) j p h (suc k) l e n = hook_other ps i j p h k l e (λ q. n (ap suc q))

hook_same : (ps : List PluginSeen) (i j : ℕ) (p : PluginSeen) (w h : HookSeen) → slice_get ps i ≡ Some p → slice_get p.hooks j ≡ Some w → hook_at (slice_set ps i (record { name = p.name; hooks = slice_set p.hooks j h })) i j ≡ Some h
hook_same [] i j p w h e d = absurd cc
hook_same (x ∷ ps) zero j p w h e d = get_same p.hooks j w h d
hook_same (x ∷ ps) (suc i) j p w h e d = hook_same ps i j p w h e d

names_same : (ps : List PluginSeen) (i : ℕ) (p : PluginSeen) (hs : List HookSeen) → slice_get ps i ≡ Some p → map (λ q. q.name) (slice_set ps i (record { name = p.name; hooks = hs })) ≡ map (λ q. q.name) ps
names_same [] i p hs e = refl
names_same (x ∷ ps) zero p hs e = let i : x ≡ p = cc in ap (λ (y : PluginSeen). y.name ∷ map (λ q. q.name) ps) (sym i)
names_same (x ∷ ps) (suc i) p hs e = ap (λ l. x.name ∷ l) (names_same ps i p hs e)

-- how many cursors are left open, where one hook is another
hooks_left : (hs : List HookSeen) (j : ℕ) (w h : HookSeen) → slice_get hs j ≡ Some w → sum_by (λ x. x.left) (slice_set hs j h) + w.left ≡ sum_by (λ x. x.left) hs + h.left
hooks_left [] j w h e = absurd cc
hooks_left (x ∷ hs) zero w h e =
    let i : x.left ≡ w.left = let s : x ≡ w = cc in ap (λ (y : HookSeen). y.left) s in
    let a = sum_by-cons (λ (y : HookSeen). y.left) x hs in
    let b = sum_by-cons (λ (y : HookSeen). y.left) h hs in
    omega arith
hooks_left (x ∷ hs) (suc j) w h e =
    let i = hooks_left hs j w h e in
    let a = sum_by-cons (λ (y : HookSeen). y.left) x hs in
    let b = sum_by-cons (λ (y : HookSeen). y.left) x (slice_set hs j h) in
    omega arith

left_set : (ps : List PluginSeen) (i j : ℕ) (p : PluginSeen) (w h : HookSeen) → slice_get ps i ≡ Some p → slice_get p.hooks j ≡ Some w → left_total (slice_set ps i (record { name = p.name; hooks = slice_set p.hooks j h })) + w.left ≡ left_total ps + h.left
left_set [] i j p w h e d = absurd cc
left_set (x ∷ ps) zero j p w h e d =
    let sums : PluginSeen → ℕ = λ q. sum_by (λ y. y.left) q.hooks in
    let i : sums x ≡ sums p = let s : x ≡ p = cc in ap sums s in
    let k : sums (record { name = p.name; hooks = slice_set p.hooks j h }) + w.left ≡ sums p + h.left = hooks_left p.hooks j w h d in
    let a = sum_by-cons sums x ps in
    let b = sum_by-cons sums (record { name = p.name; hooks = slice_set p.hooks j h }) ps in
    omega arith
left_set (x ∷ ps) (suc i) j p w h e d =
    let sums : PluginSeen → ℕ = λ q. sum_by (λ y. y.left) q.hooks in
    let k = left_set ps i j p w h e d in
    let a = sum_by-cons sums x ps in
    let b = sum_by-cons sums x (slice_set ps i (record { name = p.name; hooks = slice_set p.hooks j h })) in
    omega arith

-- a call that came back leaves as many more open as its visitor's count grew
pub left_back : (a : Answer) (fault : Option (List ℕ)) (l m : ℕ) (f g : Forest) → IsBack a fault → LeavesOpen l m f g a → open_total g.cursors + l ≡ open_total f.cursors + m
left_back (Ok u) fault l m f g b h = h
left_back (Err (Plugin text)) fault l m f g b h = h
left_back (Err (Memory e)) fault l m f g b h = absurd b

-- what a call leaves of the shelf
module _ {old new : List PluginSeen} {p h : ℕ} {f g : Forest} {m : Moment} {r : Answer} (v : VisitedAt old new p h f g m r) where
  set_to : new ≡ slice_set old p (record { name = v.was.name; hooks = slice_set v.was.hooks h v.visited.is })
  set_to = v.set ∙ ap (λ l. slice_set old p (record { name = v.was.name; hooks = l })) v.visited.set

  pub other_hook : (k l : ℕ) → (k ≡ p → l ≡ h → ⊥) → hook_at new k l ≡ hook_at old k l
  other_hook k l n = ap (λ s. hook_at s k l) set_to ∙ hook_other old p h v.was v.visited.is k l v.at n

  pub hook_now : hook_at new p h ≡ Some v.visited.is
  hook_now = ap (λ s. hook_at s p h) set_to ∙ hook_same old p h v.was v.visited.was v.visited.is v.at v.visited.at

  pub hook_before : hook_at old p h ≡ Some v.visited.was
  hook_before = ap (λ o. slice_get (hooks_of o) h) v.at ∙ v.visited.at

  pub left_now : left_total new + v.visited.was.left ≡ left_total old + v.visited.is.left
  left_now = ap (λ s. left_total s + v.visited.was.left) set_to ∙ left_set old p h v.was v.visited.was v.visited.is v.at v.visited.at

  pub same_names : map (λ q. q.name) new ≡ map (λ q. q.name) old
  same_names = ap (map (λ q. q.name)) set_to ∙ names_same old p v.was _ v.at
