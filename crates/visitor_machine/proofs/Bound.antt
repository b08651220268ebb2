-- A run without an edit makes no more calls than there are hooks times nodes.
use Rattle.std.proofs.Common.{◌≡◌, ℕ, suc, ◌+◌, ◌-◌, ◌*◌, ◌<◌, ◌≤◌, List, [], ◌∷◌, Bool, true, false, length, Option, Some, None, refl, ap, sym, ◌∙◌, arith, drop, cond, subst, sum_by, length-append, length-drop}
use Rattle.std.specs.Prelude.{filter, ◌&&◌, nat_eq, not, nat_lt}
use Rattle.std.proofs.lemmas.Bool.{false≢true}
use Rattle.std.proofs.lemmas.List.Sums.{sum_by-cons, sum_by-set}
use Rattle.css_tree.specs.declared.node.Kind.{Kind}
use Rattle.node_rows.specs.Nodes.{Node, node_at, no_node, text_of, is_dirty, children_of, holds}
use Rattle.node_rows.specs.Marks.{with_mark}
use Rattle.visitor_machine.specs.Machine.{kind_at, key_at}
use Rattle.css_tree.specs.declared.node.Kind.TheVariants as K
use Rattle.css_tree.specs.Parts.{kind_of}
use Rattle.node_store.specs.declared.item.Event.{Event}
use Rattle.node_store.specs.declared.item.Event.TheVariants as E
use Rattle.visitor_machine.specs.Hooks.{PickedHook, enters, exits, hooks_at, is_at, is_filtered, enter_event, exit_event, fits, event_number}
use Rattle.node_store.specs.Cursors.{through, further}
use Rattle.node_store.specs.declared.item.Item.{Item}
use Rattle.node_store.specs.declared.item.Item.TheVariants as I
use Rattle.visitor_machine.specs.Machine.{called, Frame, State, Stage, Opening, Walking, Passing, Closing, Ended, Stopped, Move, ToLeave, at_exit, at_child, at_enter, in_tree_at, closing, at_rest, walking, turn_in, turn, item_of, new_frame, passing_on, calling_enter, calling_exit, outer, done}
use Rattle.visitor_machine.specs.Follow.{same_item, is_item, by_move, back, step, follow, start}
use Rattle.visitor_machine.specs.Calls.{call_of, calls_in, IsQuiet, IsBounded}
use Rattle.node_rows.proofs.Climb.{same_from_eqb}
use Rattle.visitor_machine.proofs.Through.{passes_it}
use Rattle.visitor_machine.proofs.Runs.{when_parts, by_move_parts, follow_parts}
use Rattle.visitor_machine.proofs.Marks.{SameTree-mark, dirty-inside}

-- what stands at an event
abbrev pub one : Event → PickedHook → ℕ
one v h = cond (is_at v h) 1 0

one_more : {A : Type 0} (b : Bool) (x : A) (xs : List A) → length (cond b (x ∷ xs) xs) ≡ cond b 1 0 + length xs
one_more true x xs = omega arith
one_more false x xs = omega arith

split_one : (a b : Bool) → cond {A = ℕ} (a && not b) 1 0 + cond (a && b) 1 0 ≡ cond a 1 0
split_one true true = refl
split_one true false = refl
split_one false b = refl

hooks_one : (v : Event) (h : PickedHook) (hs : List PickedHook) → length (hooks_at v (h ∷ hs)) ≡ one v h + length (hooks_at v hs)
hooks_one v h hs =
    let p : PickedHook → Bool = λ h. is_at v h && not (is_filtered h) in
    let q : PickedHook → Bool = λ h. is_at v h && is_filtered h in
    let a = length-append (filter p (h ∷ hs)) (filter q (h ∷ hs)) in
    let b = length-append (filter p hs) (filter q hs) in
    let c = one_more (p h) h (filter p hs) in
    let d = one_more (q h) h (filter q hs) in
    let e = split_one (is_at v h) (is_filtered h) in
    omega arith

pub cost : List PickedHook → Kind → ℕ
cost hs k = length (enters hs k) + length (exits hs k)

sum_plus : (f g k : Node → ℕ) (ns : List Node) → ((x : Node) → f x ≡ g x + k x) → sum_by f ns ≡ sum_by g ns + sum_by k ns
sum_plus f g k [] h = refl
sum_plus f g k (x ∷ ns) h = omega (arith, sum_by-cons f x ns, sum_by-cons g x ns, sum_by-cons k x ns, h x, sum_plus f g k ns h)

sum_most : (g : Node → ℕ) (ns : List Node) → ((x : Node) → g x ≤ 1) → sum_by g ns ≤ length ns
sum_most g [] h = omega arith
sum_most g (x ∷ ns) h = omega (arith, sum_by-cons g x ns, h x, sum_most g ns h)

sum_none : (g : Node → ℕ) (ns : List Node) → ((x : Node) → g x ≡ 0) → sum_by g ns ≡ 0
sum_none g [] h = refl
sum_none g (x ∷ ns) h = omega (arith, sum_by-cons g x ns, h x, sum_none g ns h)

sum_under : (f g : Node → ℕ) (ns : List Node) → ((x : Node) → f x ≤ g x) → sum_by f ns ≤ sum_by g ns
sum_under f g [] h = omega arith
sum_under f g (x ∷ ns) h = omega (arith, sum_by-cons f x ns, sum_by-cons g x ns, h x, sum_under f g ns h)

pub at_number : Event → ℕ → ℕ
at_number v n = cond (nat_eq (event_number v) n) 1 0

never_once : (k : Kind) → at_number (enter_event k) 0 + at_number (exit_event k) 0 ≡ 0
unfolding at_number
never_once K.Root = refl
never_once K.AtRule = refl
never_once K.Rule = refl
never_once K.Declaration = refl
never_once K.Comment = refl

never_exit : (k : Kind) → at_number (enter_event k) 11 + at_number (exit_event k) 11 ≡ 0
unfolding at_number
never_exit K.Root = refl
never_exit K.AtRule = refl
never_exit K.Rule = refl
never_exit K.Declaration = refl
never_exit K.Comment = refl

once_at_most : (a b : Bool) → (a ≡ true → b ≡ true → ⊥) → cond {A = ℕ} a 1 0 + cond b 1 0 ≤ 1
once_at_most true true h = absurd (h refl refl)
once_at_most true false h = omega arith
once_at_most false true h = omega arith
once_at_most false false h = omega arith

enter_apart : (k : Kind) → event_number (enter_event k) ≡ event_number (exit_event k) → ⊥
enter_apart K.Root e = omega arith
enter_apart K.AtRule e = omega arith
enter_apart K.Rule e = omega arith
enter_apart K.Declaration e = omega arith
enter_apart K.Comment e = omega arith

kind_most : (k : Kind) (n : ℕ) → at_number (enter_event k) n + at_number (exit_event k) n ≤ 1
unfolding at_number
kind_most k n = once_at_most (nat_eq (event_number (enter_event k)) n) (nat_eq (event_number (exit_event k)) n) (λ a b. enter_apart k (same_from_eqb _ n a ∙ sym (same_from_eqb _ n b)))

on_other : (k : Kind) → at_number E.Once (event_number (enter_event k)) + at_number E.OnceExit (event_number (enter_event k)) ≡ 0
unfolding at_number
on_other K.Root = refl
on_other K.AtRule = refl
on_other K.Rule = refl
on_other K.Declaration = refl
on_other K.Comment = refl

off_other : (k : Kind) → at_number E.Once (event_number (exit_event k)) + at_number E.OnceExit (event_number (exit_event k)) ≡ 0
unfolding at_number
off_other K.Root = refl
off_other K.AtRule = refl
off_other K.Rule = refl
off_other K.Declaration = refl
off_other K.Comment = refl

once_is : at_number E.Once (event_number E.Once) + at_number E.OnceExit (event_number E.Once) ≡ 1
unfolding at_number
once_is = refl

exit_is : at_number E.Once (event_number E.OnceExit) + at_number E.OnceExit (event_number E.OnceExit) ≡ 1
unfolding at_number
exit_is = refl

abbrev pub at_node : ℕ → Node → ℕ
at_node n x = at_number (enter_event (kind_of x.text)) n + at_number (exit_event (kind_of x.text)) n

-- one hook is called once, or at most once for each node
one_hook : (e : Event) (ns : List Node) → 0 < length ns → (at_number E.Once (event_number e) + at_number E.OnceExit (event_number e)) + sum_by (at_node (event_number e)) ns ≤ length ns
one_hook E.Once ns b = let i = sum_none (at_node 0) ns (λ x. never_once (kind_of x.text)) in omega (arith, once_is)
one_hook E.OnceExit ns b = let i = sum_none (at_node 11) ns (λ x. never_exit (kind_of x.text)) in omega (arith, exit_is)
one_hook E.Root ns b = let i = sum_most (at_node (event_number E.Root)) ns (λ x. kind_most (kind_of x.text) _) in omega (arith, on_other K.Root)
one_hook E.RootExit ns b = let i = sum_most (at_node (event_number E.RootExit)) ns (λ x. kind_most (kind_of x.text) _) in omega (arith, off_other K.Root)
one_hook E.AtRule ns b = let i = sum_most (at_node (event_number E.AtRule)) ns (λ x. kind_most (kind_of x.text) _) in omega (arith, on_other K.AtRule)
one_hook E.AtRuleExit ns b = let i = sum_most (at_node (event_number E.AtRuleExit)) ns (λ x. kind_most (kind_of x.text) _) in omega (arith, off_other K.AtRule)
one_hook E.Rule ns b = let i = sum_most (at_node (event_number E.Rule)) ns (λ x. kind_most (kind_of x.text) _) in omega (arith, on_other K.Rule)
one_hook E.RuleExit ns b = let i = sum_most (at_node (event_number E.RuleExit)) ns (λ x. kind_most (kind_of x.text) _) in omega (arith, off_other K.Rule)
one_hook E.Declaration ns b = let i = sum_most (at_node (event_number E.Declaration)) ns (λ x. kind_most (kind_of x.text) _) in omega (arith, on_other K.Declaration)
one_hook E.DeclarationExit ns b = let i = sum_most (at_node (event_number E.DeclarationExit)) ns (λ x. kind_most (kind_of x.text) _) in omega (arith, off_other K.Declaration)
one_hook E.Comment ns b = let i = sum_most (at_node (event_number E.Comment)) ns (λ x. kind_most (kind_of x.text) _) in omega (arith, on_other K.Comment)
one_hook E.CommentExit ns b = let i = sum_most (at_node (event_number E.CommentExit)) ns (λ x. kind_most (kind_of x.text) _) in omega (arith, off_other K.Comment)

-- all calls of a run in which each node is visited once
abbrev pub all_calls : List PickedHook → List Node → ℕ
all_calls hs ns = (length (filter (is_at E.Once) hs) + length (filter (is_at E.OnceExit) hs)) + sum_by (λ x. cost hs (kind_of x.text)) ns

cost_more : (h : PickedHook) (hs : List PickedHook) (x : Node) → cost (h ∷ hs) (kind_of x.text) ≡ at_node (event_number h.event) x + cost hs (kind_of x.text)
unfolding cost at_number
cost_more h hs x = omega (arith, hooks_one (enter_event (kind_of x.text)) h hs, hooks_one (exit_event (kind_of x.text)) h hs)

all_bounded : (hs : List PickedHook) (ns : List Node) → 0 < length ns → all_calls hs ns ≤ length hs * length ns
unfolding cost at_number
all_bounded [] ns b = let i = sum_none (λ x. cost [] (kind_of x.text)) ns (λ x. refl) in omega arith
all_bounded (h ∷ hs) ns b =
    let r = all_bounded hs ns b in
    let o = one_hook h.event ns b in
    let c = one_more (is_at E.Once h) h (filter (is_at E.Once) hs) in
    let d = one_more (is_at E.OnceExit h) h (filter (is_at E.OnceExit) hs) in
    let p = sum_plus (λ x. cost (h ∷ hs) (kind_of x.text)) (at_node (event_number h.event)) (λ x. cost hs (kind_of x.text)) ns (cost_more h hs) in
    let m : length (h ∷ hs) * length ns ≡ length ns + length hs * length ns = omega arith in
    omega arith

-- what is left to call in a stage, by the dirty nodes, and by the open visits
pub stage_due : List PickedHook → Stage → ℕ
stage_due hs (Opening l) = length l + length (filter (is_at E.OnceExit) hs)
stage_due hs Walking = length (filter (is_at E.OnceExit) hs)
stage_due hs Passing = length (filter (is_at E.OnceExit) hs)
stage_due hs (Closing l) = length l
stage_due hs Ended = 0
stage_due hs Stopped = 0

abbrev pub node_due : List PickedHook → Node → ℕ
node_due hs x = cond x.dirty (cost hs (kind_of x.text)) 0

abbrev pub frame_due : List PickedHook → Kind → Frame → ℕ
frame_due hs k f = (length (enters hs k) - f.enter) + (length (exits hs k) - f.exit)

pub frames_due : List PickedHook → List Node → List Frame → ℕ
frames_due hs ns [] = 0
frames_due hs ns (f ∷ fs) = frame_due hs (kind_at ns f.node) f + frames_due hs ns fs

pub due : List PickedHook → List Node → List Frame → Stage → ℕ
due hs ns fs g = stage_due hs g + (sum_by (node_due hs) ns + frames_due hs ns fs)

frames_same : (hs : List PickedHook) (ns ms : List Node) (fs : List Frame) → ((n : ℕ) → text_of ms n ≡ text_of ns n) → frames_due hs ms fs ≡ frames_due hs ns fs
unfolding frames_due
frames_same hs ns ms [] h = refl
frames_same hs ns ms (f ∷ fs) h = let i = frames_same hs ns ms fs h in let j = ap (λ t. frame_due hs (kind_of t) f) (h f.node) in omega arith

if_dirty : (b : Bool) (k : ℕ) → b ≡ true → cond b k 0 ≡ k
if_dirty b k e = ap (λ c. cond c k 0) e

-- a node is entered: what it owed as a dirty node it owes as an open visit
due_entered : (hs : List PickedHook) (ns : List Node) (m count : ℕ) → is_dirty ns m ≡ true → sum_by (node_due hs) (with_mark ns m false) + frame_due hs (kind_at (with_mark ns m false) m) (new_frame m count) ≤ sum_by (node_due hs) ns
unfolding cost
due_entered hs ns m count d =
    let i : sum_by (node_due hs) (with_mark ns m false) + node_due hs (node_at ns m) ≡ sum_by (node_due hs) ns + 0 = sum_by-set (node_due hs) ns m (record (node_at ns m) { dirty = false }) no_node (dirty-inside ns m d) in
    let j : node_due hs (node_at ns m) ≡ cost hs (kind_at ns m) = if_dirty (is_dirty ns m) (cost hs (kind_at ns m)) d in
    let k : cost hs (kind_at (with_mark ns m false) m) ≡ cost hs (kind_at ns m) = ap (λ t. cost hs (kind_of t)) ((SameTree-mark ns m false).texts m) in
    omega arith

through_by : {A : Type 0} (test : A → Bool) (y : A) (ys : List A) (b : Bool) (o : Option (A × ℕ)) (p : A × ℕ) → through test ys ≡ o → cond b (Some (y, 1)) (further o) ≡ Some p → ((q : A × ℕ) → through test ys ≡ Some q → (1 ≤ q.1) × (q.1 ≤ length ys)) → (1 ≤ p.1) × (p.1 ≤ length (y ∷ ys))
through_by test y ys true o p f g r = let i : 1 ≡ p.1 = ap (λ o. elim o as (λ _. ℕ) [ None ↦ 1 | Some t ↦ t.1 ]) g in (omega arith, omega arith)
through_by test y ys false None p f g r = absurd cc
through_by test y ys false (Some q) p f g r = let i : suc q.1 ≡ p.1 = ap (λ o. elim o as (λ _. ℕ) [ None ↦ suc q.1 | Some t ↦ t.1 ]) g in let j = r q f in (omega arith, omega arith)

through_count : {A : Type 0} (test : A → Bool) (ys : List A) (p : A × ℕ) → through test ys ≡ Some p → (1 ≤ p.1) × (p.1 ≤ length ys)
through_count test [] p e = absurd cc
through_count test (y ∷ ys) p e = through_by test y ys (test y) (through test ys) p refl e (λ q f. through_count test ys q f)

-- a call takes one from what is due
called_less : {A : Type 0} (test : A → Bool) (xs : List A) (a : ℕ) (p : A × ℕ) → through test (drop a xs) ≡ Some p → suc (length xs - (a + p.1)) ≤ length xs - a
called_less test xs a p e = let i = through_count test (drop a xs) p e in let j = length-drop a xs in omega arith

-- after a I.Pass the root is dirty
abbrev pub Ready : List Node → Stage → Type 0
Ready ns Passing = is_dirty ns 0 ≡ true
Ready ns (Opening l) = Unit {0}
Ready ns Walking = Unit {0}
Ready ns (Closing l) = Unit {0}
Ready ns Ended = Unit {0}
Ready ns Stopped = Unit {0}

abbrev pub call_of_next : Option Item → ℕ
call_of_next None = 0
call_of_next (Some i) = call_of i

-- what is due falls by each call
abbrev pub Falls : List PickedHook → State → Move → Type 0
Falls hs s m = (call_of_next (item_of m) + due hs (done hs s m).nodes (done hs s m).frames (done hs s m).stage ≤ due hs s.nodes s.frames s.stage) × Ready (done hs s m).nodes (done hs s m).stage

module _ (hs : List PickedHook) (s : State) (free : (ns : List Node) → Ready ns s.stage) (f : Frame) (fs : List Frame) (e : s.frames ≡ f ∷ fs) where
  falls_leave : (n : ℕ) → Falls hs s (ToLeave n)
  unfolding due frames_due
  falls_leave n = (subst (λ l. 0 + due hs s.nodes (outer l) s.stage ≤ due hs s.nodes l s.stage) (sym e) (omega arith), free s.nodes)

  falls_exit : (o : Option (PickedHook × ℕ)) → through (fits (key_at s.nodes f.node)) (drop f.exit (exits hs (kind_at s.nodes f.node))) ≡ o → Falls hs s (at_exit f o)
  unfolding due frames_due
  falls_exit None i = falls_leave f.node
  falls_exit (Some x) i =
      let j = called_less (fits (key_at s.nodes f.node)) (exits hs (kind_at s.nodes f.node)) f.exit x i in
      (subst (λ l. 1 + due hs s.nodes (calling_exit hs s.nodes (called f.node x.0) (f.exit + x.1) l) s.stage ≤ due hs s.nodes l s.stage) (sym e) (omega arith), free s.nodes)

  falls_child : (o : Option (ℕ × ℕ)) → through (is_dirty s.nodes) (drop f.passed (children_of s.nodes f.node)) ≡ o → Falls hs s (at_child hs s.nodes f o)
  unfolding due frames_due
  falls_child None i = falls_exit (through (fits (key_at s.nodes f.node)) (drop f.exit (exits hs (kind_at s.nodes f.node)))) refl
  falls_child (Some x) i =
      let ms = with_mark s.nodes x.0 false in
      let g : Frame = record f { passed = f.passed + x.1; enter = length (enters hs (kind_at s.nodes f.node)) } in
      let j = due_entered hs s.nodes x.0 s.count (passes_it (is_dirty s.nodes) (drop f.passed (children_of s.nodes f.node)) x.0 x.1 i) in
      let k : frames_due hs ms (g ∷ fs) ≡ frames_due hs s.nodes (g ∷ fs) = frames_same hs s.nodes ms (g ∷ fs) (SameTree-mark s.nodes x.0 false).texts in
      (subst (λ l. 0 + due hs ms (new_frame x.0 s.count ∷ passing_on hs s.nodes (f.passed + x.1) l) s.stage ≤ due hs s.nodes l s.stage) (sym e) (omega arith), free ms)

  falls_enter : (o : Option (PickedHook × ℕ)) → through (fits (key_at s.nodes f.node)) (drop f.enter (enters hs (kind_at s.nodes f.node))) ≡ o → Falls hs s (at_enter hs s.nodes f o)
  unfolding due frames_due
  falls_enter None i = falls_child (through (is_dirty s.nodes) (drop f.passed (children_of s.nodes f.node))) refl
  falls_enter (Some x) i =
      let j = called_less (fits (key_at s.nodes f.node)) (enters hs (kind_at s.nodes f.node)) f.enter x i in
      (subst (λ l. 1 + due hs s.nodes (calling_enter (called f.node x.0) (f.enter + x.1) l) s.stage ≤ due hs s.nodes l s.stage) (sym e) (omega arith), free s.nodes)

  falls_in_tree : (b : Bool) → Falls hs s (in_tree_at hs s.nodes f b)
  falls_in_tree false = falls_leave f.node
  falls_in_tree true = falls_enter (through (fits (key_at s.nodes f.node)) (drop f.enter (enters hs (kind_at s.nodes f.node)))) refl

-- a call of E.OnceExit, where at least those of the list are due
falls_closing : (hs : List PickedHook) (s : State) (l : List PickedHook) → length l ≤ stage_due hs s.stage → Falls hs s (closing l)
unfolding due stage_due
falls_closing hs s [] h = (omega arith, tt)
falls_closing hs s (x ∷ l) h = (omega arith, tt)

falls_rest : (hs : List PickedHook) (s : State) (b : Bool) → is_dirty s.nodes 0 ≡ b → length (filter (is_at E.OnceExit) hs) ≤ stage_due hs s.stage → Falls hs s (at_rest hs b)
unfolding due stage_due
falls_rest hs s true e h = (omega arith, e)
falls_rest hs s false e h = falls_closing hs s (filter (is_at E.OnceExit) hs) h

falls_walking : (hs : List PickedHook) (s : State) (fs : List Frame) → s.frames ≡ fs → ((ns : List Node) → Ready ns s.stage) → length (filter (is_at E.OnceExit) hs) ≤ stage_due hs s.stage → Falls hs s (walking hs s.nodes fs)
falls_walking hs s [] e free h = falls_rest hs s (is_dirty s.nodes 0) refl h
falls_walking hs s (f ∷ fs) e free h = falls_in_tree hs s free f fs e (holds s.nodes 0 f.node)

falls_turn : (hs : List PickedHook) (s : State) (g : Stage) → s.stage ≡ g → Ready s.nodes s.stage → Falls hs s (turn_in hs s.nodes s.frames g)
unfolding due stage_due frames_due
falls_turn hs s (Opening []) e r =
    let i : stage_due hs s.stage ≡ stage_due hs (Opening []) = ap (stage_due hs) e in
    falls_walking hs s s.frames refl (λ ns. subst (Ready ns) (sym e) tt) (omega arith)
falls_turn hs s (Opening (x ∷ l)) e r = let i : stage_due hs s.stage ≡ stage_due hs (Opening (x ∷ l)) = ap (stage_due hs) e in (omega arith, tt)
falls_turn hs s Walking e r =
    let i : stage_due hs s.stage ≡ stage_due hs Walking = ap (stage_due hs) e in
    falls_walking hs s s.frames refl (λ ns. subst (Ready ns) (sym e) tt) (omega arith)
falls_turn hs s Passing e r =
    let i : stage_due hs s.stage ≡ stage_due hs Passing = ap (stage_due hs) e in
    let d : is_dirty s.nodes 0 ≡ true = subst (Ready s.nodes) e r in
    let j = due_entered hs s.nodes 0 s.count d in
    let k = frames_same hs s.nodes (with_mark s.nodes 0 false) s.frames (SameTree-mark s.nodes 0 false).texts in
    (omega arith, tt)
falls_turn hs s (Closing l) e r = let i : stage_due hs s.stage ≡ stage_due hs (Closing l) = ap (stage_due hs) e in falls_closing hs s l (omega arith)
falls_turn hs s Ended e r = (omega arith, r)
falls_turn hs s Stopped e r = (omega arith, r)

same_call : (i j : Item) → same_item i j ≡ true → call_of i ≡ call_of j
same_call I.Pass I.Pass h = refl
same_call (I.Enter n) (I.Enter m) h = refl
same_call (I.Call p k m) (I.Call q l o) h = refl
same_call (I.Leave n) (I.Leave m) h = refl
same_call I.End I.End h = refl
same_call _ _ h = absurd (false≢true h)

item_call : (i : Item) (o : Option Item) → is_item i o ≡ true → call_of i ≡ call_of_next o
item_call i None h = absurd (false≢true h)
item_call i (Some j) h = same_call i j h

abbrev pub Fallen : List PickedHook → State → Item → State → Type 0
Fallen hs s i t = (call_of i + due hs t.nodes t.frames t.stage ≤ due hs s.nodes s.frames s.stage) × Ready t.nodes t.stage

fallen_move : (hs : List PickedHook) (s t : State) (i : Item) → Ready s.nodes s.stage → by_move hs s i s.calling ≡ Some t → Fallen hs s i t
fallen_move hs s t i r e =
    let p = by_move_parts hs s i s.calling e in
    let c = item_call i (item_of (turn hs s)) p.0 in
    let f = falls_turn hs s s.stage refl r in
    subst (λ u. Fallen hs s i u) p.1 (omega (arith, f.0), f.1)

fallen_back : (hs : List PickedHook) (most : ℕ) (s : State) (o : Option (List ℕ)) (b : Bool) → nat_lt most s.edits ≡ b → Ready s.nodes s.stage → Fallen hs s (I.Back o) (back most s o)
unfolding due stage_due
fallen_back hs most s (Some x) b e r = (omega arith, tt)
fallen_back hs most s None true e r = subst (λ c. (0 + due hs s.nodes s.frames (cond c Stopped s.stage) ≤ due hs s.nodes s.frames s.stage) × Ready s.nodes (cond c Stopped s.stage)) (sym e) (omega arith, tt)
fallen_back hs most s None false e r = subst (λ c. (0 + due hs s.nodes s.frames (cond c Stopped s.stage) ≤ due hs s.nodes s.frames s.stage) × Ready s.nodes (cond c Stopped s.stage)) (sym e) (omega arith, r)

abbrev pub IsQuietItem : Item → Type 0
IsQuietItem (I.Edit e) = ⊥
IsQuietItem _ = Unit {0}

fallen : (hs : List PickedHook) (most : ℕ) (s t : State) (i : Item) → IsQuietItem i → Ready s.nodes s.stage → step hs most s i ≡ Some t → Fallen hs s i t
fallen hs most s t (I.Edit x) q r e = absurd q
fallen hs most s t (I.Back o) q r e = subst (λ u. Fallen hs s (I.Back o) u) (when_parts s.calling e).1 (fallen_back hs most s o (nat_lt most s.edits) refl r)
fallen hs most s t I.Pass q r e = fallen_move hs s t I.Pass r e
fallen hs most s t (I.Enter n) q r e = fallen_move hs s t (I.Enter n) r e
fallen hs most s t (I.Call p k m) q r e = fallen_move hs s t (I.Call p k m) r e
fallen hs most s t (I.Leave n) q r e = fallen_move hs s t (I.Leave n) r e
fallen hs most s t I.End q r e = fallen_move hs s t I.End r e

quiet_parts : (i : Item) (is : List Item) → IsQuiet (i ∷ is) → IsQuietItem i × IsQuiet is
quiet_parts (I.Edit e) is h = absurd h
quiet_parts I.Pass is h = (tt, h)
quiet_parts (I.Enter n) is h = (tt, h)
quiet_parts (I.Call p k m) is h = (tt, h)
quiet_parts (I.Back o) is h = (tt, h)
quiet_parts (I.Leave n) is h = (tt, h)
quiet_parts I.End is h = (tt, h)

calls_due : (hs : List PickedHook) (most : ℕ) (s t : State) (log : List Item) → IsQuiet log → Ready s.nodes s.stage → follow hs most s log ≡ Some t → calls_in log ≤ due hs s.nodes s.frames s.stage
calls_due hs most s t [] q r e = omega arith
calls_due hs most s t (i ∷ is) q r e =
    let p = follow_parts hs most s i is t e in
    let u = quiet_parts i is q in
    let f = fallen hs most s p.mid i u.0 r p.first in
    omega (arith, f.0, calls_due hs most p.mid t is u.1 f.1 p.rest)

dirty_most : (hs : List PickedHook) (x : Node) (b : Bool) → x.dirty ≡ b → node_due hs x ≤ cost hs (kind_of x.text)
dirty_most hs x true e = let i = if_dirty x.dirty (cost hs (kind_of x.text)) e in omega arith
dirty_most hs x false e = let i : node_due hs x ≡ 0 = ap (λ c. cond c (cost hs (kind_of x.text)) 0) e in omega arith

pub bounded : IsBounded
unfolding due stage_due frames_due
bounded hs most ns log t b q e =
    let i = calls_due hs most (start hs ns) t log q tt e in
    let j = all_bounded hs ns b in
    let k = sum_under (node_due hs) (λ x. cost hs (kind_of x.text)) ns (λ x. dirty_most hs x x.dirty refl) in
    omega arith
