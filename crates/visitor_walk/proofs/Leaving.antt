-- Leaves that a visit passes without visits of their own.
use Rattle.std.proofs.Common.{◌≡◌, inl, inr, ℕ, suc, ◌+◌, ◌≤◌, List, [], ◌∷◌, ◌++◌, true, false, length, Option, Some, None, Result, Ok, Err, IsErr, refl, ap, sym, ◌∙◌, subst, drop, reverse, arith, length-append}
use Rattle.std.specs.Prelude.{nat_eq}
use Rattle.std.specs.declared.alloc.AllocError.{AllocError}
use Rattle.std.proofs.lemmas.Bool.{false≢true, and_parts}
use Rattle.std.proofs.lemmas.List.{reverse-reverse, drop_all}
use Rattle.css_tree.specs.Parts.{kind_of}
use Rattle.node_rows.specs.Nodes.{Node, children_of, text_of, is_dirty}
use Rattle.node_rows.specs.Marks.{with_mark}
use Rattle.node_rows.specs.Sound.{IsSound}
use Rattle.node_rows.proofs.Climb.{same_from_eqb}
use Rattle.node_store.specs.declared.item.Event.{Event}
use Rattle.node_store.specs.declared.item.Item.TheVariants as I
use Rattle.node_store.specs.Forest.{Forest, unreserved}
use Rattle.node_store.specs.Edits.{noted}
use Rattle.node_store.specs.Cursors.{through}
use Rattle.visitor_machine.specs.Hooks.{PickedHook, enter_event, exit_event, enters, exits, hooks_at, fits}
use Rattle.visitor_machine.specs.Machine.{State, ToLeave, turn, kind_at, key_at}
use Rattle.visitor_machine.specs.Settled.{IsInTree}
use Rattle.visitor_machine.proofs.Marks.{SameTree, SameTree-mark}
use Rattle.visitor_walk.specs.declared.turn.Open.{Open}
use Rattle.visitor_walk.specs.declared.hooks.RunHooks.{RunHooks}
use Rattle.visitor_walk.specs.Groups.{shown_hooks, group_of, IsGrouped}
use Rattle.visitor_walk.specs.Turns.{Strolls, Turned, due_child, SameBeside, IsEmptyWhere, Opened, NextDirty, Closes, Leaves, Enters, fresh, dirty_total}
use Rattle.visitor_walk.specs.Leaves.{is_bare, PassesLeaf, KeepsTexts, upto, AtChildren, ComesTo, PassesLeaves}
use Rattle.visitor_walk.proofs.Closing.{left_by}
use Rattle.visitor_walk.proofs.Passing.{then, kept_apart, same_pass, empty_from}
use Rattle.visitor_walk.proofs.Turning as Turning

nil_from : {A : Type 0} (xs : List A) → nat_eq (length xs) 0 ≡ true → xs ≡ []
nil_from xs e = empty_from xs (same_from_eqb (length xs) 0 e)

-- what is asked of a bare leaf
pub record Bare (ns : List Node) (hooks : RunHooks) (n : ℕ) : Type 0 where
  pub children : children_of ns n ≡ []
  pub enter : group_of hooks (enter_event (kind_at ns n)) ≡ []
  pub exit : group_of hooks (exit_event (kind_at ns n)) ≡ []

pub bare_from : (ns : List Node) (hooks : RunHooks) (n : ℕ) → is_bare ns hooks n ≡ true → Bare ns hooks n
bare_from ns hooks n e =
    let a = and_parts _ _ e in
    let b = and_parts _ _ a.1 in
    record { children = nil_from (children_of ns n) b.1; enter = nil_from (group_of hooks (enter_event (kind_at ns n))) a.0; exit = nil_from (group_of hooks (exit_event (kind_at ns n))) b.0 }

none_at : (hooks : RunHooks) (hs : List PickedHook) (e : Event) → IsGrouped hooks hs → group_of hooks e ≡ [] → hooks_at e hs ≡ []
none_at hooks hs e gr n = sym (gr e) ∙ ap shown_hooks n

-- a visit whose cursor is open, or that needs none, stays as it is
pub opened_still : (f : Forest) (n : ℕ) (o : Option ℕ) → IsEmptyWhere f n o → Opened f f n o (Ok o)
opened_still f n o h = record {
  same = record { text = refl; nodes = refl; log = refl };
  kept = λ serial c e a. (e, a);
  count = refl;
  seat = λ passed s. (s, h);
}

pub empty_as : (f g : Forest) (n : ℕ) (o : Option ℕ) → children_of g.nodes n ≡ children_of f.nodes n → IsEmptyWhere f n o → IsEmptyWhere g n o
empty_as f g n None e h = e ∙ h
empty_as f g n (Some serial) e h = tt

-- all are passed
past_all : {A : Type 0} (n : ℕ) (xs : List A) → n ≡ length xs → drop n xs ≡ []
past_all n xs e = drop_all n xs (omega arith)

closes_none : (f : Forest) → Closes f f None
closes_none f = record { same = record { text = refl; nodes = refl; log = refl }; count = λ n passed s. refl; kept = λ serial a. refl }

edits_on : {hs : List PickedHook} {most k : ℕ} {f g : Forest} {os : List Open} {s : State} → (w : Strolls hs most f os s g) → s.edits ≡ k → w.state.edits ≡ k
edits_on w e = w.edits ∙ e

-- one leaf
module _ (hs : List PickedHook) (most : ℕ) (hooks : RunHooks) (gr : IsGrouped hooks hs) (g h l : Forest) (o : Open) (j : ℕ) (os : List Open) (t : State) (child : ℕ) (a : AtChildren hs g o j os t) (n : NextDirty g h o.children (Some child)) where
  there : IsInTree g.nodes o.node
  there = a.shows.sure.0.there (sym a.edits)

  -- the forest once it is entered
  abbrev inside : Forest
  inside = noted (unreserved h) (I.Enter child)

  abbrev more : List Open
  more = (reverse os ++ o ∷ []) ++ fresh o.sure child ∷ []

  entering : Enters h inside (reverse os) more o child (Ok tt)
  entering = record { text = refl; cursors = refl; noted = inr (refl, refl); ok = (refl, refl, refl) }

  entered : IsSound g.nodes → (y : Strolls hs most g (upto o j ∷ os) t inside) × Turned hs g inside (upto o j ∷ os) (fresh o.sure child ∷ o ∷ os) t y.state None
  entered sound =
      let back : fresh o.sure child ∷ o ∷ os ≡ reverse more = sym (Turning.reverse_last (reverse os ++ o ∷ []) (fresh o.sure child) ∙ (ap (λ l. fresh o.sure child ∷ l) (Turning.reverse_last (reverse os) o) ∙ ap (λ l. fresh o.sure child ∷ o ∷ l) (reverse-reverse os))) in
      Turning.restacked None back (Turning.child_entered hs most g (upto o j) os t a.pass a.shows g h inside (reverse os) more o.children o.enter child o.sure a.edits sound there a.past (opened_still g o.node o.children a.empty) n a.end (sym (reverse-reverse os)) entering)

  leaving : PassesLeaf h l child (Ok tt) → Leaves inside l (fresh o.sure child) (Ok tt)
  leaving e = left_by inside l l (fresh o.sure child) e (closes_none l)

  pub left : IsSound g.nodes → Bare h.nodes hooks child → PassesLeaf h l child (Ok tt) → ComesTo hs most g o j os t l o.enter
  left sound bare e =
      let x = entered sound in
      let y = x.0 in
      let pass = same_pass hs y.state.stage t.stage x.1.1.1 a.pass in
      let texts : (m : ℕ) → text_of inside.nodes m ≡ text_of h.nodes m = (SameTree-mark h.nodes child false).texts in
      let kind : kind_at inside.nodes child ≡ kind_at h.nodes child = ap kind_of (texts child) in
      let no_enter : enters hs (kind_at inside.nodes child) ≡ [] = ap (enters hs) kind ∙ none_at hooks hs (enter_event (kind_at h.nodes child)) gr bare.enter in
      let no_exit : exits hs (kind_at inside.nodes child) ≡ [] = ap (exits hs) kind ∙ none_at hooks hs (exit_event (kind_at h.nodes child)) gr bare.exit in
      let no_children : children_of inside.nodes child ≡ [] = (SameTree-mark h.nodes child false).links.lists child ∙ bare.children in
      let seat = Turning.seat_now hs most inside (fresh o.sure child) (o ∷ os) y.state pass x.1.0 in
      let no_child : due_child inside.nodes child (Turning.passed_now hs most inside (fresh o.sure child) (o ∷ os) y.state pass x.1.0) ≡ None = ap (due_child inside.nodes child) seat ∙ ap (λ cs. through (is_dirty inside.nodes) (drop 0 cs)) no_children in
      let leaves : turn hs y.state ≡ ToLeave child = Turning.leaves_whole hs most inside (fresh o.sure child) (o ∷ os) y.state pass x.1.0 (x.1.0.sure.0.there (sym (edits_on y a.edits))).1 (ap (λ l. through (fits (key_at inside.nodes child)) (drop 0 l)) no_enter) no_child (ap (λ l. through (fits (key_at inside.nodes child)) (drop 0 l)) no_exit) in
      let z = Turning.left hs most inside (fresh o.sure child) (o ∷ os) y.state pass x.1.0 inside l (fresh o.sure child) _ (Turning.same_seat inside None child _ seat) refl leaves (leaving e) in
      let nodes : l.nodes ≡ with_mark g.nodes child false = ap (λ (f : Forest). f.nodes) e ∙ ap (λ ns. with_mark ns child false) n.same.nodes in
      let tree : SameTree g.nodes l.nodes = subst (SameTree g.nodes) (sym nodes) (SameTree-mark g.nodes child false) in
      let end : o.enter ≡ length (enters hs (kind_at l.nodes o.node)) = a.end ∙ ap (λ s. length (enters hs (kind_of s))) (sym (tree.texts o.node)) in
      record {
        strolls = then y x.1.1.0.apart z.0;
        here = record {
          pass = same_pass hs z.0.state.stage y.state.stage z.1.1.1 pass;
          shows = z.1.0;
          edits = edits_on z.0 (edits_on y a.edits);
          past = ap (through (fits (key_at l.nodes o.node))) (past_all o.enter (enters hs (kind_at l.nodes o.node)) end);
          end = end;
          empty = empty_as g l o.node o.children (tree.links.lists o.node) a.empty;
        };
        apart = kept_apart (fresh o.sure child ∷ o ∷ os) (o ∷ os) y x.1.1.0 z.1.1.0;
        stage = z.1.1.1 ∙ x.1.1.1;
      }

  failing : (err : AllocError) → PassesLeaf h l child (Err err) → Enters h l (reverse os) more o child (Err err)
  failing err e = elim e [
    | inl q ↦ record { text = ap (λ (f : Forest). f.text) q; cursors = ap (λ (f : Forest). f.cursors) q; noted = inl (ap (λ (f : Forest). f.nodes) q, ap (λ (f : Forest). f.log) q); ok = tt }
    | inr q ↦ record { text = ap (λ (f : Forest). f.text) q; cursors = ap (λ (f : Forest). f.cursors) q; noted = inr (ap (λ (f : Forest). f.nodes) q, ap (λ (f : Forest). f.log) q); ok = tt }
  ]

  pub fails : (err : AllocError) → PassesLeaf h l child (Err err) → Strolls hs most g (upto o j ∷ os) t l
  fails err e = Turning.child_fails hs most g (upto o j) os t a.pass a.shows g h l (reverse os) more o.children o.enter child o.sure err there.1 a.past (opened_still g o.node o.children a.empty) n (failing err e)

pub came_first : (hs : List PickedHook) (most : ℕ) (f : Forest) (o : Open) (k : ℕ) (os : List Open) (s : State) → AtChildren hs f o k os s → ComesTo hs most f o k os s f k
came_first hs most f o k os s a = record {
  strolls = Turning.stayed hs most f f (upto o k ∷ os) s a.shows.nodes (record { text = refl; nodes = refl; log = refl }) (λ serial c e u. e);
  here = a;
  apart = record { apart = λ serial c e u. u; count = refl };
  stage = refl;
}

pub came_on : {hs : List PickedHook} {most : ℕ} {f g l : Forest} {o : Open} {k j i : ℕ} {os : List Open} {s : State} → (c : ComesTo hs most f o k os s g j) → ComesTo hs most g o j os c.strolls.state l i → ComesTo hs most f o k os s l i
came_on {o = o} {j = j} {i = i} {os = os} c d = record {
  strolls = then c.strolls c.apart.apart d.strolls;
  here = d.here;
  apart = kept_apart (upto o j ∷ os) (upto o i ∷ os) c.strolls c.apart d.apart;
  stage = d.stage ∙ c.stage;
}

pub strolled_on : {hs : List PickedHook} {most : ℕ} {f g l : Forest} {o : Open} {k j : ℕ} {os : List Open} {s : State} → (c : ComesTo hs most f o k os s g j) → Strolls hs most g (upto o j ∷ os) c.strolls.state l → Strolls hs most f (upto o k ∷ os) s l
strolled_on c v = then c.strolls c.apart.apart v

-- numbers, texts and the length of the log
pub kept_first : (f : Forest) → KeepsTexts f f
kept_first f = record { many = refl; texts = λ n. refl; grows = omega arith }

pub kept_same : {f g h : Forest} → KeepsTexts f g → SameBeside g h → KeepsTexts f h
kept_same k e = record {
  many = ap length e.nodes ∙ k.many;
  texts = λ n. ap (λ ns. text_of ns n) e.nodes ∙ k.texts n;
  grows = let i = ap length e.log in let j = k.grows in omega arith;
}

kept_marked : (f h l : Forest) (child : ℕ) → KeepsTexts f h → l.nodes ≡ with_mark h.nodes child false → length h.log ≤ length l.log → KeepsTexts f l
kept_marked f h l child k e i =
    let tree : SameTree h.nodes l.nodes = subst (SameTree h.nodes) (sym e) (SameTree-mark h.nodes child false) in
    record {
      many = tree.links.same_length ∙ k.many;
      texts = λ n. tree.texts n ∙ k.texts n;
      grows = let j = k.grows in omega arith;
    }

pub kept_leaf : {f h l : Forest} (child : ℕ) (r : Result (Unit {0}) AllocError) → KeepsTexts f h → PassesLeaf h l child r → KeepsTexts f l
kept_leaf {f} {h} {l} child (Ok u) k e =
    let i : length l.log ≡ length ((h.log ++ I.Enter child ∷ []) ++ I.Leave child ∷ []) = ap (λ (x : Forest). length x.log) e in
    let j : length ((h.log ++ I.Enter child ∷ []) ++ I.Leave child ∷ []) ≡ length (h.log ++ I.Enter child ∷ []) + 1 = length-append (h.log ++ I.Enter child ∷ []) (I.Leave child ∷ []) in
    let m : length (h.log ++ I.Enter child ∷ []) ≡ length h.log + 1 = length-append h.log (I.Enter child ∷ []) in
    kept_marked f h l child k (ap (λ (x : Forest). x.nodes) e) (omega arith)
kept_leaf {f} {h} {l} child (Err err) k e = elim e [
  | inl q ↦ kept_same k (record { text = ap (λ (x : Forest). x.text) q; nodes = ap (λ (x : Forest). x.nodes) q; log = ap (λ (x : Forest). x.log) q })
  | inr q ↦ let i : length l.log ≡ length (h.log ++ I.Enter child ∷ []) = ap (λ (x : Forest). length x.log) q in let m : length (h.log ++ I.Enter child ∷ []) ≡ length h.log + 1 = length-append h.log (I.Enter child ∷ []) in kept_marked f h l child k (ap (λ (x : Forest). x.nodes) q) (omega arith)
]

-- a leaf is one dirty node less
pub less_leaf : (g h l : Forest) (o : Option ℕ) (child : ℕ) → NextDirty g h o (Some child) → PassesLeaf h l child (Ok tt) → suc (dirty_total l.nodes) ≡ dirty_total g.nodes
less_leaf g h l o child n e = ap (λ (x : Forest). suc (dirty_total x.nodes)) e ∙ (ap (λ ns. suc (dirty_total (with_mark ns child false))) n.same.nodes ∙ Turning.dirty_less g.nodes child n.dirty)

pub front : (hs : List PickedHook) (most : ℕ) (f : Forest) (o : Open) (k : ℕ) (os : List Open) (s : State) (g : Forest) (r : Result (Option ℕ) AllocError) → IsErr r → Strolls hs most f (upto o k ∷ os) s g → PassesLeaves hs most f o k os s g r
front hs most f o k os s g (Ok x) h w = absurd (false≢true h)
front hs most f o k os s g (Err e) h w = w
