-- A plan of copies: each of its edits may be made, and what it makes of the nodes.
use Rattle.std.proofs.Common.{◌≡◌, ◌≢◌, ℕ, zero, suc, ◌+◌, ◌<◌, ◌≤◌, List, [], ◌∷◌, ◌++◌, Bool, true, false, ◌&&◌, length, map, take, drop, set, get_or, Option, Some, None, IsSome, IfSome, refl, ap, sym, ◌∙◌, subst, arith, eqb, eq-eqb, count_by, append-nil, append_assoc, length-append, length-set, insert}
use Rattle.std.specs.Prelude.{not}
use Rattle.std.specs.List.{list_any}
use Rattle.std.proofs.lemmas.Bool.{ne_eqb, lt-ltb, le-leb}
use Rattle.std.proofs.Math.ListN.{get_or-append}
use Rattle.std.proofs.Math.Seq.{take-suc, drop-cons}
use Rattle.css_text.specs.declared.lexer.Span.{Span}
use Rattle.css_tree.specs.declared.node.Kind.{Kind}
use Rattle.css_tree.specs.declared.node.Kind.TheVariants as K
use Rattle.css_tree.specs.declared.node.NodeText.{NodeText}
use Rattle.css_tree.specs.Parts.{kind_of, block_of}
use Rattle.node_rows.specs.Nodes.{Node, no_node, new_node, node_at, parent_of, children_of, is_dirty, holds, linked, with_children, with_parent}
use Rattle.node_rows.specs.Sound.{IsSound}
use Rattle.node_rows.specs.NumberTrees.{number_trees, numbers, numbers_below}
use Rattle.node_rows.specs.Marks.{with_mark, all_dirty, mark, marked_where, dirtied}
use Rattle.node_rows.proofs.Climb.{Rooted, top, under, chain, rooted, path-chain}
use Rattle.node_rows.proofs.Edits.{listed_once}
use Rattle.node_rows.proofs.Fields.{field_kept, field_other}
use Rattle.node_rows.proofs.Levels.{number_trees-none}
use Rattle.node_store.specs.declared.item.Edit.{Edit}
use Rattle.node_store.specs.declared.item.Edit.TheVariants.{Set, SetRaw, New, Insert, Remove}
use Rattle.node_store.specs.declared.item.Item.{Item}
use Rattle.node_store.specs.declared.item.Item.TheVariants as I
use Rattle.node_store.specs.declared.seat.Seat.{Seat}
use Rattle.node_store.specs.Forest.{IsSpanOf}
use Rattle.node_store.specs.Edits.{is_allowed, is_loose, is_root_kind, apply, can, all_can, edited, edited_all}
use Rattle.node_store.specs.Seats.{IsStored}
use Rattle.node_store.specs.Growth.{grow, grow_all, news, Grafts, IsPlan, IsGraft, grafted}
use Rattle.node_store.proofs.Allowed.{Insertable}
use Rattle.node_store.proofs.Stores.{Edited, edited-put, edited-made}
use Rattle.node_store.proofs.Views.{shown_forest, forest-same}

and_true : (a b : Bool) → a ≡ true → b ≡ true → (a && b) ≡ true
and_true true b e f = f
and_true false b e f = absurd cc

-- a node without children stands above no other
chain_off : {ns : List Node} (s : IsSound ns) (n : ℕ) → children_of ns n ≡ [] → {m : ℕ} (r : Rooted ns m) → n ≢ m → list_any (eqb n) (chain r) ≡ false
unfolding chain
chain_off s n h (top {n = a} e) d = rw (ne_eqb n a d) refl
chain_off {ns} s n h (under {n = a} {p = b} e r) d =
    let off : n ≢ b = λ i. absurd (
    let one = listed_once ns a b s e in
    let none : count_by (eqb a) (children_of ns b) ≡ 0 = ap (λ k. count_by (eqb a) (children_of ns k)) (sym i) ∙ ap (count_by (eqb a)) h in
    omega arith) in
    rw (ne_eqb n a d) (chain_off s n h r off)

module _ (ns : List Node) (n p at : ℕ) (g : Grafts ns n p at) where
  pub graft-apart : IsSound ns → holds ns n p ≡ false
  graft-apart s =
      let r = rooted ns s p g.parent_in in
      ap (list_any (eqb n)) (path-chain ns s p g.parent_in r) ∙ chain_off s n g.childless r g.differ

  pub graft-insertable : IsSound ns → Insertable ns n p at
  graft-insertable s = record {
    node_in = g.node_in;
    parent_in = g.parent_in;
    not_first = g.not_first;
    loose = g.loose;
    apart = graft-apart s;
    block = g.block;
    place = g.place;
  }

  loose_is : is_loose (parent_of ns n) ≡ true
  loose_is = ap is_loose g.loose

  pub graft-allowed : IsSound ns → is_allowed ns (Insert n p at) ≡ true
  graft-allowed s =
      and_true _ _ (lt-ltb n (length ns) g.node_in)
      (and_true _ _ (lt-ltb p (length ns) g.parent_in)
      (and_true _ _ (ap not (ne_eqb n 0 g.not_first))
      (and_true _ _ loose_is
      (and_true _ _ (ap not (graft-apart s))
      (and_true _ _ g.block (le-leb at (length (children_of ns p)) g.place))))))

set_same : (xs : List Node) (i : ℕ) → set xs i (get_or xs i no_node) ≡ xs
set_same [] i = refl
set_same (x ∷ xs) zero = refl
set_same (x ∷ xs) (suc i) = ap (λ l. x ∷ l) (set_same xs i)

dirty_again : (x : Node) → x.dirty ≡ true → record x { dirty = true } ≡ x
dirty_again x e = ap (λ d. record x { dirty = d }) (sym e)

mark_again : (ns : List Node) (n : ℕ) → is_dirty ns n ≡ true → with_mark ns n true ≡ ns
mark_again ns n e = ap (set ns n) (dirty_again (node_at ns n) e) ∙ set_same ns n

-- marks that are there already change nothing
pub graft-apply : (ns : List Node) (n p at : ℕ) → Grafts ns n p at → apply ns (Insert n p at) ≡ linked ns p at n
unfolding mark dirtied
graft-apply ns n p at g =
    let ks : List Node = with_children ns p (insert (children_of ns p) at n) in
    let ls : List Node = linked ns p at n in
    let same : (m : ℕ) → is_dirty ls m ≡ is_dirty ns m = λ m. field_kept (λ x. x.dirty) ks n _ refl m ∙ field_kept (λ x. x.dirty) ns p _ refl m in
    let empty : children_of ls n ≡ [] = field_kept (λ x. x.children) ks n _ refl n ∙ (field_other (λ x. x.children) ns p _ n g.differ ∙ g.childless) in
    let none : numbers_below ls n ≡ [] = ap (λ l. numbers (number_trees ls l)) empty ∙ ap numbers (number_trees-none ls) in
    let one : dirtied ls n ≡ ls = ap (λ l. all_dirty ls (n ∷ l)) none ∙ mark_again ls n (same n ∙ g.node_dirty) in
    ap (λ l. mark l p) one ∙ ap (marked_where ls p) (same p ∙ g.parent_dirty)

kind_other : (k : Kind) → k ≢ K.Root → is_root_kind k ≡ false
kind_other K.Root h = absurd (h refl)
kind_other K.AtRule h = refl
kind_other K.Rule h = refl
kind_other K.Declaration h = refl
kind_other K.Comment h = refl

pub new-allowed : (ns : List Node) (n : ℕ) (t : NodeText) (span : Option Span) → n ≡ length ns → length ns < 5000000 → kind_of t ≢ K.Root → is_allowed ns (New n t span) ≡ true
new-allowed ns n t span e b k =
    and_true _ _ (eq-eqb n (length ns) e) (and_true _ _ (lt-ltb n 5000000 (omega arith)) (ap not (kind_other (kind_of t) k)))

-- each new node's span is one of the text
abbrev pub HasSpans : List ℕ → List Edit → Type 0
HasSpans text [] = Unit {0}
HasSpans text (New n t span ∷ es) = IfSome span (IsSpanOf text) × HasSpans text es
HasSpans text (_ ∷ es) = HasSpans text es

-- the store that a plan leaves
module _ (text : List ℕ) (ss : List (Option Seat)) where
  pub record Planned (ns : List Node) (es : List Edit) : Type 0 where
    pub stored : IsStored text (grow_all ns es) ss
    pub allowed : all_can ns es ≡ true
    pub shown : (log : List Item) → edited_all (shown_forest text ns ss log 0 None) es ≡ shown_forest text (grow_all ns es) ss (log ++ map I.Edit es) 0 None

  next_step : (ns ms : List Node) (e : Edit) (es : List Edit) → Edited text ns ms ss ss e → apply ns e ≡ ms → ms ≡ grow ns e → is_allowed ns e ≡ true → can ns e ≡ true → Planned ms es → Planned ns (e ∷ es)
  next_step ns ms e es d a g l c r = record {
    stored = subst (λ x. IsStored text (grow_all x es) ss) g r.stored;
    allowed = and_true _ _ c (ap (λ x. all_can x es) a ∙ r.allowed);
    shown = λ log.
        let step : edited (shown_forest text ns ss log 0 None) e ≡ shown_forest text ms ss (log ++ I.Edit e ∷ []) 0 None = forest-same text _ _ _ _ _ _ 0 None a (sym d.shown) refl in
        ap (λ f. edited_all f es) step
        ∙ (r.shown (log ++ I.Edit e ∷ [])
        ∙ (ap (λ x. shown_forest text (grow_all x es) ss ((log ++ I.Edit e ∷ []) ++ map I.Edit es) 0 None) g
        ∙ ap (λ k. shown_forest text (grow_all (grow ns e) es) ss k 0 None) (append_assoc log (I.Edit e ∷ []) (map I.Edit es))));
  }

  pub planned : (es : List Edit) (ns : List Node) → IsStored text ns ss → IsPlan ns es → HasSpans text es → Planned ns es
  planned [] ns k h s = record {
    stored = k;
    allowed = refl;
    shown = λ log. ap (λ l. shown_forest text ns ss l 0 None) (sym (append-nil log));
  }
  planned (New n t span ∷ es) ns k h s =
      let a = new-allowed ns n t span h.0 h.1 h.2 in
      let ms : List Node = ns ++ new_node t span ∷ [] in
      let d = edited-made text ns ss k n t span ms a s.0 h.0 refl in
      next_step ns ms (New n t span) es d refl refl a (and_true _ _ a refl) (planned es ms d.stored h.3 s.1)
  planned (Insert n p at ∷ es) ns k h s =
      let g = h.0 in
      let a = graft-allowed ns n p at g k.forest.sound in
      let ms : List Node = linked ns p at n in
      let e = graft-apply ns n p at g in
      let d = edited-put text ns ss k p at n ms a (sym e) in
      next_step ns ms (Insert n p at) es d e refl a (and_true _ _ a refl) (planned es ms d.stored h.1 s)
  planned (Set x n t ∷ es) ns k h s = absurd h
  planned (SetRaw x n t ∷ es) ns k h s = absurd h
  planned (Remove n ∷ es) ns k h s = absurd h

-- how many nodes a plan leaves
pub plan-few : (es : List Edit) (ns : List Node) → IsPlan ns es → length ns ≤ 67108865 → length ns + length (news es) ≤ 67108865
plan-few [] ns h b = omega arith
plan-few (New n t span ∷ es) ns h b =
    let l : length (ns ++ new_node t span ∷ []) ≡ length ns + 1 = length-append ns (new_node t span ∷ []) in
    let c = h.1 in
    let r = plan-few es (ns ++ new_node t span ∷ []) h.3 (omega arith) in omega arith
plan-few (Insert n p at ∷ es) ns h b =
    let l : length (linked ns p at n) ≡ length ns = length-set _ _ _ ∙ length-set _ _ _ in
    let r = plan-few es (linked ns p at n) h.1 (omega arith) in omega arith
plan-few (Set x n t ∷ es) ns h b = absurd h
plan-few (SetRaw x n t ∷ es) ns h b = absurd h
plan-few (Remove n ∷ es) ns h b = absurd h

set_more : (xs zs : List Node) (i : ℕ) (x : Node) → i < length xs → set (xs ++ zs) i x ≡ set xs i x ++ zs
set_more [] zs i x b = absurd (omega arith)
set_more (y ∷ xs) zs zero x b = refl
set_more (y ∷ xs) zs (suc i) x b = ap (λ l. y ∷ l) (set_more xs zs i x (omega arith))

node_more : (xs zs : List Node) (i : ℕ) → i < length xs → node_at (xs ++ zs) i ≡ node_at xs i
node_more xs zs i b = get_or-append xs zs no_node i b

-- nodes behind stay as they are
linked_more : (ns zs : List Node) (p at n : ℕ) → p < length ns → n < length ns → linked (ns ++ zs) p at n ≡ linked ns p at n ++ zs
linked_more ns zs p at n bp bn =
    let put : Node → Node = λ x. record x { children = insert x.children at n } in
    let below : Node → Node = λ x. record x { parent = Some p } in
    let ks : List Node = with_children ns p (insert (children_of ns p) at n) in
    let e : with_children (ns ++ zs) p (insert (children_of (ns ++ zs) p) at n) ≡ ks ++ zs = ap (λ x. set (ns ++ zs) p (put x)) (node_more ns zs p bp) ∙ set_more ns zs p (put (node_at ns p)) bp in
    let b : n < length ks = let l : length ks ≡ length ns = length-set _ _ _ in omega arith in
    ap (λ l. with_parent l n (Some p)) e
    ∙ (ap (λ x. set (ks ++ zs) n (below x)) (node_more ks zs n b) ∙ set_more ks zs n (below (node_at ks n)) b)

pub graft-more : (ns zs : List Node) (n p at : ℕ) → Grafts ns n p at → Grafts (ns ++ zs) n p at
graft-more ns zs n p at g =
    let l = length-append ns zs in
    let a = node_more ns zs n g.node_in in
    let b = node_more ns zs p g.parent_in in
    record {
      node_in = let h = g.node_in in omega arith;
      parent_in = let h = g.parent_in in omega arith;
      not_first = g.not_first;
      differ = g.differ;
      loose = ap (λ x. x.parent) a ∙ g.loose;
      childless = ap (λ x. x.children) a ∙ g.childless;
      block = subst (λ x. IsSome (block_of x.text)) (sym b) g.block;
      place = let h = g.place in let e = ap (λ x. length x.children) b in omega arith;
      parent_dirty = ap (λ x. x.dirty) b ∙ g.parent_dirty;
      node_dirty = ap (λ x. x.dirty) a ∙ g.node_dirty;
    }

-- one turn of the insertions, where the nodes that are still to come stand behind
pub turn : (ns : List Node) (e : Edit) (es : List Edit) → IsPlan ns (e ∷ es) → IsGraft (ns ++ news (e ∷ es)) e × (grafted (ns ++ news (e ∷ es)) e ≡ grow ns e ++ news es) × IsPlan (grow ns e) es
turn ns (New n t span) es h = (tt, sym (append_assoc ns (new_node t span ∷ []) (news es)), h.3)
turn ns (Insert n p at) es h = (graft-more ns (news es) n p at h.0, linked_more ns (news es) p at n h.0.parent_in h.0.node_in, h.1)
turn ns (Set x n t) es h = absurd h
turn ns (SetRaw x n t) es h = absurd h
turn ns (Remove n) es h = absurd h

pub grow_all-push : (es : List Edit) (e : Edit) (ns : List Node) → grow_all ns (es ++ e ∷ []) ≡ grow (grow_all ns es) e
grow_all-push [] e ns = refl
grow_all-push (x ∷ es) e ns = grow_all-push es e (grow ns x)

-- the same, where the plan is known by its place
module _ (ns rows : List Node) (es : List Edit) (i : ℕ) (e : Edit) (b : i < length es) (is : e ≡ get_or es i e) (g : rows ≡ grow_all ns (take i es) ++ news (drop i es)) (h : IsPlan (grow_all ns (take i es)) (drop i es)) where
  rest_is : drop i es ≡ e ∷ drop (i + 1) es
  rest_is = drop-cons es i e b ∙ (ap (λ x. x ∷ drop (suc i) es) (sym is) ∙ ap (λ k. e ∷ drop k es) (let k : suc i ≡ i + 1 = omega arith in k))

  front_is : take (i + 1) es ≡ take i es ++ e ∷ []
  front_is = ap (λ k. take k es) (let k : i + 1 ≡ suc i = omega arith in k) ∙ (take-suc es i e b ∙ ap (λ x. take i es ++ x ∷ []) (sym is))

  taken : IsGraft (grow_all ns (take i es) ++ news (e ∷ drop (i + 1) es)) e × (grafted (grow_all ns (take i es) ++ news (e ∷ drop (i + 1) es)) e ≡ grow (grow_all ns (take i es)) e ++ news (drop (i + 1) es)) × IsPlan (grow (grow_all ns (take i es)) e) (drop (i + 1) es)
  taken = turn (grow_all ns (take i es)) e (drop (i + 1) es) (subst (IsPlan (grow_all ns (take i es))) rest_is h)

  rows_are : rows ≡ grow_all ns (take i es) ++ news (e ∷ drop (i + 1) es)
  rows_are = g ∙ ap (λ l. grow_all ns (take i es) ++ news l) rest_is

  pub turn-graft : IsGraft rows e
  turn-graft = subst (λ l. IsGraft l e) (sym rows_are) taken.0

  grown_is : grow_all ns (take (i + 1) es) ≡ grow (grow_all ns (take i es)) e
  grown_is = ap (grow_all ns) front_is ∙ grow_all-push (take i es) e ns

  pub turn-grown : (later : List Node) → later ≡ grafted rows e → later ≡ grow_all ns (take (i + 1) es) ++ news (drop (i + 1) es)
  turn-grown later l = l ∙ (ap (λ r. grafted r e) rows_are ∙ (taken.1 ∙ ap (λ x. x ++ news (drop (i + 1) es)) (sym grown_is)))

  pub turn-plan : IsPlan (grow_all ns (take (i + 1) es)) (drop (i + 1) es)
  turn-plan = subst (λ x. IsPlan x (drop (i + 1) es)) (sym grown_is) taken.2
