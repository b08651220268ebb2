-- The copy of a tree is a plan.
use Rattle.std.proofs.Common.{◌≡◌, ◌≢◌, ℕ, zero, suc, ◌+◌, ◌<◌, ◌≤◌, List, [], ◌∷◌, ◌++◌, true, length, Option, Some, None, IsSome, IfSome, refl, ap, sym, ◌∙◌, subst, arith, append-nil, append_assoc, length-append, length-set, insert}
use Rattle.std.proofs.Math.ListN.{get_or-append}
use Rattle.std.proofs.Math.Seq.{get_or-append_seam}
use Rattle.std.proofs.lemmas.List.{get_or-set_other}
use Rattle.std.proofs.lemmas.List.Edits.{length-insert}
use Rattle.css_text.specs.declared.lexer.Span.{Span}
use Rattle.css_tree.specs.declared.node.Kind.TheVariants as K
use Rattle.css_tree.specs.Parts.{kind_of, block_of}
use Rattle.node_rows.specs.Nodes.{Node, no_node, new_node, node_at, text_of, span_of, parent_of, children_of, is_dirty, linked, with_children}
use Rattle.node_rows.specs.NumberTrees.{NumberTrees, no_trees, tree, trees_by, levels, number_trees, numbers, below}
use Rattle.node_rows.proofs.Edits.{parent-inside}
use Rattle.node_rows.proofs.Fields.{field_kept, field_same, field_other}
use Rattle.node_rows.proofs.Levels.{Each, Each-map, children_each}
use Rattle.node_store.specs.declared.item.Edit.{Edit}
use Rattle.node_store.specs.Forest.{IsForest, IsSpanOf}
use Rattle.node_store.specs.Seats.{bare}
use Rattle.node_store.specs.Copies.{copied_trees, copied, tree_size}
use Rattle.node_store.specs.Growth.{Grafts, IsPlan}
use Rattle.node_store.proofs.Growing.{HasSpans}

module _ (text : List ℕ) (ns : List Node) (f : IsForest (bare text ns)) where
  -- trees below m, if there are any, stand in a container
  abbrev pub NeedsBlock : NumberTrees → ℕ → Type 0
  NeedsBlock no_trees m = Unit {0}
  NeedsBlock (tree k children rest) m = IsSome (block_of (text_of ns m))

  abbrev pub AreCopied : NumberTrees → Type 0
  AreCopied no_trees = Unit {0}
  AreCopied (tree m children rest) = (kind_of (text_of ns m) ≢ K.Root) × NeedsBlock children m × AreCopied children × AreCopied rest

  abbrev pub IsBelow : ℕ → Type 0
  IsBelow m = (m < length ns) × (m ≢ 0)

  child_below : (m c : ℕ) → parent_of ns c ≡ Some m → IsBelow c
  child_below m c e = (parent-inside ns c m e, λ i. absurd (let r = f.sound.root in let j : parent_of ns c ≡ parent_of ns 0 = ap (parent_of ns) i in cc))

  level_needs : (k m : ℕ) (xs : List ℕ) → Each (λ c. parent_of ns c ≡ Some m) xs → NeedsBlock (levels ns k xs) m
  unfolding levels
  level_needs zero m xs h = tt
  level_needs (suc k) m [] h = tt
  level_needs (suc k) m (x ∷ xs) h = f.containers x m h.0

  level_each : (below : ℕ → NumberTrees) → ((m : ℕ) → NeedsBlock (below m) m × AreCopied (below m)) → (xs : List ℕ) → Each IsBelow xs → AreCopied (trees_by below xs)
  level_each below g [] h = tt
  level_each below g (x ∷ xs) h = (f.others x (let z = h.0.1 in omega arith) h.0.0, (g x).0, (g x).1, level_each below g xs h.1)

  level_copied : (k : ℕ) (xs : List ℕ) → Each IsBelow xs → AreCopied (levels ns k xs)
  unfolding levels
  level_copied zero xs h = tt
  level_copied (suc k) xs h =
      level_each (λ m. levels ns k (children_of ns m))
      (λ m. (level_needs k m (children_of ns m) (children_each ns m f.sound), level_copied k (children_of ns m) (Each-map _ _ (child_below m) (children_of ns m) (children_each ns m f.sound)))) xs h

  below_copied : (n : ℕ) → NeedsBlock (below ns n) n × AreCopied (below ns n)
  unfolding number_trees
  below_copied n = (
    level_needs (length ns) n (children_of ns n) (children_each ns n f.sound),
    level_copied (length ns) (children_of ns n) (Each-map _ _ (child_below n) (children_of ns n) (children_each ns n f.sound)),
  )

  needs : (m : ℕ) → IsSome (block_of (text_of ns m)) → (t : NumberTrees) → NeedsBlock t m
  needs m b no_trees = tt
  needs m b (tree k c r) = b

  -- p is the copy of m, with `at` children, and `next` is the next number
  pub record Copying (ms : List Node) (m p at next : ℕ) : Type 0 where
    pub count : length ms ≡ next
    pub given : p < length ms
    pub dirty : is_dirty ms p ≡ true
    pub text_is : text_of ms p ≡ text_of ns m
    pub children_are : length (children_of ms p) ≡ at

  -- k nodes more, of which none but p is another
  pub record After (ms later : List Node) (p k : ℕ) : Type 0 where
    pub longer : length later ≡ length ms + k
    pub others : (j : ℕ) → j < length ms → j ≢ p → node_at later j ≡ node_at ms j

  module _ (ms : List Node) (m m0 p at next : ℕ) (h : Copying ms m0 p at next) where
    abbrev pub made_on : List Node
    made_on = ms ++ new_node (text_of ns m) (span_of ns m) ∷ []

    abbrev pub put_on : List Node
    put_on = linked made_on p at next

    made_length : length made_on ≡ suc next
    made_length = let l = length-append ms (new_node (text_of ns m) (span_of ns m) ∷ []) in let c = h.count in omega arith

    made_last : node_at made_on next ≡ new_node (text_of ns m) (span_of ns m)
    made_last = ap (node_at made_on) (sym h.count) ∙ get_or-append_seam ms (new_node (text_of ns m) (span_of ns m)) [] no_node

    made_old : (j : ℕ) → j < length ms → node_at made_on j ≡ node_at ms j
    made_old j b = get_or-append ms (new_node (text_of ns m) (span_of ns m) ∷ []) no_node j b

    differ : next ≢ p
    differ = λ e. absurd (let c = h.count in let g = h.given in omega arith)

    grafts : 0 < next → IsSome (block_of (text_of ns m0)) → Grafts made_on next p at
    grafts z b =
        let old = made_old p h.given in
        record {
          node_in = let l = made_length in omega arith;
          parent_in = let l = made_length in let c = h.count in let g = h.given in omega arith;
          not_first = λ e. absurd (omega arith);
          differ = differ;
          loose = ap (λ x. x.parent) made_last;
          childless = ap (λ x. x.children) made_last;
          block = subst (λ t. IsSome (block_of t)) (sym (ap (λ x. x.text) old ∙ h.text_is)) b;
          place = let e = ap (λ x. length x.children) old in let c = h.children_are in omega arith;
          parent_dirty = ap (λ x. x.dirty) old ∙ h.dirty;
          node_dirty = ap (λ x. x.dirty) made_last;
        }

    put_length : length put_on ≡ suc next
    put_length = length-set _ _ _ ∙ (length-set _ _ _ ∙ made_length)

    put_text : (j : ℕ) → text_of put_on j ≡ text_of made_on j
    put_text j = field_kept (λ x. x.text) (with_children made_on p (insert (children_of made_on p) at next)) next _ refl j ∙ field_kept (λ x. x.text) made_on p _ refl j

    put_dirty : (j : ℕ) → is_dirty put_on j ≡ is_dirty made_on j
    put_dirty j = field_kept (λ x. x.dirty) (with_children made_on p (insert (children_of made_on p) at next)) next _ refl j ∙ field_kept (λ x. x.dirty) made_on p _ refl j

    put_old : (j : ℕ) → j < length ms → j ≢ p → node_at put_on j ≡ node_at ms j
    put_old j b d =
        let e : j ≢ next = λ i. absurd (let c = h.count in omega arith) in
        get_or-set_other (with_children made_on p (insert (children_of made_on p) at next)) next j _ no_node e
        ∙ (get_or-set_other made_on p j _ no_node d ∙ made_old j b)

    -- the new node below p
    inner : Copying put_on m next 0 (suc next)
    inner = record {
      count = put_length;
      given = let l = put_length in omega arith;
      dirty = put_dirty next ∙ ap (λ x. x.dirty) made_last;
      text_is = put_text next ∙ ap (λ x. x.text) made_last;
      children_are = ap length (field_kept (λ x. x.children) (with_children made_on p (insert (children_of made_on p) at next)) next _ refl next ∙ (field_other (λ x. x.children) made_on p _ next differ ∙ ap (λ x. x.children) made_last));
    }

    -- p, when the nodes below the new one are copied
    outer : (later : List Node) (k : ℕ) → After put_on later next k → Copying later m0 p (suc at) (suc next + k)
    outer later k a =
        let bp : p < length put_on = let l = put_length in let c = h.count in let g = h.given in omega arith in
        let same = a.others p bp (λ e. differ (sym e)) in
        let old = made_old p h.given in
        let place : at ≤ length (children_of made_on p) = let e = ap (λ x. length x.children) old in let c = h.children_are in omega arith in
        let list : children_of put_on p ≡ insert (children_of made_on p) at next = field_kept (λ x. x.children) (with_children made_on p (insert (children_of made_on p) at next)) next _ refl p
        ∙ field_same (λ x. x.children) made_on p _ (let l = made_length in let c = h.count in let g = h.given in omega arith) in
        record {
          count = let l = a.longer in let q = put_length in omega arith;
          given = let l = a.longer in omega arith;
          dirty = ap (λ x. x.dirty) same ∙ (put_dirty p ∙ (ap (λ x. x.dirty) old ∙ h.dirty));
          text_is = ap (λ x. x.text) same ∙ (put_text p ∙ (ap (λ x. x.text) old ∙ h.text_is));
          children_are = ap (λ x. length x.children) same ∙ (ap length list ∙ (length-insert (children_of made_on p) at next place ∙ (let e = ap (λ x. length x.children) old in let c = h.children_are in omega arith)));
        }

    both : (third last : List Node) (k j : ℕ) → After put_on third next k → After third last p j → After ms last p (suc (k + j))
    both third last k j a b = record {
      longer = let l = a.longer in let q = b.longer in let r = put_length in let c = h.count in omega arith;
      others = λ i bi d.
          let e : i ≢ next = λ g. absurd (let c = h.count in omega arith) in
          let i1 : i < length put_on = let r = put_length in let c = h.count in omega arith in
          let i2 : i < length third = let l = a.longer in omega arith in
          b.others i i2 d ∙ (a.others i i1 e ∙ put_old i bi d);
    }

  trees_plan : (t : NumberTrees) (ms : List Node) (m0 p at next : ℕ) → AreCopied t → NeedsBlock t m0 → Copying ms m0 p at next → 0 < next → next + length (numbers t) ≤ 5000000
      → (es : List Edit) → ((later : List Node) → After ms later p (length (numbers t)) → IsPlan later es) → IsPlan ms (copied_trees ns t p at next ++ es)
  trees_plan no_trees ms m0 p at next a b h z few es go = go ms (record { longer = omega arith; others = λ j bj d. refl })
  trees_plan (tree m c r) ms m0 p at next a b h z few es go =
      let k : ℕ = length (numbers c) in
      let j : ℕ = length (numbers r) in
      let size : length (numbers c ++ numbers r) ≡ k + j = length-append (numbers c) (numbers r) in
      let xs : List Edit = copied_trees ns c next 0 (suc next) in
      let ys : List Edit = copied_trees ns r p (suc at) (suc next + k) in
      let rest : IsPlan (put_on ms m m0 p at next h) (xs ++ (ys ++ es)) =
      trees_plan c (put_on ms m m0 p at next h) m next 0 (suc next) a.2 a.1 (inner ms m m0 p at next h) (omega arith) (omega arith) (ys ++ es)
      (λ third d. trees_plan r third m0 p (suc at) (suc next + k) a.3 (needs m0 b r) (outer ms m m0 p at next h third k d) (omega arith) (omega arith) es
      (λ last e. go last (subst (λ q. After ms last p q) (let q : suc (k + j) ≡ suc (length (numbers c ++ numbers r)) = omega arith in q) (both ms m m0 p at next h third last k j d e)))) in
      (sym h.count, (let q = h.count in omega arith), a.0, (grafts ms m m0 p at next h z b, subst (IsPlan (put_on ms m m0 p at next h)) (sym (append_assoc xs ys es)) rest))

  span_given : (k : ℕ) (o : Option Span) → span_of ns k ≡ o → IfSome o (IsSpanOf text)
  span_given k None e = tt
  span_given k (Some span) e = f.spans k span e

  trees_spans : (t : NumberTrees) (p at next : ℕ) (es : List Edit) → HasSpans text es → HasSpans text (copied_trees ns t p at next ++ es)
  trees_spans no_trees p at next es h = h
  trees_spans (tree m c r) p at next es h =
      let xs : List Edit = copied_trees ns c next 0 (suc next) in
      let ys : List Edit = copied_trees ns r p (suc at) (suc next + length (numbers c)) in
      (span_given m (span_of ns m) refl, subst (HasSpans text) (sym (append_assoc xs ys es)) (trees_spans c next 0 (suc next) (ys ++ es) (trees_spans r p (suc at) (suc next + length (numbers c)) es h)))

  pub copied-plan : (n : ℕ) → n < length ns → n ≢ 0 → length ns + tree_size ns n ≤ 5000000 → IsPlan ns (copied ns n)
  copied-plan n b z few =
      let base : ℕ = length ns in
      let x : Node = new_node (text_of ns n) (span_of ns n) in
      let t = below_copied n in
      let last : node_at (ns ++ x ∷ []) base ≡ x = get_or-append_seam ns x [] no_node in
      let start : Copying (ns ++ x ∷ []) n base 0 (suc base) = record {
        count = let l = length-append ns (x ∷ []) in omega arith;
        given = let l = length-append ns (x ∷ []) in omega arith;
        dirty = ap (λ y. y.dirty) last;
        text_is = ap (λ y. y.text) last;
        children_are = ap (λ y. length y.children) last;
      } in
      let rest = trees_plan (below ns n) (ns ++ x ∷ []) n base 0 (suc base) t.1 t.0 start (omega arith) (omega arith) [] (λ later a. tt) in
      (refl, omega arith, f.others n (omega arith) b, subst (IsPlan (ns ++ x ∷ [])) (append-nil (copied_trees ns (below ns n) base 0 (suc base))) rest)

  pub copied-spans : (n : ℕ) → HasSpans text (copied ns n)
  copied-spans n =
      (span_given n (span_of ns n) refl, subst (HasSpans text) (append-nil (copied_trees ns (below ns n) (length ns) 0 (suc (length ns)))) (trees_spans (below ns n) (length ns) 0 (suc (length ns)) [] tt))
