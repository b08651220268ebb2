-- An edit that alters nothing below a node leaves its tree.
use Rattle.std.proofs.Common.{◌≡◌, ◌≢◌, ℕ, zero, suc, ◌<◌, ◌≤◌, List, [], ◌∷◌, ◌++◌, false, length, Option, Some, None, refl, ap, sym, ◌∙◌, arith, subst, length-set, length-append, insert, remove}
use Rattle.std.proofs.Math.ListN.{get_or-append}
use Rattle.std.proofs.lemmas.Bool.{false≢true}
use Rattle.css_text.specs.declared.lexer.Span.{Span}
use Rattle.css_tree.specs.declared.node.NodeText.{NodeText}
use Rattle.css_tree.specs.Tree.{Trees, node}
use Rattle.css_tree.specs.Changes.{with_field, with_raw}
use Rattle.node_rows.specs.Nodes.{Node, node_at, no_node, new_node, parent_of, children_of, text_of, span_of, path, holds, place_of, linked, unlinked, with_text, with_parent, with_children}
use Rattle.node_rows.specs.NumberTrees.{NumberTrees, trees_by, levels, number_trees, plain, tree_at}
use Rattle.node_rows.specs.Marks.{mark, dirtied}
use Rattle.node_rows.specs.Sound.{IsSound}
use Rattle.node_rows.proofs.Edits.{parent-inside}
use Rattle.node_rows.proofs.Fields.{field_kept, field_other}
use Rattle.node_rows.proofs.Kept.{text-other, span-with_text, SameLinks-mark, SameTexts-mark, SameLinks-dirtied, SameTexts-dirtied}
use Rattle.node_rows.proofs.Levels.{Each, Each-map, children_each, children_at, levels-same}
use Rattle.node_rows.proofs.SameLinks.{SameLinks-text}
use Rattle.node_store.specs.declared.item.Edit.{Edit}
use Rattle.node_store.specs.declared.item.Edit.TheVariants.{Set, SetRaw, New, Insert, Remove}
use Rattle.node_store.specs.Edits.{apply, removed_from}
use Rattle.visitor_machine.specs.Altered.{altered, is_within}
use Rattle.visitor_machine.proofs.Above.{Above, here, below, holds_from_above}
use Rattle.visitor_machine.proofs.Kept.{OnlyMarks, tree-same}

-- n and the nodes below it have the same texts, spans and children
pub record SameBelow (n : ℕ) (ns ms : List Node) : Type 0 where
  pub grows : length ns ≤ length ms
  pub texts : (m : ℕ) → Above ns n m → text_of ms m ≡ text_of ns m
  pub spans : (m : ℕ) → Above ns n m → span_of ms m ≡ span_of ns m
  pub lists : (m : ℕ) → Above ns n m → children_of ms m ≡ children_of ns m

plain_node : (t u : NodeText) (s q : Option Span) (k l r o : Trees) → t ≡ u → s ≡ q → k ≡ l → r ≡ o → node t s k r ≡ node u q l o
plain_node t u s q k l r o a b c d = cc

module _ (ns ms : List Node) (n : ℕ) (s : IsSound ns) (h : SameBelow n ns ms) where
  trees_kept : (f g : ℕ → NumberTrees) → ((m : ℕ) → Above ns n m → plain ms (g m) ≡ plain ns (f m)) → (is : List ℕ) → Each (Above ns n) is → plain ms (trees_by g is) ≡ plain ns (trees_by f is)
  trees_kept f g e [] a = refl
  trees_kept f g e (i ∷ is) a = plain_node (text_of ms i) (text_of ns i) (span_of ms i) (span_of ns i) (plain ms (g i)) (plain ns (f i)) (plain ms (trees_by g is)) (plain ns (trees_by f is)) (h.texts i a.0) (h.spans i a.0) (e i a.0) (trees_kept f g e is a.1)

  below_each : (m : ℕ) → Above ns n m → Each (Above ns n) (children_of ns m)
  below_each m a = Each-map _ _ (λ c e. below e a) (children_of ns m) (children_each ns m s)

  levels_kept : (k : ℕ) (is : List ℕ) → Each (Above ns n) is → plain ms (levels ms k is) ≡ plain ns (levels ns k is)
  unfolding levels
  levels_kept zero is a = refl
  levels_kept (suc k) is a =
      trees_kept (λ m. levels ns k (children_of ns m)) (λ m. levels ms k (children_of ms m))
      (λ m b. ap (λ l. plain ms (levels ms k l)) (h.lists m b) ∙ levels_kept k (children_of ns m) (below_each m b)) is a

  pub tree_kept : n < length ns → tree_at ms n ≡ tree_at ns n
  unfolding number_trees
  tree_kept b =
      let cs = children_of ns n in
      let d = length (path ns n) in
      let g = h.grows in
      tree-same (tree_at ms n) (tree_at ns n) (h.texts n (here refl)) (h.spans n (here refl))
      (ap (λ l. plain ms (levels ms (length ms) l)) (h.lists n (here refl))
      ∙ (levels_kept (length ms) cs (below_each n (here refl))
      ∙ ap (plain ns) (levels-same ns s (length ms) (length ns) (suc d) cs (children_at ns d n s (b, refl)) (omega arith) (omega arith))))

then_marks : (n : ℕ) (ns ks ms : List Node) → SameBelow n ns ks → OnlyMarks ks ms → SameBelow n ns ms
then_marks n ns ks ms h o =
    let g = h.grows in
    let l = o.0.same_length in
    record {
      grows = omega arith;
      texts = λ m a. o.1.texts m ∙ h.texts m a;
      spans = λ m a. o.1.spans m ∙ h.spans m a;
      lists = λ m a. o.0.lists m ∙ h.lists m a;
    }

pub marks_below : (n : ℕ) (ns ms : List Node) → OnlyMarks ns ms → SameBelow n ns ms
marks_below n ns ms o = then_marks n ns ns ms (record { grows = omega arith; texts = λ m a. refl; spans = λ m a. refl; lists = λ m a. refl }) o

marked : (ns : List Node) (n : ℕ) → OnlyMarks ns (mark ns n)
marked ns n = (SameLinks-mark ns n, SameTexts-mark ns n)

-- a node below n isn't one that isn't
apart : (ns : List Node) (n k : ℕ) → IsSound ns → 0 < length ns → holds ns n k ≡ false → (m : ℕ) → Above ns n m → m ≢ k
apart ns n k s z h m a e = false≢true (sym h ∙ holds_from_above s z (subst (Above ns n) e a))

inside : (ns : List Node) (n : ℕ) → n < length ns → {m : ℕ} → Above ns n m → m < length ns
inside ns n b (here {c} e) = omega arith
inside ns n b (below {c} {p} e r) = parent-inside ns c p e

module _ (ns : List Node) (n : ℕ) (s : IsSound ns) (b : n < length ns) where
  text_below : (k : ℕ) (t : NodeText) → holds ns n k ≡ false → SameBelow n ns (with_text ns k t)
  text_below k t h =
      let l = (SameLinks-text ns k t).same_length in
      record {
        grows = omega arith;
        texts = λ m a. text-other ns k t m (apart ns n k s (omega arith) h m a);
        spans = λ m a. span-with_text ns k t m;
        lists = λ m a. (SameLinks-text ns k t).lists m;
      }

  new_below : (t : NodeText) (o : Option Span) → SameBelow n ns (ns ++ new_node t o ∷ [])
  new_below t o =
      let at : (m : ℕ) → Above ns n m → node_at (ns ++ new_node t o ∷ []) m ≡ node_at ns m = λ m a. get_or-append ns (new_node t o ∷ []) no_node m (inside ns n b a) in
      record {
        grows = omega (arith, length-append ns (new_node t o ∷ []));
        texts = λ m a. ap (λ x. x.text) (at m a);
        spans = λ m a. ap (λ x. x.span) (at m a);
        lists = λ m a. ap (λ x. x.children) (at m a);
      }

  -- another parent of c and other children of p
  relinked_below : (p c : ℕ) (xs : List ℕ) (o : Option ℕ) → holds ns n p ≡ false → SameBelow n ns (with_parent (with_children ns p xs) c o)
  relinked_below p c xs o h =
      let k : length (with_children ns p xs) ≡ length ns = length-set _ _ _ in
      let l : length (with_parent (with_children ns p xs) c o) ≡ length (with_children ns p xs) = length-set _ _ _ in
      record {
        grows = omega arith;
        texts = λ m a. field_kept (λ x. x.text) (with_children ns p xs) c _ refl m ∙ field_kept (λ x. x.text) ns p _ refl m;
        spans = λ m a. field_kept (λ x. x.span) (with_children ns p xs) c _ refl m ∙ field_kept (λ x. x.span) ns p _ refl m;
        lists = λ m a. field_kept (λ x. x.children) (with_children ns p xs) c _ refl m ∙ field_other (λ x. x.children) ns p _ m (apart ns n p s (omega arith) h m a);
      }

  removed_below : (c : ℕ) (o : Option ℕ) → is_within ns n o ≡ false → SameBelow n ns (removed_from ns c o)
  removed_below c None h = record { grows = omega arith; texts = λ m a. refl; spans = λ m a. refl; lists = λ m a. refl }
  removed_below c (Some p) h =
      let ls = unlinked ns p (place_of ns p c) c in
      then_marks n ns ls (mark ls p) (relinked_below p c (remove (children_of ns p) (place_of ns p c)) None h) (marked ls p)

  pub edit_below : (e : Edit) → is_within ns n (altered ns e) ≡ false → SameBelow n ns (apply ns e)
  edit_below (Set field k t) h = let ks = with_text ns k (with_field field t (text_of ns k)) in then_marks n ns ks (mark ks k) (text_below k _ h) (marked ks k)
  edit_below (SetRaw raw k t) h = text_below k (with_raw raw t (text_of ns k)) h
  edit_below (New k t o) h = new_below t o
  edit_below (Insert c p at) h =
      let ls = linked ns p at c in
      let ds = dirtied ls c in
      then_marks n ns ds (mark ds p) (then_marks n ns ls ds (relinked_below p c (insert (children_of ns p) at c) (Some p) h) (SameLinks-dirtied ls c, SameTexts-dirtied ls c)) (marked ds p)
  edit_below (Remove c) h = removed_below c (parent_of ns c) h
