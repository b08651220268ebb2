-- The contexts of a tree are those of its nodes' numbers.
use Rattle.std.proofs.Common.{◌≡◌, ℕ, ◌<◌, List, [], ◌∷◌, ◌++◌, length, map, Option, Some, refl, ap, sym, ◌∙◌, subst, eqb, count_by, take, drop, slice_get, append_assoc}
use Rattle.std.specs.List.{position_or_len, range_with_len}
use Rattle.std.proofs.lemmas.List.{map-append, take_at}
use Rattle.css_text.specs.declared.lexer.Span.{Span}
use Rattle.css_tree.specs.declared.node.NodeText.{NodeText}
use Rattle.css_tree.specs.Tree.{Trees, Tree}
use Rattle.node_rows.specs.Nodes.{Node, text_of, span_of, parent_of, children_of, place_of, path}
use Rattle.node_rows.specs.Sound.{IsSound}
use Rattle.node_rows.specs.NumberTrees.{NumberTrees, no_trees, tree, number_trees, numbers, numbers_below, plain, below, tree_at}
use Rattle.node_store.specs.Forest.{Forest, IsForest}
use Rattle.node_store.specs.Fresh.{IsFresh}
use Rattle.node_rows.proofs.Behind.{place_is}
use Rattle.node_rows.proofs.Climb.{path-top, path-step}
use Rattle.node_rows.proofs.Edits.{listed_once, parent-inside}
use Rattle.node_rows.proofs.Levels.{Each, children_each, number_trees-more, number_trees-none}
use Rattle.node_store.proofs.FreshTree.{fresh_tree}
use Rattle.rule_sites.specs.Context.{Context, contexts, contexts_below}
use Rattle.rule_sites.specs.ContextAt.{context_at, earlier_in, earlier_of, ancestors_of}
use Rattle.rule_sites.specs.Laws.{NodesInOrder}
use Rattle.rule_sites.proofs.Numbers.{numbers_in_order}

get_at : (xs : List ℕ) (m : ℕ) (ys : List ℕ) → slice_get (xs ++ m ∷ ys) (length xs) ≡ Some m
get_at [] m ys = refl
get_at (x ∷ xs) m ys = get_at xs m ys

each_middle : (P : ℕ → Type 0) (xs : List ℕ) (m : ℕ) (ys : List ℕ) → Each P (xs ++ m ∷ ys) → P m
each_middle P [] m ys h = h.0
each_middle P (x ∷ xs) m ys h = each_middle P xs m ys h.1

split_tree : (m n : ℕ) (a b c d : NumberTrees) → tree m a b ≡ tree n c d → (m ≡ n) × (a ≡ c) × (b ≡ d)
split_tree m n a b c d e = let x : m ≡ n = cc in let y : a ≡ c = cc in let z : b ≡ d = cc in (x, y, z)

no_split : (m : ℕ) (a b : NumberTrees) → no_trees ≡ tree m a b → ⊥
no_split m a b e = cc

abbrev tree_with : NodeText → Option Span → Trees → Tree
tree_with text span children = record { text = text; span = span; children = children }

abbrev context_with : Tree → List Tree → List Tree → Context
context_with t earlier ancestors = record { node = t; earlier = earlier; ancestors = ancestors }

module _ (ns : List Node) (s : IsSound ns) where
  -- the siblings before a node are those that stand before it in its parent's list
  pub earlier-is : (p m : ℕ) (before ms : List ℕ) → parent_of ns m ≡ Some p → children_of ns p ≡ before ++ m ∷ ms → earlier_of ns m ≡ before
  earlier-is p m before ms e h =
      let place : place_of ns p m ≡ length before = ap (position_or_len (eqb m)) h ∙ place_is m (before ++ m ∷ ms) (length before) (sym (ap (count_by (eqb m)) h) ∙ listed_once ns m p s e) (get_at before m ms) in
      ap (earlier_in ns m) e ∙ (ap (λ k. take k (children_of ns p)) place ∙ (ap (take (length before)) h ∙ take_at before (m ∷ ms) (length before) refl))

  context_is : (p m : ℕ) (before ms : List ℕ) → parent_of ns m ≡ Some p → children_of ns p ≡ before ++ m ∷ ms → context_with (tree_at ns m) (map (tree_at ns) before) (map (tree_at ns) (path ns p)) ≡ context_at ns m
  unfolding context_at
  context_is p m before ms e h =
      let above : ancestors_of ns m ≡ path ns p = ap (drop 1) (path-step ns s m p (parent-inside ns m p e) e) in
      sym (ap (λ z. context_with (tree_at ns m) (map (tree_at ns) z) (map (tree_at ns) (ancestors_of ns m))) (earlier-is p m before ms e h)
      ∙ ap (λ z. context_with (tree_at ns m) (map (tree_at ns) before) (map (tree_at ns) z)) above)

  child_of : (p : ℕ) (before : List ℕ) (k : ℕ) (ms : List ℕ) → children_of ns p ≡ before ++ k ∷ ms → parent_of ns k ≡ Some p
  child_of p before k ms h =
      let P : ℕ → Type 0 = λ c. parent_of ns c ≡ Some p in
      each_middle P before k ms (subst (Each P) h (children_each ns p s))

  pub contexts_are : (nt : NumberTrees) (p : ℕ) (before ms : List ℕ) → children_of ns p ≡ before ++ ms → number_trees ns ms ≡ nt → contexts_below (map (tree_at ns) (path ns p)) (map (tree_at ns) before) (plain ns nt) ≡ map (context_at ns) (numbers nt)
  unfolding contexts_below
  contexts_are no_trees p before ms h e = refl
  contexts_are (tree m ch r) p before [] h e = absurd (no_split m ch r (sym (number_trees-none ns) ∙ e))
  contexts_are (tree m ch r) p before (k ∷ ms) h e =
      let up = child_of p before k ms h in
      let parts = split_tree k m (number_trees ns (children_of ns k)) (number_trees ns ms) ch r (sym (number_trees-more ns s k ms (parent-inside ns k p up)) ∙ e) in
      let same : k ≡ m = parts.0 in
      let below_m : below ns m ≡ ch = ap (λ x. number_trees ns (children_of ns x)) (sym same) ∙ parts.1 in
      let up_m : parent_of ns m ≡ Some p = ap (parent_of ns) (sym same) ∙ up in
      let here : children_of ns p ≡ before ++ m ∷ ms = h ∙ ap (λ x. before ++ x ∷ ms) same in
      let A : List Tree = map (tree_at ns) (path ns p) in
      let E : List Tree = map (tree_at ns) before in
      let above : tree_at ns m ∷ A ≡ map (tree_at ns) (path ns m) = ap (map (tree_at ns)) (sym (path-step ns s m p (parent-inside ns m p up_m) up_m)) in
      let passed : E ++ tree_at ns m ∷ [] ≡ map (tree_at ns) (before ++ m ∷ []) = sym (map-append (tree_at ns) before (m ∷ [])) in
      let first : contexts_below (tree_at ns m ∷ A) [] (plain ns ch) ≡ map (context_at ns) (numbers ch) = ap (λ z. contexts_below z [] (plain ns ch)) above ∙ contexts_are ch m [] (children_of ns m) refl below_m in
      let others : contexts_below A (E ++ tree_at ns m ∷ []) (plain ns r) ≡ map (context_at ns) (numbers r) = ap (λ z. contexts_below A z (plain ns r)) passed ∙ contexts_are r p (before ++ m ∷ []) ms (here ∙ sym (append_assoc before (m ∷ []) ms)) parts.2 in
      ap (λ t. context_with t E A ∷ (contexts_below (t ∷ A) [] (plain ns ch) ++ contexts_below A (E ++ t ∷ []) (plain ns r))) (ap (λ c. tree_with (text_of ns m) (span_of ns m) (plain ns c)) (sym below_m))
      ∙ (ap (λ c. c ∷ (contexts_below (tree_at ns m ∷ A) [] (plain ns ch) ++ contexts_below A (E ++ tree_at ns m ∷ []) (plain ns r))) (context_is p m before ms up_m here)
      ∙ (ap (λ z. context_at ns m ∷ (z ++ contexts_below A (E ++ tree_at ns m ∷ []) (plain ns r))) first
      ∙ (ap (λ z. context_at ns m ∷ (map (context_at ns) (numbers ch) ++ z)) others
      ∙ ap (λ z. context_at ns m ∷ z) (sym (map-append (context_at ns) (numbers ch) (numbers r))))))

  -- of the whole tree
  pub contexts_all : 0 < length ns → contexts (tree_at ns 0) ≡ map (context_at ns) (0 ∷ numbers_below ns 0)
  unfolding contexts context_at
  contexts_all b =
      let top : path ns 0 ≡ 0 ∷ [] = path-top ns s 0 b s.root in
      let inner : contexts_below (tree_at ns 0 ∷ []) [] (plain ns (below ns 0)) ≡ map (context_at ns) (numbers_below ns 0) =
      ap (λ z. contexts_below (map (tree_at ns) z) [] (plain ns (below ns 0))) (sym top) ∙ contexts_are (below ns 0) 0 [] (children_of ns 0) refl refl in
      let root : context_at ns 0 ≡ context_with (tree_at ns 0) [] [] = ap (λ z. context_with (tree_at ns 0) (map (tree_at ns) (earlier_in ns 0 z)) (map (tree_at ns) (ancestors_of ns 0))) s.root
      ∙ ap (λ z. context_with (tree_at ns 0) [] (map (tree_at ns) (drop 1 z))) top in
      ap (λ z. context_with (tree_at ns 0) [] [] ∷ z) inner ∙ ap (λ c. c ∷ map (context_at ns) (numbers_below ns 0)) (sym root)

pub nodes_in_order : NodesInOrder
nodes_in_order f i h = ap (map (context_at f.nodes)) (sym (numbers_in_order f i h)) ∙ sym (contexts_all f.nodes i.sound i.some)

-- the same of the tree that the text reads as
pub nodes_of_reading : (f : Forest) → IsForest f → (h : IsFresh f) → map (context_at f.nodes) (range_with_len 0 (length f.nodes)) ≡ contexts h.tree
nodes_of_reading f i h = nodes_in_order f i h ∙ ap contexts (fresh_tree f i h)
