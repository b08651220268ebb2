-- Nodes with the same parents and children have the same paths, trees and numbers.
use Rattle.std.proofs.Common.{◌≡◌, ℕ, zero, suc, ◌+◌, List, [], ◌∷◌, ◌++◌, Bool, length, Option, Some, None, refl, ap, sym, ◌∙◌, eqb, cond, drop, length-set}
use Rattle.std.specs.List.{list_any, position_or_len}
use Rattle.css_text.specs.declared.lexer.Span.{Span}
use Rattle.css_tree.specs.declared.node.NodeText.{NodeText}
use Rattle.node_rows.specs.Nodes.{Node, parent_of, children_of, text_of, span_of, place_of, up, path, holds, siblings, siblings_in, with_text}
use Rattle.node_rows.specs.Sound.{IsSound}
use Rattle.node_rows.specs.NumberTrees.{NumberTrees, no_trees, tree, trees_by, levels, number_trees, numbers, numbers_below, plain}
use Rattle.node_rows.specs.Marks.{with_mark}
use Rattle.node_rows.specs.Ends.{with_span}
use Rattle.node_rows.specs.Beyond.{beyond_on, beyond, behind, IsNext}
use Rattle.node_rows.proofs.Climb.{rooted}
use Rattle.node_rows.proofs.Edits.{IsSound-from_rooted, Rooted-same}
use Rattle.node_rows.proofs.Fields.{field_kept}

-- only texts, spans and marks differ
pub record SameLinks (ns ms : List Node) : Type 0 where
  pub same_length : length ms ≡ length ns
  pub parents : (n : ℕ) → parent_of ms n ≡ parent_of ns n
  pub lists : (n : ℕ) → children_of ms n ≡ children_of ns n

-- only marks differ
pub record SameTexts (ns ms : List Node) : Type 0 where
  pub texts : (n : ℕ) → text_of ms n ≡ text_of ns n
  pub spans : (n : ℕ) → span_of ms n ≡ span_of ns n

pub SameLinks-self : (ns : List Node) → SameLinks ns ns
SameLinks-self ns = record { same_length = refl; parents = λ n. refl; lists = λ n. refl }

pub SameTexts-self : (ns : List Node) → SameTexts ns ns
SameTexts-self ns = record { texts = λ n. refl; spans = λ n. refl }

pub SameLinks-marked : (ns ms : List Node) (m : ℕ) (d : Bool) → SameLinks ns ms → SameLinks ns (with_mark ms m d)
SameLinks-marked ns ms m d h = record {
  same_length = length-set _ _ _ ∙ h.same_length;
  parents = λ k. field_kept (λ x. x.parent) ms m _ refl k ∙ h.parents k;
  lists = λ k. field_kept (λ x. x.children) ms m _ refl k ∙ h.lists k;
}

pub SameTexts-marked : (ns ms : List Node) (m : ℕ) (d : Bool) → SameTexts ns ms → SameTexts ns (with_mark ms m d)
SameTexts-marked ns ms m d h = record {
  texts = λ k. field_kept (λ x. x.text) ms m _ refl k ∙ h.texts k;
  spans = λ k. field_kept (λ x. x.span) ms m _ refl k ∙ h.spans k;
}

pub SameLinks-text : (ns : List Node) (n : ℕ) (t : NodeText) → SameLinks ns (with_text ns n t)
SameLinks-text ns n t = record {
  same_length = length-set _ _ _;
  parents = field_kept (λ x. x.parent) ns n _ refl;
  lists = field_kept (λ x. x.children) ns n _ refl;
}

pub SameLinks-span : (ns : List Node) (n : ℕ) (o : Option Span) → SameLinks ns (with_span ns n o)
SameLinks-span ns n o = record {
  same_length = length-set _ _ _;
  parents = field_kept (λ x. x.parent) ns n _ refl;
  lists = field_kept (λ x. x.children) ns n _ refl;
}

pub IsSound-same : (ns ms : List Node) → SameLinks ns ms → IsSound ns → IsSound ms
IsSound-same ns ms h s =
    IsSound-from_rooted ms (rw h.same_length s.few) (h.parents 0 ∙ s.root)
    (λ n p e. rw h.same_length (s.below n p (sym (h.parents n) ∙ e)))
    (λ n p. rw (h.lists p, h.parents n) (s.listed n p))
    (λ n b. Rooted-same ns ms h.parents (rooted ns s n (rw (← h.same_length) b)))

up_each : (ns ms : List Node) (k : ℕ) → ((n : ℕ) → up ms k n ≡ up ns k n) → (o : Option ℕ) → (elim o as (λ _. List ℕ) [ None ↦ [] | Some p ↦ up ms k p ]) ≡ (elim o as (λ _. List ℕ) [ None ↦ [] | Some p ↦ up ns k p ])
up_each ns ms k f None = refl
up_each ns ms k f (Some p) = f p

up-same : (ns ms : List Node) → ((n : ℕ) → parent_of ms n ≡ parent_of ns n) → (k n : ℕ) → up ms k n ≡ up ns k n
up-same ns ms h zero n = refl
up-same ns ms h (suc k) n = ap (λ l. n ∷ l) (rw (h n) (up_each ns ms k (up-same ns ms h k) (parent_of ns n)))

trees_by-all : (f g : ℕ → NumberTrees) → ((m : ℕ) → g m ≡ f m) → (is : List ℕ) → trees_by g is ≡ trees_by f is
trees_by-all f g h [] = refl
trees_by-all f g h (i ∷ is) = let a = h i in let b = trees_by-all f g h is in cc

levels-links : (ns ms : List Node) → ((n : ℕ) → children_of ms n ≡ children_of ns n) → (k : ℕ) (is : List ℕ) → levels ms k is ≡ levels ns k is
unfolding levels
levels-links ns ms h zero is = refl
levels-links ns ms h (suc k) is =
    trees_by-all (λ m. levels ns k (children_of ns m)) (λ m. levels ms k (children_of ms m))
    (λ m. ap (levels ms k) (h m) ∙ levels-links ns ms h k (children_of ns m)) is

-- the same trees, where each number keeps its text and span
pub plain-same : (ns ms : List Node) → SameTexts ns ms → (t : NumberTrees) → plain ms t ≡ plain ns t
plain-same ns ms h no_trees = refl
plain-same ns ms h (tree m children rest) =
    let a = h.texts m in let b = h.spans m in
    let c = plain-same ns ms h children in let d = plain-same ns ms h rest in cc

module _ (ns ms : List Node) (h : SameLinks ns ms) where
  pub path-same : (n : ℕ) → path ms n ≡ path ns n
  path-same n = ap (λ k. up ms k n) h.same_length ∙ up-same ns ms h.parents (length ns) n

  pub holds-same : (a n : ℕ) → holds ms a n ≡ holds ns a n
  holds-same a n = ap (list_any (eqb a)) (path-same n)

  pub place-same : (p n : ℕ) → place_of ms p n ≡ place_of ns p n
  place-same p n = ap (position_or_len (eqb n)) (h.lists p)

  siblings_each : (m : ℕ) (o : Option ℕ) → siblings_in ms m o ≡ siblings_in ns m o
  siblings_each m None = refl
  siblings_each m (Some p) = ap (λ l. drop (position_or_len (eqb m) l + 1) l) (h.lists p)

  pub siblings-same : (m : ℕ) → siblings ms m ≡ siblings ns m
  siblings-same m = ap (siblings_in ms m) (h.parents m) ∙ siblings_each m (parent_of ns m)

  pub number_trees-same : (is : List ℕ) → number_trees ms is ≡ number_trees ns is
  unfolding number_trees
  number_trees-same is = ap (λ k. levels ms k is) h.same_length ∙ levels-links ns ms h.lists (length ns) is

  pub numbers_below-same : (n : ℕ) → numbers_below ms n ≡ numbers_below ns n
  numbers_below-same n = ap (λ l. numbers (number_trees ms l)) (h.lists n) ∙ ap numbers (number_trees-same (children_of ns n))

  beyond_on-same : (top : ℕ) (l : List ℕ) → beyond_on ms top l ≡ beyond_on ns top l
  beyond_on-same top [] = refl
  beyond_on-same top (m ∷ l) =
      let b : number_trees ms (siblings ms m) ≡ number_trees ns (siblings ns m) = ap (number_trees ms) (siblings-same m) ∙ number_trees-same (siblings ns m) in
      ap (λ x. cond (eqb m top) [] (numbers x ++ beyond_on ms top l)) b
      ∙ ap (λ x. cond (eqb m top) [] (numbers (number_trees ns (siblings ns m)) ++ x)) (beyond_on-same top l)

  pub behind-same : (top m : ℕ) → behind ms top m ≡ behind ns top m
  unfolding behind beyond
  behind-same top m =
      let b : beyond_on ms top (path ms m) ≡ beyond_on ns top (path ns m) = ap (beyond_on ms top) (path-same m) ∙ beyond_on-same top (path ns m) in
      ap (λ x. x ++ beyond_on ms top (path ms m)) (numbers_below-same m) ∙ ap (λ x. numbers_below ns m ++ x) b

  pub IsNext-same : (top m : ℕ) (o : Option ℕ) → IsNext ms top (behind ms top m) o → IsNext ns top (behind ns top m) o
  IsNext-same top m None n = sym (behind-same top m) ∙ n
  IsNext-same top m (Some s) n =
      (rw (← h.same_length) n.0, sym (holds-same top s) ∙ n.1, sym (behind-same top m) ∙ (n.2 ∙ ap (λ l. s ∷ l) (behind-same top s)))
