-- The trees below a node, one child after another.
use Rattle.std.proofs.Common.{◌≡◌, ℕ, ◌<◌, List, length, Some, None, ap, ◌∙◌, slice_get}
use Rattle.node_rows.specs.Nodes.{Node, parent_of, children_of, siblings, next_sibling_of}
use Rattle.node_rows.specs.Sound.{IsSound}
use Rattle.node_rows.specs.NumberTrees.{no_trees, tree, number_trees, below}
use Rattle.node_rows.proofs.Behind.{first-some, first-none, sibling-some, sibling-none}
use Rattle.node_rows.proofs.Edits.{parent-inside}
use Rattle.node_rows.proofs.Levels.{number_trees-more, number_trees-none}

module _ (ns : List Node) (s : IsSound ns) where
  pub first-inside : (p c : ℕ) → slice_get (children_of ns p) 0 ≡ Some c → c < length ns
  first-inside p c g = parent-inside ns c p (first-some ns s p c g).0

  pub sibling-inside : (n p c : ℕ) → parent_of ns n ≡ Some p → next_sibling_of ns n ≡ Some c → c < length ns
  sibling-inside n p c e g = parent-inside ns c p (sibling-some ns s n p c e g).0

  pub below-some : (p c : ℕ) → slice_get (children_of ns p) 0 ≡ Some c → below ns p ≡ tree c (below ns c) (number_trees ns (siblings ns c))
  below-some p c g = ap (number_trees ns) (first-some ns s p c g).1 ∙ number_trees-more ns s c (siblings ns c) (first-inside p c g)

  pub below-none : (p : ℕ) → slice_get (children_of ns p) 0 ≡ None → below ns p ≡ no_trees
  below-none p g = ap (number_trees ns) (first-none ns s p g) ∙ number_trees-none ns

  pub behind-some : (n p c : ℕ) → parent_of ns n ≡ Some p → next_sibling_of ns n ≡ Some c → number_trees ns (siblings ns n) ≡ tree c (below ns c) (number_trees ns (siblings ns c))
  behind-some n p c e g = ap (number_trees ns) (sibling-some ns s n p c e g).1 ∙ number_trees-more ns s c (siblings ns c) (sibling-inside n p c e g)

  pub behind-none : (n : ℕ) → next_sibling_of ns n ≡ None → number_trees ns (siblings ns n) ≡ no_trees
  behind-none n g = ap (number_trees ns) (sibling-none ns s n g) ∙ number_trees-none ns
