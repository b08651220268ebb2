-- What stands below a node, by its first child.
use Rattle.std.proofs.Common.{◌≡◌, ℕ, List, Some, None, ap, ◌∙◌, slice_get}
use Rattle.css_tree.specs.Tree.{none, node}
use Rattle.node_rows.specs.Nodes.{Node, text_of, span_of, children_of, siblings}
use Rattle.node_rows.specs.Sound.{IsSound}
use Rattle.node_rows.specs.NumberTrees.{plain, below, number_trees}
use Rattle.node_rows.proofs.Behind.{first-some, first-none}
use Rattle.node_rows.proofs.Edits.{parent-inside}
use Rattle.node_rows.proofs.Levels.{number_trees-more, number_trees-none}

module _ (ns : List Node) (s : IsSound ns) where
  -- the first child, and those after it
  pub with_child : (n c : ℕ) → slice_get (children_of ns n) 0 ≡ Some c → plain ns (below ns n) ≡ node (text_of ns c) (span_of ns c) (plain ns (below ns c)) (plain ns (number_trees ns (siblings ns c)))
  with_child n c g =
      let h = first-some ns s n c g in
      ap (λ z. plain ns (number_trees ns z)) h.1 ∙ ap (plain ns) (number_trees-more ns s c (siblings ns c) (parent-inside ns c n h.0))

  pub without_child : (n : ℕ) → slice_get (children_of ns n) 0 ≡ None → plain ns (below ns n) ≡ none
  without_child n g = ap (λ z. plain ns (number_trees ns z)) (first-none ns s n g) ∙ ap (plain ns) (number_trees-none ns)
