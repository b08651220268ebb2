-- A node without a first child has nothing below it.
use Rattle.std.proofs.Common.{◌≡◌, ℕ, List, false, Some, None, refl, sym, ap, ◌∙◌, slice_get}
use Rattle.std.specs.Prelude.{Option}
use Rattle.css_tree.specs.declared.node.NodeText.{NodeText}
use Rattle.css_tree.specs.declared.node.NodeText.TheVariants as N
use Rattle.css_text.specs.declared.lexer.Span.{Span}
use Rattle.css_tree.specs.Tree.{Trees, none, node}
use Rattle.node_rows.specs.Nodes.{Node, children_of, siblings}
use Rattle.node_rows.specs.Sound.{IsSound}
use Rattle.node_rows.specs.NumberTrees.{plain, below, number_trees}
use Rattle.node_rows.proofs.Behind.{first-some, first-none}
use Rattle.node_rows.proofs.Edits.{parent-inside}
use Rattle.node_rows.proofs.Levels.{number_trees-more, number_trees-none}
use Rattle.css_job.specs.Warnings.{is_empty_block}

not_empty : (text t : NodeText) (s : Option Span) (k r : Trees) → is_empty_block text (node t s k r) ≡ false
not_empty (N.Root bom block) t s k r = refl
not_empty (N.AtRule before name after_name params between None) t s k r = refl
not_empty (N.AtRule before name after_name params between (Some block)) t s k r = refl
not_empty (N.Rule before selector between block) t s k r = refl
not_empty (N.Declaration before prop between value important important_raw tail) t s k r = refl
not_empty (N.Comment before left text right) t s k r = refl

pub with_child : (ns : List Node) (s : IsSound ns) (text : NodeText) (n c : ℕ) → slice_get (children_of ns n) 0 ≡ Some c → false ≡ is_empty_block text (plain ns (below ns n))
with_child ns s text n c g =
    let h = first-some ns s n c g in
    sym (ap (λ z. is_empty_block text (plain ns (number_trees ns z))) h.1 ∙ (ap (λ z. is_empty_block text (plain ns z)) (number_trees-more ns s c (siblings ns c) (parent-inside ns c n h.0)) ∙ not_empty text _ _ _ _))

pub without_child : (ns : List Node) (s : IsSound ns) (text : NodeText) (n : ℕ) → slice_get (children_of ns n) 0 ≡ None → is_empty_block text none ≡ is_empty_block text (plain ns (below ns n))
without_child ns s text n g = sym (ap (λ z. is_empty_block text (plain ns (number_trees ns z))) (first-none ns s n g) ∙ ap (λ z. is_empty_block text (plain ns z)) (number_trees-none ns))
