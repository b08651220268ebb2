-- Texts and containers without anything in them.
use Rattle.std.proofs.Common.{◌≡◌, ℕ, List, [], ◌∷◌, Bool, true, false, length, eqb, Some, None, refl, sym, ap, ◌∙◌, slice_get}
use Rattle.std.specs.Prelude.{Option}
use Rattle.std.specs.Str.{IsUtf8, chars}
use Rattle.css_tree.specs.declared.node.NodeText.{NodeText}
use Rattle.css_tree.specs.declared.node.NodeText.TheVariants as N
use Rattle.css_tree.specs.Changes.{is_empty_text}
use Rattle.node_rows.specs.Nodes.{Node, children_of}
use Rattle.node_rows.specs.NumberTrees.{plain, below}
use Rattle.node_rows.specs.Sound.{IsSound}
use Rattle.node_rows.proofs.SameText.{empty_chars}
use Rattle.rule_sites.proofs.Children.{with_child, without_child}
use Rattle.rules_tree.specs.BlockNoEmpty.{is_empty}
use Rattle.rules_tree.specs.CommentNoEmpty.{is_empty_comment}

pub with_first : (ns : List Node) → IsSound ns → (n k : ℕ) → slice_get (children_of ns n) 0 ≡ Some k → false ≡ is_empty (plain ns (below ns n))
with_first ns s n k e = sym (ap is_empty (with_child ns s n k e))

pub without_first : (ns : List Node) → IsSound ns → (n : ℕ) → slice_get (children_of ns n) 0 ≡ None → true ≡ is_empty (plain ns (below ns n))
without_first ns s n e = sym (ap is_empty (without_child ns s n e))

comment_by : (before : Option (List ℕ)) (left text right : List ℕ) → is_empty_text text ≡ is_empty_comment (N.Comment before left text right)
comment_by before left [] right = refl
comment_by before left (c ∷ cs) right = refl

-- no byte of a comment's text
pub empty_comment : (t : NodeText) (before : Option (List ℕ)) (left text right s : List ℕ) → t ≡ N.Comment before left text right → IsUtf8 s → chars s ≡ text → eqb (length s) 0 ≡ is_empty_comment t
empty_comment t before left text right s e u h = empty_chars s u ∙ (ap is_empty_text h ∙ (comment_by before left text right ∙ sym (ap is_empty_comment e)))
