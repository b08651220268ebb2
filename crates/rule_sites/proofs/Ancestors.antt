-- The ancestors of a node are its parent and the ancestors of that.
use Rattle.std.proofs.Common.{◌≡◌, ℕ, ◌<◌, List, [], ◌∷◌, length, Some, None, refl, ap, ◌∙◌, arith, drop}
use Rattle.node_rows.specs.Nodes.{Node, parent_of, path}
use Rattle.node_rows.specs.Sound.{IsSound}
use Rattle.node_rows.proofs.Climb.{path-step, path-top}
use Rattle.node_rows.proofs.Edits.{parent-inside}
use Rattle.rule_sites.specs.ContextAt.{ancestors_of}

path_first : (ns : List Node) (n : ℕ) → n < length ns → path ns n ≡ n ∷ ancestors_of ns n
path_first [] n b = absurd (omega arith)
path_first (x ∷ xs) n b = refl

pub ancestors_more : (ns : List Node) → IsSound ns → (n p : ℕ) → parent_of ns n ≡ Some p → ancestors_of ns n ≡ p ∷ ancestors_of ns p
ancestors_more ns s n p e = ap (drop 1) (path-step ns s n p (parent-inside ns n p e) e) ∙ path_first ns p (s.below n p e)

pub ancestors_none : (ns : List Node) → IsSound ns → (n : ℕ) → n < length ns → parent_of ns n ≡ None → ancestors_of ns n ≡ []
ancestors_none ns s n b e = ap (drop 1) (path-top ns s n b e)
