-- The trees of a node's ancestors, from its parent up.
use Rattle.std.proofs.Common.{◌≡◌, ℕ, ◌+◌, ◌<◌, List, [], ◌∷◌, Bool, true, false, length, map, Some, None, refl, sym, ap, ◌∙◌, cond, arith}
use Rattle.std.specs.Prelude.{◌||◌, if◌then◌else◌}
use Rattle.std.specs.List.{list_any}
use Rattle.css_tree.specs.Tree.{Tree}
use Rattle.node_rows.specs.Nodes.{Node, text_of, parent_of}
use Rattle.node_rows.specs.NumberTrees.{tree_at}
use Rattle.node_rows.specs.Sound.{IsSound}
use Rattle.rule_sites.specs.Blocks.{is_root}
use Rattle.rule_sites.specs.ContextAt.{ancestors_of}
use Rattle.rule_sites.specs.Keyframes.{is_keyframes}
use Rattle.rule_sites.proofs.Ancestors.{ancestors_more, ancestors_none}
use Rattle.rules_tree.specs.AtRoot.{is_root_alone}
use Rattle.rules_tree.specs.MaxNestingDepth.{counts, enclosing}

module _ (ns : List Node) (s : IsSound ns) where
  abbrev pub above : ℕ → List Tree
  above n = map (tree_at ns) (ancestors_of ns n)

  pub above_more : (n p : ℕ) → parent_of ns n ≡ Some p → above n ≡ tree_at ns p ∷ above p
  above_more n p e = ap (map (tree_at ns)) (ancestors_more ns s n p e)

  pub above_none : (n : ℕ) → n < length ns → parent_of ns n ≡ None → above n ≡ []
  above_none n b e = ap (map (tree_at ns)) (ancestors_none ns s n b e)

  pub deeper : (n p q : ℕ) → parent_of ns n ≡ Some p → parent_of ns p ≡ Some q → false ≡ is_root_alone (above n)
  deeper n p q e h = sym (ap is_root_alone (above_more n p e ∙ ap (λ z. tree_at ns p ∷ z) (above_more p q h)))

  pub at_top : (n p : ℕ) → parent_of ns n ≡ Some p → parent_of ns p ≡ None → is_root (text_of ns p) ≡ is_root_alone (above n)
  at_top n p e h = sym (ap is_root_alone (above_more n p e ∙ ap (λ z. tree_at ns p ∷ z) (above_none p (s.below n p e) h)))

  pub level : (n p : ℕ) (b : Bool) → parent_of ns n ≡ Some p → counts (tree_at ns p) (above p) ≡ b → enclosing (above n) ≡ (if b then 1 else 0) + enclosing (above p)
  level n p b e h = ap enclosing (above_more n p e) ∙ ap (λ z. (if z then 1 else 0) + enclosing (above p)) h

  pub keyframes_above : (n p : ℕ) (b : Bool) → parent_of ns n ≡ Some p → is_keyframes (text_of ns p) ≡ b → list_any (λ (t : Tree). is_keyframes t.text) (above n) ≡ (b || list_any (λ (t : Tree). is_keyframes t.text) (above p))
  keyframes_above n p b e h = ap (list_any (λ (t : Tree). is_keyframes t.text)) (above_more n p e) ∙ ap (λ z. z || list_any (λ (t : Tree). is_keyframes t.text) (above p)) h
