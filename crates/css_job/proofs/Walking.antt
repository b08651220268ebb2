-- The steps of the walk in document order.
use Rattle.std.proofs.Common.{◌≡◌, ℕ, ◌<◌, List, [], ◌∷◌, ◌++◌, length, Some, None, refl, sym, ap, ◌∙◌, append_assoc, append-nil, slice_get, arith}
use Rattle.std.specs.Prelude.{Option}
use Rattle.node_rows.specs.Nodes.{Node, parent_of, children_of, siblings, next_sibling_of, child_after, path}
use Rattle.node_rows.specs.Sound.{IsSound}
use Rattle.node_rows.specs.NumberTrees.{number_trees, below}
use Rattle.node_rows.proofs.Behind.{first-some, first-none, sibling-some, sibling-none}
use Rattle.node_rows.proofs.Climb.{path-step, path-top}
use Rattle.node_rows.proofs.Edits.{parent-inside}
use Rattle.node_rows.proofs.Levels.{number_trees-more, number_trees-none}
use Rattle.css_job.specs.Walk.{entries, later_on, later, onward, from}

module _ (ns : List Node) (s : IsSound ns) where
  some_entries : (m : ℕ) (ms : List ℕ) → m < length ns → entries (number_trees ns (m ∷ ms)) ≡ record { number = m; children = below ns m } ∷ (entries (below ns m) ++ entries (number_trees ns ms))
  unfolding entries
  some_entries m ms b = ap entries (number_trees-more ns s m ms b)

  none_entries : entries (number_trees ns []) ≡ []
  unfolding entries
  none_entries = ap entries (number_trees-none ns)

  -- a child comes before what follows its siblings and its parent
  child_first : (p c : ℕ) → parent_of ns c ≡ Some p → entries (number_trees ns (c ∷ siblings ns c)) ++ later ns p ≡ from ns (Some c)
  unfolding later onward
  child_first p c e =
      let b = parent-inside ns c p e in
      ap (λ z. z ++ later_on ns (path ns p)) (some_entries c (siblings ns c) b)
      ∙ (ap (λ z. record { number = c; children = below ns c } ∷ z) (append_assoc (entries (below ns c)) (entries (number_trees ns (siblings ns c))) (later_on ns (path ns p)) ∙ ap (λ z. entries (below ns c) ++ later_on ns z) (sym (path-step ns s c p b e))))

  pub to_child : (n c : ℕ) → slice_get (children_of ns n) 0 ≡ Some c → from ns (Some c) ≡ onward ns n
  unfolding later onward
  to_child n c g =
      let h = first-some ns s n c g in
      sym (ap (λ z. entries (number_trees ns z) ++ later ns n) h.1 ∙ child_first n c h.0)

  pub no_child : (n : ℕ) → slice_get (children_of ns n) 0 ≡ None → later ns n ≡ onward ns n
  unfolding onward
  no_child n g = sym (ap (λ z. entries (number_trees ns z) ++ later ns n) (first-none ns s n g) ∙ ap (λ z. z ++ later ns n) none_entries)

  later_step : (n p : ℕ) → parent_of ns n ≡ Some p → later ns n ≡ entries (number_trees ns (siblings ns n)) ++ later ns p
  unfolding later
  later_step n p e = ap (later_on ns) (path-step ns s n p (parent-inside ns n p e) e)

  no_parent : (n c : ℕ) → parent_of ns n ≡ None → next_sibling_of ns n ≡ Some c → ⊥
  no_parent n c e g = let i : child_after ns n None ≡ Some c = sym (ap (child_after ns n) e) ∙ g in cc

  sibling_by : (n c : ℕ) (o : Option ℕ) → parent_of ns n ≡ o → next_sibling_of ns n ≡ Some c → from ns (Some c) ≡ later ns n
  sibling_by n c None e g = absurd (no_parent n c e g)
  sibling_by n c (Some p) e g =
      let h = sibling-some ns s n p c e g in
      sym (later_step n p e ∙ (ap (λ z. entries (number_trees ns z) ++ later ns p) h.1 ∙ child_first p c h.0))

  pub to_sibling : (n c : ℕ) → next_sibling_of ns n ≡ Some c → from ns (Some c) ≡ later ns n
  to_sibling n c g = sibling_by n c (parent_of ns n) refl g

  pub to_parent : (n p : ℕ) → next_sibling_of ns n ≡ None → parent_of ns n ≡ Some p → later ns p ≡ later ns n
  to_parent n p g e = sym (later_step n p e ∙ (ap (λ z. entries (number_trees ns z) ++ later ns p) (sibling-none ns s n g) ∙ ap (λ z. z ++ later ns p) none_entries))

  pub at_top : (n : ℕ) → n < length ns → next_sibling_of ns n ≡ None → parent_of ns n ≡ None → [] ≡ later ns n
  unfolding later
  at_top n b g e = sym (ap (later_on ns) (path-top ns s n b e) ∙ (append-nil (entries (number_trees ns (siblings ns n))) ∙ (ap (λ z. entries (number_trees ns z)) (sibling-none ns s n g) ∙ none_entries)))

  pub shorter : (n p : ℕ) → parent_of ns n ≡ Some p → length (path ns p) < length (path ns n)
  shorter n p e = omega (arith, ap length (path-step ns s n p (parent-inside ns n p e) e))
