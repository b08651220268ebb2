-- The next node of a tree in document order, by first children, next siblings and parents.
use Rattle.std.proofs.Common.{◌≡◌, ◌≢◌, ℕ, ◌+◌, ◌<◌, List, [], ◌∷◌, ◌++◌, true, length, Option, Some, None, refl, ap, sym, ◌∙◌, arith, cond, slice_get, append_assoc, append-nil, eq-eqb, MatchOption}
use Rattle.std.proofs.lemmas.Bool.{ne_eqb}
use Rattle.node_rows.specs.Nodes.{Node, parent_of, children_of, path, holds, siblings, next_sibling_of}
use Rattle.node_rows.specs.Sound.{IsSound}
use Rattle.node_rows.specs.NumberTrees.{number_trees, numbers, numbers_below}
use Rattle.node_rows.specs.Marks.{with_mark, all_dirty}
use Rattle.node_rows.specs.Beyond.{beyond_on, beyond, behind, IsNext}
use Rattle.node_rows.proofs.Climb.{path-step}
use Rattle.node_rows.proofs.Edits.{parent-inside}
use Rattle.node_rows.proofs.Levels.{number_trees-more, number_trees-none}
use Rattle.node_rows.proofs.Behind.{first-some, first-none, sibling-some, sibling-none, below-top, held-below, held-above}

beyond_self : (ns : List Node) (top : ℕ) → top < length ns → beyond_on ns top (path ns top) ≡ []
beyond_self [] top b = absurd (omega arith)
beyond_self (x ∷ xs) top b = rw (eq-eqb top top refl) refl

module _ (ns : List Node) (s : IsSound ns) (top : ℕ) where
  pub beyond-top : top < length ns → beyond ns top top ≡ []
  unfolding beyond
  beyond-top b = beyond_self ns top b

  beyond_up : (m p : ℕ) → parent_of ns m ≡ Some p → m ≢ top → beyond ns top m ≡ numbers (number_trees ns (siblings ns m)) ++ beyond ns top p
  unfolding beyond
  beyond_up m p e d =
      ap (beyond_on ns top) (path-step ns s m p (parent-inside ns m p e) e)
      ∙ ap (λ t. cond t [] (numbers (number_trees ns (siblings ns m)) ++ beyond_on ns top (path ns p))) (ne_eqb m top d)

  -- a run of siblings that begins with c
  run : (c m : ℕ) → parent_of ns c ≡ Some m → c ≢ top → numbers (number_trees ns (c ∷ siblings ns c)) ++ beyond ns top m ≡ c ∷ behind ns top c
  unfolding behind
  run c m e d =
      let t = ap numbers (number_trees-more ns s c (siblings ns c) (parent-inside ns c m e)) in
      ap (λ l. l ++ beyond ns top m) t
      ∙ ap (λ l. c ∷ l) (append_assoc (numbers_below ns c) (numbers (number_trees ns (siblings ns c))) (beyond ns top m)
      ∙ ap (λ l. numbers_below ns c ++ l) (sym (beyond_up c m e d)))

  -- the siblings ms, of which c comes first, in p
  next_is : (p c : ℕ) (ms : List ℕ) → parent_of ns c ≡ Some p → ms ≡ c ∷ siblings ns c → holds ns top p ≡ true → (c < length ns) × (holds ns top c ≡ true) × (numbers (number_trees ns ms) ++ beyond ns top p ≡ c ∷ behind ns top c)
  next_is p c ms e g h =
      (parent-inside ns c p e, held-below ns s top c p e h, ap (λ l. numbers (number_trees ns l) ++ beyond ns top p) g ∙ run c p e (below-top ns s top c p e h))

  no_numbers : (ms : List ℕ) → ms ≡ [] → numbers (number_trees ns ms) ≡ []
  no_numbers ms g = ap (λ l. numbers (number_trees ns l)) g ∙ ap numbers (number_trees-none ns)

  pub behind-child : (m c : ℕ) → slice_get (children_of ns m) 0 ≡ Some c → holds ns top m ≡ true → IsNext ns top (behind ns top m) (Some c)
  unfolding behind
  behind-child m c g h = let f = first-some ns s m c g in next_is m c (children_of ns m) f.0 f.1 h

  pub behind-none : (m : ℕ) → slice_get (children_of ns m) 0 ≡ None → behind ns top m ≡ beyond ns top m
  unfolding behind
  behind-none m g = ap (λ l. l ++ beyond ns top m) (no_numbers (children_of ns m) (first-none ns s m g))

  pub beyond-sibling : (m p c : ℕ) → parent_of ns m ≡ Some p → m ≢ top → holds ns top m ≡ true → next_sibling_of ns m ≡ Some c → IsNext ns top (beyond ns top m) (Some c)
  beyond-sibling m p c e d h g =
      let f = sibling-some ns s m p c e g in
      let n = next_is p c (siblings ns m) f.0 f.1 (held-above ns s top m p e d h) in
      (n.0, n.1, beyond_up m p e d ∙ n.2)

  pub beyond-climb : (m p : ℕ) → parent_of ns m ≡ Some p → m ≢ top → next_sibling_of ns m ≡ None → beyond ns top m ≡ beyond ns top p
  beyond-climb m p e d g = beyond_up m p e d ∙ ap (λ l. l ++ beyond ns top p) (no_numbers (siblings ns m) (sibling-none ns s m g))

  -- in its own tree, what is behind the top is what is below it
  pub behind-self : top < length ns → behind ns top top ≡ numbers_below ns top
  unfolding behind
  behind-self b = ap (λ l. numbers_below ns top ++ l) (beyond-top b) ∙ append-nil (numbers_below ns top)

pub dirty_on : (ns ms all : List Node) (top m : ℕ) (o : Option ℕ) → all_dirty ms (m ∷ behind ns top m) ≡ all → IsNext ns top (behind ns top m) o → MatchOption o (with_mark ms m true ≡ all) (λ s. (s < length ns) × (holds ns top s ≡ true) × (all_dirty (with_mark ms m true) (s ∷ behind ns top s) ≡ all))
dirty_on ns ms all top m None e n = ap (λ l. all_dirty (with_mark ms m true) l) (sym n) ∙ e
dirty_on ns ms all top m (Some s) e n = (n.0, n.1, ap (λ l. all_dirty (with_mark ms m true) l) (sym n.2) ∙ e)

abbrev pub to_go : List Node → ℕ → Option ℕ → ℕ
to_go ns top o = elim o [ None ↦ 0 | Some m ↦ length (behind ns top m) + 1 ]

pub to_go_falls : (ns : List Node) (top m : ℕ) (o : Option ℕ) → IsNext ns top (behind ns top m) o → to_go ns top o < length (behind ns top m) + 1
to_go_falls ns top m None n = omega arith
to_go_falls ns top m (Some s) n = omega (arith, ap length n.2)
