-- The steps of the printing, from node to node.
use Rattle.std.proofs.Common.{◌≡◌, ◌≢◌, ℕ, zero, suc, ◌+◌, ◌*◌, ◌<◌, List, [], ◌∷◌, ◌++◌, Bool, true, false, length, Some, None, refl, ap, sym, ◌∙◌, arith, cond, eq-eqb, slice_get}
use Rattle.std.specs.Prelude.{nat_eq}
use Rattle.std.proofs.lemmas.Bool.{ne_eqb, lt-ltb}
use Rattle.css_tree.specs.declared.node.Kind.TheVariants as K
use Rattle.css_tree.specs.declared.node.NodeText.{NodeText}
use Rattle.css_tree.specs.declared.node.NodeText.TheVariants.{Root, AtRule, Rule, Declaration, Comment}
use Rattle.css_tree.specs.Parts.{kind_of}
use Rattle.css_tree.specs.Print.{container_of, depth_below, closing, semicolon_after, opening}
use Rattle.node_rows.specs.Nodes.{Node, text_of, parent_of, children_of, depth_of, path, holds, siblings, next_sibling_of}
use Rattle.node_rows.specs.NumberTrees.{tree, number_trees, plain, below}
use Rattle.node_store.specs.Forest.{Forest, IsForest}
use Rattle.node_rows.proofs.Behind.{depth-step, depth-top, depth-few, below-top, held-below, held-above, first-some, sibling-some}
use Rattle.node_rows.proofs.Climb.{path-step}
use Rattle.node_rows.proofs.Edits.{parent-inside}
use Rattle.stringify.specs.declared.steps.Step.{Step}
use Rattle.stringify.specs.Sheet.{Sheet, put, begin, container_at, begun, printed, semicolon_in, semicolon_of, ended, behind_in, beyond_on, beyond, onward, with_body, size, to_go_on}
use Rattle.stringify.specs.Follows.{remaining, to_go, IsStep, Follows}
use Rattle.stringify.proofs.Children.{first-inside, sibling-inside, below-some, below-none, behind-some, behind-none}

depth_root : (t : NodeText) (d : ℕ) → kind_of t ≡ K.Root → depth_below d t ≡ 0
depth_root (Root bom block) d h = refl
depth_root (AtRule before name after_name params between block) d h = absurd cc
depth_root (Rule before selector between block) d h = absurd cc
depth_root (Declaration before prop between value important important_raw tail) d h = absurd cc
depth_root (Comment before left text right) d h = absurd cc

depth_other : (t : NodeText) (d : ℕ) → kind_of t ≢ K.Root → depth_below d t ≡ d + 1
depth_other (Root bom block) d h = absurd (h refl)
depth_other (AtRule before name after_name params between block) d h = refl
depth_other (Rule before selector between block) d h = refl
depth_other (Declaration before prop between value important important_raw tail) d h = refl
depth_other (Comment before left text right) d h = refl

top_self : (ns : List Node) (top : ℕ) (y : Sheet) → top < length ns → beyond_on ns top (path ns top) y ≡ y
top_self [] top y b = absurd (omega arith)
top_self (x ∷ xs) top y b = rw (eq-eqb top top refl) refl

top_done : (ns : List Node) (top : ℕ) → top < length ns → to_go_on ns top (path ns top) ≡ 0
top_done [] top b = absurd (omega arith)
top_done (x ∷ xs) top b = rw (eq-eqb top top refl) refl

module _ (f : Forest) (w : IsForest f) where
  abbrev pub nodes : List Node
  nodes = f.nodes

  pub depth-small : (n : ℕ) → depth_of nodes n < 4294967295
  depth-small n = omega (arith, depth-few nodes w.sound n, w.sound.few)

  pub depth-rise : (c m : ℕ) → parent_of nodes c ≡ Some m → 0 < m → depth_of nodes c ≡ depth_of nodes m + 1
  depth-rise c m e z = depth-step nodes w.sound c m e ∙ ap (λ t. depth_of nodes m + cond t 1 0) (lt-ltb 0 m z)

  pub root_depth : depth_of nodes 0 ≡ 0
  root_depth = depth-top nodes w.sound 0 w.some w.sound.root

  -- the depth of children is what their container says
  pub container-depth : (c m : ℕ) → parent_of nodes c ≡ Some m → depth_of nodes c ≡ (container_at nodes m).depth
  container-depth c zero e =
      depth-step nodes w.sound c 0 e ∙ (ap (λ d. d + 0) root_depth ∙ sym (depth_root (text_of nodes 0) (depth_of nodes 0) w.root))
  container-depth c (suc m) e =
      let b : suc m < length nodes = w.sound.below c (suc m) e in
      depth-step nodes w.sound c (suc m) e
      ∙ (ap (λ t. depth_of nodes (suc m) + cond t 1 0) (lt-ltb 0 (suc m) (omega arith))
      ∙ sym (depth_other (text_of nodes (suc m)) (depth_of nodes (suc m)) (w.others (suc m) (omega arith) b)))

  pub beyond-top : (top : ℕ) (y : Sheet) → top < length nodes → beyond nodes top top y ≡ y
  unfolding beyond
  beyond-top top y b = top_self nodes top y b

  module _ (top : ℕ) where
    pub beyond-up : (n m : ℕ) (y : Sheet) → parent_of nodes n ≡ Some m → n ≢ top → beyond nodes top n y ≡ beyond nodes top m (ended nodes top m (printed nodes (container_at nodes m) false (number_trees nodes (siblings nodes n)) y))
    unfolding beyond
    beyond-up n m y e d =
        ap (λ l. beyond_on nodes top l y) (path-step nodes w.sound n m (parent-inside nodes n m e) e)
        ∙ (ap (λ t. cond t y (beyond_on nodes top (path nodes m) (behind_in nodes top n (parent_of nodes n) y))) (ne_eqb n top d)
        ∙ ap (λ o. beyond_on nodes top (path nodes m) (behind_in nodes top n o y)) e)

    semicolon_is : (c m : ℕ) → c ≢ top → parent_of nodes c ≡ Some m → semicolon_of nodes top c ≡ semicolon_after (container_at nodes m) (text_of nodes c) (plain nodes (number_trees nodes (siblings nodes c)))
    semicolon_is c m d e = ap (λ t. cond t [] (semicolon_in nodes c (parent_of nodes c))) (ne_eqb c top d) ∙ ap (semicolon_in nodes c) e

    ended_child : (c m : ℕ) (z : Sheet) → c ≢ top → parent_of nodes c ≡ Some m → ended nodes top c z ≡ put (closing (container_at nodes m).depth (text_of nodes c) (plain nodes (below nodes c)) ++ semicolon_after (container_at nodes m) (text_of nodes c) (plain nodes (number_trees nodes (siblings nodes c)))) z
    ended_child c m z d e =
        ap (λ l. put (closing (depth_of nodes c) (text_of nodes c) (plain nodes (below nodes c)) ++ l) z) (semicolon_is c m d e)
        ∙ ap (λ k. put (closing k (text_of nodes c) (plain nodes (below nodes c)) ++ semicolon_after (container_at nodes m) (text_of nodes c) (plain nodes (number_trees nodes (siblings nodes c)))) z) (container-depth c m e)

    -- what follows the beginning of a child is what follows in its container
    child_onward : (c m : ℕ) (b : Bool) (x : Sheet) → c ≢ top → parent_of nodes c ≡ Some m → onward nodes top c (begun nodes (container_at nodes m) b c x) ≡ beyond nodes top m (ended nodes top m (printed nodes (container_at nodes m) b (tree c (below nodes c) (number_trees nodes (siblings nodes c))) x))
    unfolding onward printed
    child_onward c m b x d e =
        let start : Sheet = begun nodes (container_at nodes m) b c x in
        let inner : Sheet = printed nodes (container_at nodes c) true (below nodes c) start in
        let rest : Sheet → Sheet = λ y. beyond nodes top m (ended nodes top m (printed nodes (container_at nodes m) false (number_trees nodes (siblings nodes c)) y)) in
        let close : Sheet → Sheet = put (closing (container_at nodes m).depth (text_of nodes c) (plain nodes (below nodes c)) ++ semicolon_after (container_at nodes m) (text_of nodes c) (plain nodes (number_trees nodes (siblings nodes c)))) in
        beyond-up c m (ended nodes top c inner) e d
        ∙ ap rest (ended_child c m inner d e ∙ ap close (ap (λ k. printed nodes (container_of k (text_of nodes c) (plain nodes (below nodes c))) true (below nodes c) start) (container-depth c m e)))

    pub descend_some : (m c : ℕ) (x : Sheet) → slice_get (children_of nodes m) 0 ≡ Some c → holds nodes top m ≡ true → onward nodes top c (begun nodes (container_at nodes m) true c x) ≡ onward nodes top m x
    unfolding onward
    descend_some m c x g h =
        let e = (first-some nodes w.sound m c g).0 in
        child_onward c m true x (below-top nodes w.sound top c m e h) e
        ∙ ap (λ t. beyond nodes top m (ended nodes top m (printed nodes (container_at nodes m) true t x))) (sym (below-some nodes w.sound m c g))

    pub descend_none : (m : ℕ) (x : Sheet) → slice_get (children_of nodes m) 0 ≡ None → beyond nodes top m (ended nodes top m x) ≡ onward nodes top m x
    unfolding onward printed
    descend_none m x g = ap (λ t. beyond nodes top m (ended nodes top m (printed nodes (container_at nodes m) true t x))) (sym (below-none nodes w.sound m g))

    pub ascend_some : (n m c : ℕ) (x : Sheet) → parent_of nodes n ≡ Some m → n ≢ top → holds nodes top n ≡ true → next_sibling_of nodes n ≡ Some c → onward nodes top c (begun nodes (container_at nodes m) false c x) ≡ beyond nodes top n x
    ascend_some n m c x e d h g =
        let i = (sibling-some nodes w.sound n m c e g).0 in
        child_onward c m false x (below-top nodes w.sound top c m i (held-above nodes w.sound top n m e d h)) i
        ∙ (ap (λ t. beyond nodes top m (ended nodes top m (printed nodes (container_at nodes m) false t x))) (sym (behind-some nodes w.sound n m c e g))
        ∙ sym (beyond-up n m x e d))

    pub ascend_none : (n m : ℕ) (x : Sheet) → parent_of nodes n ≡ Some m → n ≢ top → next_sibling_of nodes n ≡ None → beyond nodes top m (ended nodes top m x) ≡ beyond nodes top n x
    unfolding printed
    ascend_none n m x e d g =
        ap (λ t. beyond nodes top m (ended nodes top m (printed nodes (container_at nodes m) false t x))) (sym (behind-none nodes w.sound n g)) ∙ sym (beyond-up n m x e d)

    to_go_up : (n m : ℕ) → parent_of nodes n ≡ Some m → n ≢ top → to_go_on nodes top (path nodes n) ≡ 2 * size (number_trees nodes (siblings nodes n)) + 1 + to_go_on nodes top (path nodes m)
    to_go_up n m e d =
        ap (to_go_on nodes top) (path-step nodes w.sound n m (parent-inside nodes n m e) e)
        ∙ ap (λ t. cond t 0 (2 * size (number_trees nodes (siblings nodes n)) + 1 + to_go_on nodes top (path nodes m))) (ne_eqb n top d)

    abbrev pub begun_step : ℕ → ℕ → Step
    begun_step n d = record { node = n; depth = d; is_begun = true }

    abbrev pub ended_step : ℕ → ℕ → Step
    ended_step n d = record { node = n; depth = d; is_begun = false }

    module _ (s : Step) (i : IsStep nodes top s) where
      remains_begun : (x : Sheet) → s.is_begun ≡ true → onward nodes top s.node x ≡ remaining nodes top s x
      remains_begun x e = ap (λ t. cond t (onward nodes top s.node x) (beyond nodes top s.node x)) (sym e)

      remains_ended : (x : Sheet) → s.is_begun ≡ false → beyond nodes top s.node x ≡ remaining nodes top s x
      remains_ended x e = ap (λ t. cond t (onward nodes top s.node x) (beyond nodes top s.node x)) (sym e)

      go_begun : s.is_begun ≡ true → to_go nodes top s ≡ 2 * size (below nodes s.node) + 1 + to_go_on nodes top (path nodes s.node)
      go_begun e = ap (λ t. cond t (2 * size (below nodes s.node) + 1 + to_go_on nodes top (path nodes s.node)) (to_go_on nodes top (path nodes s.node))) e

      go_ended : s.is_begun ≡ false → to_go nodes top s ≡ to_go_on nodes top (path nodes s.node)
      go_ended e = ap (λ t. cond t (2 * size (below nodes s.node) + 1 + to_go_on nodes top (path nodes s.node)) (to_go_on nodes top (path nodes s.node))) e

      pub follows-child : (c d : ℕ) (x y : Sheet) → s.is_begun ≡ true → slice_get (children_of nodes s.node) 0 ≡ Some c → d ≡ (container_at nodes s.node).depth → y ≡ begun nodes (container_at nodes s.node) true c x → Follows nodes top s x (Some (begun_step c d)) y
      follows-child c d x y b g k e =
          let p = (first-some nodes w.sound s.node c g).0 in
          let off = below-top nodes w.sound top c s.node p i.held in (
            record { given = first-inside nodes w.sound s.node c g; held = held-below nodes w.sound top c s.node p i.held; depth = k ∙ sym (container-depth c s.node p) },
            ap (onward nodes top c) e ∙ (descend_some s.node c x g i.held ∙ remains_begun x b),
            omega (arith, go_begun b, to_go_up c s.node p off, ap size (below-some nodes w.sound s.node c g)),
          )

      pub follows-empty : (d : ℕ) (x y : Sheet) → s.is_begun ≡ true → slice_get (children_of nodes s.node) 0 ≡ None → d ≡ s.depth → y ≡ ended nodes top s.node x → Follows nodes top s x (Some (ended_step s.node d)) y
      follows-empty d x y b g k e = (
        record { given = i.given; held = i.held; depth = k ∙ i.depth },
        ap (beyond nodes top s.node) e ∙ (descend_none s.node x g ∙ remains_begun x b),
        omega (arith, go_begun b),
      )

      pub follows-sibling : (m c : ℕ) (x y : Sheet) → s.is_begun ≡ false → s.node ≢ top → parent_of nodes s.node ≡ Some m → next_sibling_of nodes s.node ≡ Some c → y ≡ begun nodes (container_at nodes m) false c x → Follows nodes top s x (Some (begun_step c s.depth)) y
      follows-sibling m c x y b off e g h =
          let p = (sibling-some nodes w.sound s.node m c e g).0 in
          let up = held-above nodes w.sound top s.node m e off i.held in
          let d = below-top nodes w.sound top c m p up in (
            record { given = sibling-inside nodes w.sound s.node m c e g; held = held-below nodes w.sound top c m p up; depth = i.depth ∙ (container-depth s.node m e ∙ sym (container-depth c m p)) },
            ap (onward nodes top c) h ∙ (ascend_some s.node m c x e off i.held g ∙ remains_ended x b),
            omega (arith, go_ended b, to_go_up c m p d, to_go_up s.node m e off, ap size (behind-some nodes w.sound s.node m c e g)),
          )

      pub follows-parent : (m d : ℕ) (x y : Sheet) → s.is_begun ≡ false → s.node ≢ top → parent_of nodes s.node ≡ Some m → next_sibling_of nodes s.node ≡ None → d ≡ depth_of nodes m → y ≡ ended nodes top m x → Follows nodes top s x (Some (ended_step m d)) y
      follows-parent m d x y b off e g k h =
          let up = held-above nodes w.sound top s.node m e off i.held in (
            record { given = w.sound.below s.node m e; held = up; depth = k },
            ap (beyond nodes top m) h ∙ (ascend_none s.node m x e off g ∙ remains_ended x b),
            omega (arith, go_ended b, to_go_up s.node m e off),
          )

      pub follows-end : (x : Sheet) → s.is_begun ≡ false → s.node ≡ top → top < length nodes → Follows nodes top s x None x
      follows-end x b e k = sym (sym (remains_ended x b) ∙ (ap (λ n. beyond nodes top n x) e ∙ beyond-top top x k))

    pub with_body-onward : (x : Sheet) → top < length nodes → onward nodes top top (put (opening (text_of nodes top)) (cond (nat_eq top 0) x (begin top x))) ≡ with_body nodes top x
    unfolding onward with_body
    with_body-onward x b = beyond-top top _ b
