-- From which number on a barrier stands before a node.
use Rattle.std.proofs.Common.{◌≡◌, ℕ, zero, suc, ◌+◌, ◌-◌, ◌<◌, ◌≤◌, List, [], ◌∷◌, ◌++◌, Bool, true, false, length, map, filter, Some, None, refl, ap, sym, ◌∙◌, subst, arith, inl, inr, ◌⊎◌}
use Rattle.std.specs.Prelude.{Option, ◌&&◌, ◌||◌, not, nat_lt}
use Rattle.std.specs.List.{list_any, range_with_len}
use Rattle.std.proofs.lemmas.Bool.{cases_lt, false≢true}
use Rattle.std.proofs.lemmas.Bool.Decides.{nat_tests}
use Rattle.css_tree.specs.Tree.{Tree}
use Rattle.css_tree.specs.declared.node.Kind.TheVariants as K
use Rattle.css_tree.specs.declared.node.NodeText.{NodeText}
use Rattle.css_tree.specs.declared.node.NodeText.TheVariants as N
use Rattle.css_tree.specs.Parts.{kind_of}
use Rattle.node_rows.specs.Nodes.{Node, text_of, parent_of}
use Rattle.node_rows.specs.NumberTrees.{tree_at}
use Rattle.node_store.specs.Forest.{Forest, IsForest}
use Rattle.node_store.specs.Fresh.{IsFresh}
use Rattle.rule_sites.specs.Blocks.{is_root}
use Rattle.rule_sites.specs.ContextAt.{ancestors_of, earlier_of}
use Rattle.rule_sites.specs.Laws.{stands_in}
use Rattle.rule_sites.proofs.Earlier.{earlier_are_smaller}
use Rattle.rule_sites.proofs.Numbers.{range-append}
use Rattle.rules_tree.specs.AtRoot.{is_root_alone}
use Rattle.rules_tree.specs.Late.{is_barrier, IsFirstBarrier}
use Rattle.rules_tree.specs.NoInvalidPositionAtImportRule.{may_precede}
use Rattle.rules_tree.proofs.Above.{above, above_none, deeper, at_top}

or_assoc : (a b c : Bool) → (a || (b || c)) ≡ ((a || b) || c)
or_assoc true b c = refl
or_assoc false b c = refl

any-append : {X : Type 0} (q : X → Bool) (xs ys : List X) → list_any q (xs ++ ys) ≡ (list_any q xs || list_any q ys)
any-append q [] ys = refl
any-append q (x ∷ xs) ys = ap (λ z. q x || z) (any-append q xs ys) ∙ or_assoc (q x) (list_any q xs) (list_any q ys)

or_left : (a b : Bool) → (a || b) ≡ false → a ≡ false
or_left true b e = absurd (false≢true (sym e))
or_left false b e = refl

module _ (q : ℕ → Bool) where
  abbrev any_below : ℕ → Bool
  any_below n = list_any q (range_with_len 0 n)

  below_less : (k n : ℕ) → k ≤ n → any_below n ≡ false → any_below k ≡ false
  below_less k n h e =
      let split : any_below n ≡ (any_below k || list_any q (range_with_len (0 + k) (n - k))) = ap (λ z. list_any q (range_with_len 0 z)) (omega arith) ∙ (ap (list_any q) (range-append 0 k (n - k)) ∙ any-append q (range_with_len 0 k) (range_with_len (0 + k) (n - k))) in
      or_left (any_below k) (list_any q (range_with_len (0 + k) (n - k))) (sym split ∙ e)

  pub one_more : (n : ℕ) → any_below n ≡ false → q n ≡ false → any_below (n + 1) ≡ false
  one_more n e h =
      let zero_n : 0 + n ≡ n = omega arith in
      ap (list_any q) (range-append 0 n 1) ∙ (any-append q (range_with_len 0 n) (range_with_len (0 + n) 1) ∙ (ap (λ z. z || list_any q (range_with_len (0 + n) 1)) e ∙ (ap (λ z. q z || false) zero_n ∙ ap (λ z. z || false) h)))

  after_first : (k n : ℕ) → k < n → q k ≡ true → any_below k ≡ false → any_below n ≡ true
  after_first k n b h e =
      let more : ℕ = n - (k + 1) in
      let zero_k : 0 + k ≡ k = omega arith in
      ap (λ z. list_any q (range_with_len 0 z)) (omega arith) ∙ (ap (list_any q) (range-append 0 k (suc more)) ∙ (any-append q (range_with_len 0 k) (range_with_len (0 + k) (suc more))
      ∙ (ap (λ z. z || list_any q (range_with_len (0 + k) (suc more))) e ∙ (ap (λ z. q z || list_any q (range_with_len (0 + k + 1) more)) zero_k ∙ ap (λ z. z || list_any q (range_with_len (0 + k + 1) more)) h))))

  lt_true : (k n : ℕ) → k < n → true ≡ nat_lt k n
  lt_true k n h = grind (arith, nat_tests)

  lt_false : (k n : ℕ) → n ≤ k → false ≡ nat_lt k n
  lt_false k n h = grind (arith, nat_tests)

  by_order : (first n : ℕ) → any_below first ≡ false → q first ≡ true → (first < n) ⊎ (n ≤ first) → any_below n ≡ nat_lt first n
  by_order first n e h (inl b) = after_first first n b h e ∙ lt_true first n b
  by_order first n e h (inr b) = below_less n first b e ∙ lt_false first n b

  pub first_there : (first n : ℕ) → any_below first ≡ false → q first ≡ true → any_below n ≡ nat_lt first n
  first_there first n e h = by_order first n e h (cases_lt first n)

  pub none_there : (total n : ℕ) → any_below total ≡ false → n ≤ total → any_below n ≡ nat_lt total n
  none_there total n e b = below_less n total b e ∙ lt_false total n b

-- of those that pass a test
by_test : {X : Type 0} (b : Bool) (q : X → Bool) (f : ℕ → X) (t : ℕ → Bool) (x : ℕ) (xs : List ℕ) → t x ≡ b → list_any q (map f (filter t xs)) ≡ list_any (λ n. t n && q (f n)) xs → list_any q (map f (filter t (x ∷ xs))) ≡ list_any (λ n. t n && q (f n)) (x ∷ xs)
by_test true q f t x xs e h = rw e (ap (λ z. q (f x) || z) h)
by_test false q f t x xs e h = rw e h

filtered : {X : Type 0} (q : X → Bool) (f : ℕ → X) (t : ℕ → Bool) (xs : List ℕ) → list_any q (map f (filter t xs)) ≡ list_any (λ n. t n && q (f n)) xs
filtered q f t [] = refl
filtered q f t (x ∷ xs) = by_test (t x) q f t x xs refl (filtered q f t xs)

root_kind : (t : NodeText) → is_root t ≡ true → kind_of t ≡ K.Root
root_kind (N.Root bom block) e = refl
root_kind (N.AtRule before name after_name params between block) e = absurd (false≢true e)
root_kind (N.Rule before selector between block) e = absurd (false≢true e)
root_kind (N.Declaration before prop between value important important_raw tail) e = absurd (false≢true e)
root_kind (N.Comment before left text right) e = absurd (false≢true e)

module _ (f : Forest) (i : IsForest f) where
  -- the root alone is a root
  is_zero : (p : ℕ) → p < length f.nodes → is_root (text_of f.nodes p) ≡ true → p ≡ 0
  is_zero zero b e = refl
  is_zero (suc p) b e = absurd (i.others (suc p) (omega arith) b (root_kind (text_of f.nodes (suc p)) e))

  by_grandparent : (n p : ℕ) (o : Option ℕ) → parent_of f.nodes n ≡ Some p → parent_of f.nodes p ≡ o → is_root_alone (above f.nodes i.sound n) ≡ true → p ≡ 0
  by_grandparent n p (Some q) e h r = absurd (false≢true (deeper f.nodes i.sound n p q e h ∙ r))
  by_grandparent n p None e h r = is_zero p (i.sound.below n p e) (at_top f.nodes i.sound n p e h ∙ r)

  by_parent : (n : ℕ) (o : Option ℕ) → n < length f.nodes → parent_of f.nodes n ≡ o → is_root_alone (above f.nodes i.sound n) ≡ true → o ≡ Some 0
  by_parent n None b e r = absurd (false≢true (sym (ap is_root_alone (above_none f.nodes i.sound n b e)) ∙ r))
  by_parent n (Some p) b e r = ap Some (by_grandparent n p (parent_of f.nodes p) e refl r)

  -- what stands before a node at the root
  pub late_is : IsFresh f → (n first : ℕ) → n < length f.nodes → IsFirstBarrier f.nodes first → is_root_alone (above f.nodes i.sound n) ≡ true → list_any (λ (t : Tree). not (may_precede t.text)) (map (tree_at f.nodes) (earlier_of f.nodes n)) ≡ nat_lt first n
  late_is h n first b k r =
      let ns : List Node = f.nodes in
      let q : Tree → Bool = λ t. not (may_precede t.text) in
      let top : parent_of ns n ≡ Some 0 = by_parent n (parent_of ns n) b refl r in
      let list : earlier_of ns n ≡ filter (stands_in ns (Some 0)) (range_with_len 0 n) = earlier_are_smaller f i h n b ∙ ap (λ o. filter (stands_in ns o) (range_with_len 0 n)) top in
      ap (λ z. list_any q (map (tree_at ns) z)) list ∙ (filtered q (tree_at ns) (stands_in ns (Some 0)) (range_with_len 0 n) ∙ k n (omega arith))

pub both : (a b x : Bool) → a ≡ true → b ≡ x → (a && b) ≡ x
both a b x e h = ap (λ z. z && b) e ∙ h
