-- The numbers below a node are those of the nodes that it holds.
use Rattle.std.proofs.Common.{◌≡◌, ℕ, zero, suc, ◌+◌, ◌<◌, List, [], ◌∷◌, ◌++◌, Bool, true, false, ◌||◌, length, Some, refl, sym, subst, arith, eqb, eq-eqb, cond, count_by, inl, inr}
use Rattle.std.specs.List.{list_any}
use Rattle.std.proofs.lemmas.Bool.{false≢true, cases_Bool, cases_eq}
use Rattle.std.proofs.lemmas.List.Sums.{sum_by-cons}
use Rattle.node_rows.specs.Nodes.{Node, parent_of, children_of, path, holds}
use Rattle.node_rows.specs.Sound.{IsSound}
use Rattle.node_rows.specs.NumberTrees.{NumberTrees, trees_by, levels, number_trees, numbers, numbers_below}
use Rattle.node_rows.proofs.Behind.{held-self, held-below, held-above, held-parent}
use Rattle.node_rows.proofs.Climb.{Rooted, top, under, rooted, or_cases, same_from_eqb}
use Rattle.node_rows.proofs.Edits.{listed_once, none_if}
use Rattle.node_rows.proofs.SameText.{same_by}
use Rattle.node_rows.proofs.Levels.{Each, At, children_each, children_at, up-short}

abbrev In : ℕ → List ℕ → Type 0
In m xs = list_any (eqb m) xs ≡ true

or_left : (a b : Bool) → a ≡ true → (a || b) ≡ true
or_left true b h = refl
or_left false b h = absurd (false≢true h)

or_right : (a b : Bool) → b ≡ true → (a || b) ≡ true
or_right true b h = refl
or_right false b h = h

in_front : (m : ℕ) (xs ys : List ℕ) → In m xs → In m (xs ++ ys)
in_front m [] ys h = absurd (false≢true h)
in_front m (x ∷ xs) ys h = elim (or_cases (eqb m x) (list_any (eqb m) xs) h) [ inl t ↦ or_left (eqb m x) _ t | inr f ↦ or_right (eqb m x) _ (in_front m xs ys f) ]

in_back : (m : ℕ) (xs ys : List ℕ) → In m ys → In m (xs ++ ys)
in_back m [] ys h = h
in_back m (x ∷ xs) ys h = or_right (eqb m x) _ (in_back m xs ys h)

in_either : (m : ℕ) (xs ys : List ℕ) → In m (xs ++ ys) → (A : Type 0) → (In m xs → A) → (In m ys → A) → A
in_either m [] ys h A f g = g h
in_either m (x ∷ xs) ys h A f g =
    elim (or_cases (eqb m x) (list_any (eqb m) (xs ++ ys)) h) [
      | inl t ↦ f (or_left (eqb m x) _ t)
      | inr i ↦ in_either m xs ys i A (λ j. f (or_right (eqb m x) _ j)) g
    ]

in_counted : (m : ℕ) (xs : List ℕ) → 0 < count_by (eqb m) xs → In m xs
in_counted m [] h = absurd (omega arith)
in_counted m (x ∷ xs) h =
    elim (cases_Bool (eqb m x)) [
      | inl t ↦ or_left (eqb m x) _ t
      | inr f ↦ or_right (eqb m x) _ (in_counted m xs (omega (arith, sum_by-cons (λ y. cond (eqb m y) 1 0) x xs, none_if f)))
    ]

each_in : (P : ℕ → Type 0) (m : ℕ) (xs : List ℕ) → Each P xs → In m xs → P m
each_in P m [] a h = absurd (false≢true h)
each_in P m (x ∷ xs) a h = elim (or_cases (eqb m x) (list_any (eqb m) xs) h) [ inl t ↦ subst P (sym (same_from_eqb m x t)) a.0 | inr f ↦ each_in P m xs a.1 f ]

each_both : (P : ℕ → Type 0) (xs ys : List ℕ) → Each P xs → Each P ys → Each P (xs ++ ys)
each_both P [] ys a b = b
each_both P (x ∷ xs) ys a b = (a.0, each_both P xs ys a.1 b)

-- what passes from each parent to its children holds of all numbers
each_by : (P : ℕ → Type 0) (f : ℕ → NumberTrees) → ((m : ℕ) → P m → Each P (numbers (f m))) → (ms : List ℕ) → Each P ms → Each P (numbers (trees_by f ms))
each_by P f h [] a = tt
each_by P f h (m ∷ ms) a = (a.0, each_both P (numbers (f m)) _ (h m a.0) (each_by P f h ms a.1))

-- each of the numbers themselves is among those of their trees
heads_by : (f : ℕ → NumberTrees) (c : ℕ) (ms : List ℕ) → In c ms → In c (numbers (trees_by f ms))
heads_by f c [] h = h
heads_by f c (m ∷ ms) h =
    elim (or_cases (eqb c m) (list_any (eqb c) ms) h) [
      | inl t ↦ or_left (eqb c m) _ t
      | inr i ↦ or_right (eqb c m) _ (in_back c (numbers (f m)) _ (heads_by f c ms i))
    ]

module _ (ns : List Node) (s : IsSound ns) where
  in_children : (c p : ℕ) → parent_of ns c ≡ Some p → In c (children_of ns p)
  in_children c p e = in_counted c (children_of ns p) (omega (arith, listed_once ns c p s e))

  held_each : (n k : ℕ) (ms : List ℕ) → Each (λ m. holds ns n m ≡ true) ms → Each (λ m. holds ns n m ≡ true) (numbers (levels ns k ms))
  unfolding levels
  held_each n zero ms a = tt
  held_each n (suc k) ms a =
      each_by (λ m. holds ns n m ≡ true) _ (λ m h. held_each n k (children_of ns m) (held_children n m (children_of ns m) h (children_each ns m s))) ms a
    where
      held_children : (n m : ℕ) (cs : List ℕ) → holds ns n m ≡ true → Each (λ c. parent_of ns c ≡ Some m) cs → Each (λ c. holds ns n c ≡ true) cs
      held_children n m [] h a = tt
      held_children n m (c ∷ cs) h a = (held-below ns s n c m a.0 h, held_children n m cs h a.1)

  heads : (k d c : ℕ) (ms : List ℕ) → Each (At ns d) ms → length ns < d + k → In c ms → In c (numbers (levels ns k ms))
  unfolding levels
  heads zero d c [] a b h = h
  heads zero d c (m ∷ ms) a b h = absurd (let i = up-short ns (length ns) m in omega (arith, a.0.1))
  heads (suc k) d c ms a b h = heads_by _ c ms h

  closed_by : (f : ℕ → NumberTrees) (d p c : ℕ) → parent_of ns c ≡ Some p → ((m : ℕ) → At ns d m → In p (numbers (f m)) → In c (numbers (f m))) → ((m : ℕ) → At ns d m → In c (children_of ns m) → In c (numbers (f m))) → (ms : List ℕ) → Each (At ns d) ms → In p (numbers (trees_by f ms)) → In c (numbers (trees_by f ms))
  closed_by f d p c e g h [] a i = i
  closed_by f d p c e g h (m ∷ ms) a i =
      or_right (eqb c m) _ (elim (or_cases (eqb p m) (list_any (eqb p) (numbers (f m) ++ numbers (trees_by f ms))) i) [
        | inl t ↦ in_front c (numbers (f m)) _ (h m a.0 (subst (λ q. In c (children_of ns q)) (same_from_eqb p m t) (in_children c p e)))
        | inr j ↦ in_either p (numbers (f m)) (numbers (trees_by f ms)) j _
            (λ l. in_front c (numbers (f m)) _ (g m a.0 l))
            (λ l. in_back c (numbers (f m)) _ (closed_by f d p c e g h ms a.1 l))
      ])

  -- with a number, those of its children
  closed : (k d p c : ℕ) (ms : List ℕ) → parent_of ns c ≡ Some p → Each (At ns d) ms → length ns < d + k → In p (numbers (levels ns k ms)) → In c (numbers (levels ns k ms))
  unfolding levels
  closed zero d p c ms e a b h = absurd (false≢true h)
  closed (suc k) d p c ms e a b h =
      closed_by _ d p c e
      (λ m i j. closed k (suc d) p c (children_of ns m) e (children_at ns d m s i) (omega arith) j)
      (λ m i j. heads k (suc d) c (children_of ns m) (children_at ns d m s i) (omega arith) j) ms a h

  module _ (n : ℕ) (bn : n < length ns) where
    pub below-held : (m : ℕ) → In m (n ∷ numbers_below ns n) → holds ns n m ≡ true
    unfolding number_trees
    below-held m h =
        each_in (λ q. holds ns n q ≡ true) m (n ∷ numbers_below ns n)
        (held-self ns n bn, held_each n (length ns) (children_of ns n) (from_top (children_of ns n) (children_each ns n s))) h
      where
        from_top : (cs : List ℕ) → Each (λ c. parent_of ns c ≡ Some n) cs → Each (λ c. holds ns n c ≡ true) cs
        from_top [] a = tt
        from_top (c ∷ cs) a = (held-below ns s n c n a.0 (held-self ns n bn), from_top cs a.1)

    below_next : (p c : ℕ) → parent_of ns c ≡ Some p → In p (n ∷ numbers_below ns n) → In c (n ∷ numbers_below ns n)
    unfolding number_trees
    below_next p c e h =
        let kids = children_at ns (length (path ns n)) n s (bn, refl) in
        or_right (eqb c n) _ (elim (or_cases (eqb p n) (list_any (eqb p) (numbers_below ns n)) h) [
          | inl t ↦ heads (length ns) (suc (length (path ns n))) c (children_of ns n) kids (omega arith) (subst (λ q. In c (children_of ns q)) (same_from_eqb p n t) (in_children c p e))
          | inr i ↦ closed (length ns) (suc (length (path ns n))) p c (children_of ns n) e kids (omega arith) i
        ])

    climbs : {m : ℕ} → Rooted ns m → m < length ns → holds ns n m ≡ true → In m (n ∷ numbers_below ns n)
    climbs (top {n = m} e) b h =
        elim (cases_eq m n) [
          | inl i ↦ or_left (eqb m n) _ (eq-eqb m n i)
          | inr d ↦ absurd (held-parent ns s n m b d h e)
        ]
    climbs (under {n = m} {p = p} e r) b h =
        elim (cases_eq m n) [
          | inl i ↦ or_left (eqb m n) _ (eq-eqb m n i)
          | inr d ↦ below_next p m e (climbs r (s.below m p e) (held-above ns s n m p e d h))
        ]

    pub held-below_numbers : (m : ℕ) → m < length ns → holds ns n m ≡ true → In m (n ∷ numbers_below ns n)
    held-below_numbers m b h = climbs (rooted ns s m b) b h

    -- n with the numbers below it are the nodes that n holds
    pub below-holds : (m : ℕ) → m < length ns → list_any (eqb m) (n ∷ numbers_below ns n) ≡ holds ns n m
    below-holds m b = same_by _ _ (below-held m) (held-below_numbers m b)
