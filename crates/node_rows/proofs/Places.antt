-- The places of children among their siblings, and how they move.
use Rattle.std.proofs.Common.{◌≡◌, ◌≢◌, ℕ, zero, suc, ◌+◌, ◌<◌, ◌≤◌, List, [], ◌∷◌, length, Option, Some, None, IfSome, refl, ap, sym, ◌∙◌, arith, eqb, slice_get, insert, remove, get_or, inl, inr}
use Rattle.std.specs.List.{position_or_len}
use Rattle.std.proofs.lemmas.Bool.{cases_Bool, ne_eqb}
use Rattle.node_rows.specs.Nodes.{Node, parent_of, children_of, place_of, before_place, child_after, child_before, next_sibling_of, previous_sibling_of}
use Rattle.node_rows.specs.Sound.{IsSound}
use Rattle.node_rows.proofs.Behind.{place_is, child_parent}
use Rattle.node_rows.proofs.Edits.{listed_once}
use Rattle.node_rows.proofs.Short.{child-inside}
use Rattle.node_rows.proofs.Siblings.{placed_at, start_short, get_none, slice_start}

module _ (ns : List Node) (s : IsSound ns) where
  -- a child stands at its place
  pub place-inside : (n p : ℕ) → parent_of ns n ≡ Some p → place_of ns p n < length (children_of ns p)
  place-inside n p e =
      start_short (children_of ns p) (place_of ns p n) n (placed_at n (children_of ns p) (omega (arith, listed_once ns n p s e)))

  pub child-at-place : (n p : ℕ) → parent_of ns n ≡ Some p → get_or (children_of ns p) (place_of ns p n) 0 ≡ n
  child-at-place n p e = slice_start (children_of ns p) (place_of ns p n) n (placed_at n (children_of ns p) (omega (arith, listed_once ns n p s e)))

  prev_some : (n p c i : ℕ) → place_of ns p n ≡ i → before_place (children_of ns p) i ≡ Some c → (parent_of ns c ≡ Some p) × (place_of ns p c + 1 ≡ place_of ns p n)
  prev_some n p c zero at g = absurd cc
  prev_some n p c (suc i) at g =
      let e = child_parent ns (slice_get (children_of ns p) i) p c (child-inside ns p i s) g in
      let here : place_of ns p c ≡ i = place_is c (children_of ns p) i (listed_once ns c p s e) g in
      (e, omega arith)

  -- the sibling before a child stands one place before it
  pub previous-some : (n p c : ℕ) → parent_of ns n ≡ Some p → previous_sibling_of ns n ≡ Some c → (parent_of ns c ≡ Some p) × (place_of ns p c + 1 ≡ place_of ns p n)
  previous-some n p c e g = prev_some n p c (place_of ns p n) refl (sym (ap (child_before ns n) e) ∙ g)

  prev_none : (n p i : ℕ) → i < length (children_of ns p) → before_place (children_of ns p) i ≡ None → i ≡ 0
  prev_none n p zero b g = refl
  prev_none n p (suc i) b g = absurd (get_none (children_of ns p) i (omega arith) (sym g))

  -- only the first child has none before it
  pub previous-none : (n p : ℕ) → parent_of ns n ≡ Some p → previous_sibling_of ns n ≡ None → place_of ns p n ≡ 0
  previous-none n p e g = prev_none n p (place_of ns p n) (place-inside n p e) (sym (ap (child_before ns n) e) ∙ g)

  -- the sibling behind a child stands one place behind it
  pub next-some : (n p c : ℕ) → parent_of ns n ≡ Some p → next_sibling_of ns n ≡ Some c → (parent_of ns c ≡ Some p) × (place_of ns p c ≡ place_of ns p n + 1)
  next-some n p c e g =
      let h : slice_get (children_of ns p) (place_of ns p n + 1) ≡ Some c = sym (ap (child_after ns n) e) ∙ g in
      let f = child_parent ns (slice_get (children_of ns p) (place_of ns p n + 1)) p c (child-inside ns p (place_of ns p n + 1) s) h in
      (f, place_is c (children_of ns p) (place_of ns p n + 1) (listed_once ns c p s f) h)

  -- the sibling behind the child n, if there is one, stands k + 1 places behind the place i, where n stands k places behind it
  pub next-further : (n p i k : ℕ) (o : Option ℕ) → parent_of ns n ≡ Some p → place_of ns p n ≡ i + k → o ≡ next_sibling_of ns n → IfSome o (λ c. (parent_of ns c ≡ Some p) × (place_of ns p c ≡ i + (k + 1)))
  next-further n p i k None e h g = tt
  next-further n p i k (Some c) e h g = let t = next-some n p c e (sym g) in (t.0, omega (arith, t.1))

-- a child's place after an insertion beside it
pub place-insert : (m n : ℕ) (xs : List ℕ) (i : ℕ) → m ≢ n → i ≤ length xs → (position_or_len (eqb m) xs < i → position_or_len (eqb m) (insert xs i n) ≡ position_or_len (eqb m) xs) × (i ≤ position_or_len (eqb m) xs → position_or_len (eqb m) (insert xs i n) ≡ position_or_len (eqb m) xs + 1)
place-insert m n xs zero d h = (λ l. absurd (omega arith), λ l. rw (ne_eqb m n d) (omega arith))
place-insert m n [] (suc i) d h = absurd (omega arith)
place-insert m n (x ∷ xs) (suc i) d h =
    let t = place-insert m n xs i d (omega arith) in
    elim (cases_Bool (eqb m x)) [
      | inl e ↦ rw e (λ l. refl, λ l. absurd (omega arith))
      | inr f ↦ rw f (λ l. let s = t.0 (omega arith) in omega arith, λ l. let s = t.1 (omega arith) in omega arith)
    ]

-- a child's place after the removal of another
pub place-remove : (m : ℕ) (xs : List ℕ) (i : ℕ) → i < length xs → m ≢ get_or xs i 0 → (position_or_len (eqb m) xs < i → position_or_len (eqb m) (remove xs i) ≡ position_or_len (eqb m) xs) × (i < position_or_len (eqb m) xs → position_or_len (eqb m) (remove xs i) + 1 ≡ position_or_len (eqb m) xs)
place-remove m [] i h d = absurd (omega arith)
place-remove m (x ∷ xs) zero h d = (λ l. absurd (omega arith), λ l. rw (ne_eqb m x d) (omega arith))
place-remove m (x ∷ xs) (suc i) h d =
    let t = place-remove m xs i (omega arith) d in
    elim (cases_Bool (eqb m x)) [
      | inl e ↦ rw e (λ l. refl, λ l. absurd (omega arith))
      | inr f ↦ rw f (λ l. let s = t.0 (omega arith) in omega arith, λ l. let s = t.1 (omega arith) in omega arith)
    ]
