-- The links of a child lead to the child behind it and to the one before it.
use Rattle.std.proofs.Common.{◌≡◌, ℕ, suc, zero, ◌+◌, ◌-◌, ◌<◌, ◌≤◌, ◌≢◌, List, [], ◌∷◌, length, take, drop, Option, Some, None, refl, ap, sym, ◌∙◌, arith, eqb, count_by, cond, slice_get, get_or, inl, inr}
use Rattle.std.specs.List.{position_or_len}
use Rattle.std.proofs.lemmas.Bool.{cases_Bool}
use Rattle.std.proofs.lemmas.List.Sums.{sum_by-cons}
use Rattle.node_rows.specs.declared.rows.Row.{Row}
use Rattle.node_rows.specs.Nodes.{parent_of, children_of, child_after, child_before, before_place, next_sibling_of, previous_sibling_of}
use Rattle.node_rows.specs.Segments.{start_of, end_of}
use Rattle.node_rows.specs.Shown.{row_at, prev, shown_rows, IsLinked}
use Rattle.node_rows.proofs.Climb.{same_from_eqb}
use Rattle.node_rows.proofs.Edits.{none_if, listed_once}
use Rattle.node_rows.proofs.Join.{length-shown, shown-at, kids, walk_on, prev_on, start_get}

one_more : (n : ℕ) → 1 + n ≡ suc n
one_more n = omega arith

-- what is in a list stands at its position
pub placed_at : (n : ℕ) (xs : List ℕ) → 0 < count_by (eqb n) xs → Some n ≡ start_of (drop (position_or_len (eqb n) xs) xs) None
placed_at n [] h = absurd (omega arith)
placed_at n (x ∷ xs) h =
    elim (cases_Bool (eqb n x)) [
      | inl t ↦ rw t (ap (λ k. Some k) (same_from_eqb n x t))
      | inr f ↦
          let next : drop (1 + position_or_len (eqb n) xs) (x ∷ xs) ≡ drop (position_or_len (eqb n) xs) xs = ap (λ k. drop k (x ∷ xs)) (one_more (position_or_len (eqb n) xs)) in
          rw (f, next) (placed_at n xs (omega (arith, sum_by-cons (λ y. cond (eqb n y) 1 0) x xs, none_if f)))
    ]

pub after-is : (rs : List Row) → IsLinked rs → (n p : ℕ) → n < length rs → (row_at rs n).parent ≡ Some p → (row_at rs n).after ≡ next_sibling_of (shown_rows rs) n
after-is rs k n p b h =
    let ns = shown_rows rs in
    let e : parent_of ns n ≡ Some p = ap (λ x. x.parent) (shown-at rs n b) ∙ h in
    let bp : p < length rs = rw (← length-shown rs) (k.sound.below n p e) in
    let same : children_of ns p ≡ kids rs p = ap (λ x. x.children) (shown-at rs p bp) in
    let one = listed_once ns n p k.sound e in
    let i = position_or_len (eqb n) (kids rs p) in
    let w = walk_on rs k p bp i n (placed_at n (kids rs p) (omega (arith, one, ap (count_by (eqb n)) same))) in
    w.1 ∙ (start_get (kids rs p) (i + 1) ∙ (ap (λ l. slice_get l (position_or_len (eqb n) l + 1)) (sym same) ∙ sym (ap (child_after ns n) e)))

pub start_short : (xs : List ℕ) (i c : ℕ) → Some c ≡ start_of (drop i xs) None → i < length xs
start_short [] zero c h = absurd cc
start_short [] (suc i) c h = absurd cc
start_short (x ∷ xs) zero c h = omega arith
start_short (x ∷ xs) (suc i) c h = let b = start_short xs i c h in omega arith

-- the last of the first ones is the one before their end
pub end_get : (b : Option ℕ) (xs : List ℕ) (i : ℕ) → i < length xs → end_of b (take (suc i) xs) ≡ slice_get xs i
end_get b [] i h = absurd (omega arith)
end_get b (x ∷ xs) zero h = refl
end_get b (x ∷ xs) (suc i) h = end_get (Some x) xs i (omega arith)

before_is_end : (xs : List ℕ) (i : ℕ) → i ≤ length xs → end_of None (take i xs) ≡ before_place xs i
before_is_end xs zero h = refl
before_is_end xs (suc i) h = end_get None xs i (omega arith)

pub before-is : (rs : List Row) → IsLinked rs → (n p : ℕ) → n < length rs → (row_at rs n).parent ≡ Some p → (row_at rs n).before ≡ previous_sibling_of (shown_rows rs) n
before-is rs k n p b h =
    let ns = shown_rows rs in
    let e : parent_of ns n ≡ Some p = ap (λ x. x.parent) (shown-at rs n b) ∙ h in
    let bp : p < length rs = rw (← length-shown rs) (k.sound.below n p e) in
    let same : children_of ns p ≡ kids rs p = ap (λ x. x.children) (shown-at rs p bp) in
    let one = listed_once ns n p k.sound e in
    let i = position_or_len (eqb n) (kids rs p) in
    let at = placed_at n (kids rs p) (omega (arith, one, ap (count_by (eqb n)) same)) in
    let short = start_short (kids rs p) i n at in
    prev_on rs k p bp i n at ∙ (before_is_end (kids rs p) i (omega arith)
    ∙ (ap (λ l. before_place l (position_or_len (eqb n) l)) (sym same) ∙ sym (ap (child_before ns n) e)))

-- one step back from a place that isn't the first
module _ (rs : List Row) (k : IsLinked rs) (p : ℕ) (bp : p < length rs) where
  pub step_back : (j c : ℕ) → j ≤ length (kids rs p) → Some c ≡ end_of None (take j (kids rs p)) → (Some c ≡ start_of (drop (j - 1) (kids rs p)) None) × (prev rs c ≡ end_of None (take (j - 1) (kids rs p)))
  step_back zero c h e = absurd cc
  step_back (suc i) c h e =
      let at : suc i - 1 ≡ i = omega arith in
      let s : Some c ≡ start_of (drop i (kids rs p)) None = e ∙ (end_get None (kids rs p) i (omega arith) ∙ sym (start_get (kids rs p) i)) in
      rw at (s, prev_on rs k p bp i c s)

pub get_none : (xs : List ℕ) (i : ℕ) → i < length xs → None ≢ slice_get xs i
get_none [] i h = absurd (omega arith)
get_none (x ∷ xs) zero h = λ e. absurd cc
get_none (x ∷ xs) (suc i) h = get_none xs i (omega arith)

pub end_none : (xs : List ℕ) (j : ℕ) → j ≤ length xs → None ≡ end_of None (take j xs) → j ≡ 0
end_none xs zero h e = refl
end_none xs (suc i) h e = absurd (get_none xs i (omega arith) (e ∙ end_get None xs i (omega arith)))

pub slice_start : (xs : List ℕ) (i c : ℕ) → Some c ≡ start_of (drop i xs) None → get_or xs i 0 ≡ c
slice_start [] zero c h = absurd cc
slice_start [] (suc i) c h = absurd cc
slice_start (x ∷ xs) zero c h = let e : c ≡ x = cc in sym e
slice_start (x ∷ xs) (suc i) c h = slice_start xs i c h
