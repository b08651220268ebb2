-- A node has no more children than there are nodes.
use Rattle.std.proofs.Common.{◌≡◌, ℕ, zero, suc, ◌<◌, ◌≤◌, List, [], ◌∷◌, Bool, true, false, length, Option, Some, None, refl, arith, cond, eqb, count_by, eq-eqb, inl, inr, slice_get, OnSome, IfSome}
use Rattle.std.specs.List.{IsDistinct, list_any, AllByRecursion}
use Rattle.std.proofs.lemmas.Map.Steps.{length-le_from_distinct_below}
use Rattle.std.proofs.lemmas.List.Sums.{sum_by-cons}
use Rattle.std.proofs.lemmas.Bool.{false≢true, cases_Bool}
use Rattle.node_rows.specs.Nodes.{Node, parent_of, children_of}
use Rattle.node_rows.specs.Sound.{IsSound, is_number}
use Rattle.node_rows.proofs.Climb.{or_cases, same_from_eqb}
use Rattle.node_rows.proofs.Edits.{one_if, parent-inside}
use Rattle.node_rows.proofs.Levels.{Each, children_each}

none_counted : (n : ℕ) (xs : List ℕ) → count_by (eqb n) xs ≡ 0 → AllByRecursion (λ y. eqb n y ≡ false) xs
none_counted n [] h = tt
none_counted n (x ∷ xs) h =
    let e = sum_by-cons (λ y. cond (eqb n y) 1 0) x xs in
    (elim (cases_Bool (eqb n x)) [ inl t ↦ absurd (omega (arith, one_if t)) | inr f ↦ f ], none_counted n xs (omega arith))

pub distinct_counted : (xs : List ℕ) → ((n : ℕ) → count_by (eqb n) xs ≤ 1) → IsDistinct eqb xs
unfolding IsDistinct
distinct_counted [] h = tt
distinct_counted (x ∷ xs) h = (
  none_counted x xs (omega (arith, h x, sum_by-cons (λ y. cond (eqb x y) 1 0) x xs, one_if (eq-eqb x x refl))),
  distinct_counted xs (λ n. omega (arith, h n, sum_by-cons (λ y. cond (eqb n y) 1 0) x xs)),
)

pub at_most_one : (b : Bool) → cond {A = ℕ} b 1 0 ≤ 1
at_most_one true = omega arith
at_most_one false = omega arith

each_any : (P : ℕ → Type 0) (xs : List ℕ) → Each P xs → (q : ℕ) → list_any (eqb q) xs ≡ true → (y : ℕ) × (eqb q y ≡ true) × P y
each_any P [] h q e = absurd (false≢true e)
each_any P (x ∷ xs) h q e = elim (or_cases (eqb q x) (list_any (eqb q) xs) e) [ inl t ↦ (x, t, h.0) | inr f ↦ each_any P xs h.1 q f ]

pub children-short : (ns : List Node) (p : ℕ) → IsSound ns → length (children_of ns p) ≤ length ns
children-short ns p s =
    length-le_from_distinct_below (children_of ns p) (length ns)
    (distinct_counted (children_of ns p) (λ n. omega (arith, s.listed n p, at_most_one (is_number (parent_of ns n) p))))
    (λ q e. let y = each_any _ (children_of ns p) (children_each ns p s) q e in
    let b = parent-inside ns y.0 p y.2 in
    let i = same_from_eqb q y.0 y.1 in omega arith)

get_each : (P : ℕ → Type 0) (xs : List ℕ) (i : ℕ) → Each P xs → IfSome (slice_get xs i) P
get_each P [] i h = tt
get_each P (x ∷ xs) zero h = h.0
get_each P (x ∷ xs) (suc i) h = get_each P xs i h.1

get_suc : {A : Type 0} (o : Option A) (i n : ℕ) → OnSome o (i < n) → OnSome o (suc i < suc n)
get_suc None i n h = tt
get_suc (Some x) i n h = omega arith

get_short : (xs : List ℕ) (i n : ℕ) → length xs ≤ n → OnSome (slice_get xs i) (i < n)
get_short [] i n h = tt
get_short (x ∷ xs) zero n h = omega arith
get_short (x ∷ xs) (suc i) zero h = absurd (omega arith)
get_short (x ∷ xs) (suc i) (suc n) h = get_suc (slice_get xs i) i n (get_short xs i n (omega arith))

pub child-inside : (ns : List Node) (p at : ℕ) → IsSound ns → IfSome (slice_get (children_of ns p) at) (λ c. parent_of ns c ≡ Some p)
child-inside ns p at s = get_each _ (children_of ns p) at (children_each ns p s)

pub child-few : (ns : List Node) (p at : ℕ) → IsSound ns → OnSome (slice_get (children_of ns p) at) (at < length ns)
child-few ns p at s = get_short (children_of ns p) at (length ns) (children-short ns p s)
