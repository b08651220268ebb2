-- The trees of numbers have levels enough: a number gives a tree with the trees of its children.
use Rattle.std.proofs.Common.{◌≡◌, ℕ, zero, suc, ◌+◌, ◌<◌, ◌≤◌, List, [], ◌∷◌, Bool, true, false, length, Option, Some, None, refl, ap, ◌∙◌, arith, cond, eqb, count_by, eq-eqb}
use Rattle.std.proofs.lemmas.List.Sums.{sum_by-cons}
use Rattle.node_rows.specs.Nodes.{Node, parent_of, children_of, up, path}
use Rattle.node_rows.specs.Sound.{IsSound, is_number}
use Rattle.node_rows.specs.NumberTrees.{NumberTrees, no_trees, tree, trees_by, levels, number_trees}
use Rattle.node_rows.proofs.Climb.{path-step, same_from_eqb}
use Rattle.node_rows.proofs.Edits.{one_if, parent-inside}

abbrev pub Each : (ℕ → Type 0) → List ℕ → Type 0
Each P [] = Unit {0}
Each P (m ∷ ms) = P m × Each P ms

pub Each-map : (P Q : ℕ → Type 0) → ((m : ℕ) → P m → Q m) → (ms : List ℕ) → Each P ms → Each Q ms
Each-map P Q f [] h = tt
Each-map P Q f (m ∷ ms) h = (f m h.0, Each-map P Q f ms h.1)

pub Each-counted : (P : ℕ → Type 0) (ms : List ℕ) → ((m : ℕ) → 0 < count_by (eqb m) ms → P m) → Each P ms
Each-counted P [] f = tt
Each-counted P (m ∷ ms) f = (
  f m (omega (arith, sum_by-cons (λ y. cond (eqb m y) 1 0) m ms, one_if (eq-eqb m m refl))),
  Each-counted P ms (λ q h. f q (omega (arith, sum_by-cons (λ y. cond (eqb q y) 1 0) m ms))),
)

number_same : (b : Bool) (q p : ℕ) → eqb q p ≡ b → 0 < cond {A = ℕ} b 1 0 → Some q ≡ Some p
number_same true q p e h = ap (λ k. Some k) (same_from_eqb q p e)
number_same false q p e h = absurd (omega arith)

number_is : (o : Option ℕ) (p : ℕ) → 0 < cond {A = ℕ} (is_number o p) 1 0 → o ≡ Some p
number_is None p h = absurd (omega arith)
number_is (Some q) p h = number_same (eqb q p) q p refl h

up-short_each : (ns : List Node) (k n : ℕ) (o : Option ℕ) → ((p : ℕ) → length (up ns k p) ≤ k) → length (n ∷ elim o as (λ _. List ℕ) [ None ↦ [] | Some p ↦ up ns k p ]) ≤ suc k
up-short_each ns k n None h = omega arith
up-short_each ns k n (Some p) h = omega (arith, h p)

pub up-short : (ns : List Node) (k n : ℕ) → length (up ns k n) ≤ k
up-short ns zero n = omega arith
up-short ns (suc k) n = up-short_each ns k n (parent_of ns n) (up-short ns k)

-- the children of a node have it as their parent
pub children_each : (ns : List Node) (m : ℕ) → IsSound ns → Each (λ c. parent_of ns c ≡ Some m) (children_of ns m)
children_each ns m s = Each-counted _ (children_of ns m) (λ c h. number_is (parent_of ns c) m (omega (arith, s.listed c m)))

-- a node that is d deep
abbrev pub At : List Node → ℕ → ℕ → Type 0
At ns d m = (m < length ns) × (length (path ns m) ≡ d)

pub children_at : (ns : List Node) (d m : ℕ) → IsSound ns → At ns d m → Each (At ns (suc d)) (children_of ns m)
children_at ns d m s h =
    Each-map _ _ (λ c e.
    let b = parent-inside ns c m e in
    (b, ap length (path-step ns s c m b e) ∙ ap suc h.1)) (children_of ns m) (children_each ns m s)

trees_by-same : (f g : ℕ → NumberTrees) (ms : List ℕ) → Each (λ m. f m ≡ g m) ms → trees_by f ms ≡ trees_by g ms
trees_by-same f g [] h = refl
trees_by-same f g (m ∷ ms) h = let i = trees_by-same f g ms h.1 in let j = h.0 in cc

pub levels-same : (ns : List Node) (s : IsSound ns) (k j d : ℕ) (ms : List ℕ) → Each (At ns d) ms → length ns < d + k → length ns < d + j → levels ns k ms ≡ levels ns j ms
unfolding levels
levels-same ns s zero zero d ms h a b = refl
levels-same ns s zero (suc j) d [] h a b = refl
levels-same ns s zero (suc j) d (m ∷ ms) h a b = absurd (let i = up-short ns (length ns) m in omega (arith, h.0.1))
levels-same ns s (suc k) zero d [] h a b = refl
levels-same ns s (suc k) zero d (m ∷ ms) h a b = absurd (let i = up-short ns (length ns) m in omega (arith, h.0.1))
levels-same ns s (suc k) (suc j) d ms h a b =
    trees_by-same _ _ ms (Each-map (At ns d) _ (λ m i. levels-same ns s k j (suc d) (children_of ns m) (children_at ns d m s i) (omega arith) (omega arith)) ms h)

path_pos : (ns : List Node) (m : ℕ) → m < length ns → 0 < length (path ns m)
path_pos [] m b = absurd (omega arith)
path_pos (x ∷ xs) m b = omega arith

levels-none : (ns : List Node) (k : ℕ) → levels ns k [] ≡ no_trees
unfolding levels
levels-none ns zero = refl
levels-none ns (suc k) = refl

levels-more : (ns : List Node) (s : IsSound ns) (k m : ℕ) (ms : List ℕ) → length ns ≡ k → m < length ns → levels ns k (m ∷ ms) ≡ tree m (levels ns k (children_of ns m)) (levels ns k ms)
unfolding levels
levels-more ns s zero m ms e b = absurd (omega arith)
levels-more ns s (suc k) m ms e b =
    let pos : 0 < length (path ns m) = path_pos ns m b in
    let i = levels-same ns s k (suc k) (suc (length (path ns m))) (children_of ns m) (children_at ns (length (path ns m)) m s (b, refl)) (omega arith) (omega arith) in
    ap (λ t. tree m t (trees_by (λ q. levels ns k (children_of ns q)) ms)) i

-- a tree with the trees of its children, and then the rest
pub number_trees-more : (ns : List Node) (s : IsSound ns) (m : ℕ) (ms : List ℕ) → m < length ns → number_trees ns (m ∷ ms) ≡ tree m (number_trees ns (children_of ns m)) (number_trees ns ms)
unfolding number_trees
number_trees-more ns s m ms b = levels-more ns s (length ns) m ms refl b

pub number_trees-none : (ns : List Node) → number_trees ns [] ≡ no_trees
unfolding number_trees
number_trees-none ns = levels-none ns (length ns)
