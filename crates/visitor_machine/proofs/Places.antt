-- What stands behind a place of a list, after an insertion and a removal.
use Rattle.std.proofs.Common.{◌⊎◌, inl, inr, ◌≡◌, ℕ, zero, suc, ◌+◌, ◌<◌, List, [], ◌∷◌, Bool, true, false, length, refl, ap, sym, ◌∙◌, arith, eqb, drop, cond, eq-eqb, count_by, Some, get_or}
use Rattle.std.specs.List.{position_or_len}
use Rattle.std.specs.Prelude.{not}
use Rattle.std.proofs.lemmas.Bool.{false≢true}
use Rattle.std.proofs.lemmas.List.Sums.{sum_by-cons}
use Rattle.std.proofs.Math.Numerals.{one-add}
use Rattle.node_rows.specs.Nodes.{Node, parent_of, children_of}
use Rattle.node_rows.specs.Sound.{IsSound}
use Rattle.node_rows.proofs.Climb.{same_from_eqb}
use Rattle.node_rows.proofs.Edits.{one_if, none_if}
use Rattle.visitor_machine.proofs.Members.{Mem}

pub drop_nil : {A : Type 0} (k : ℕ) → drop {A = A} k [] ≡ []
drop_nil zero = refl
drop_nil (suc k) = refl

-- the place of a member
pub record Placed (n : ℕ) (xs : List ℕ) (at : ℕ) : Type 0 where
  pub inside : at < length xs
  pub holds_it : (d : ℕ) → get_or xs at d ≡ n

placed_by : (n x : ℕ) (xs : List ℕ) (b : Bool) → eqb n x ≡ b → ((n ≡ x) ⊎ Mem n xs) → (Mem n xs → Placed n xs (position_or_len (eqb n) xs)) → Placed n (x ∷ xs) (cond (not b) (1 + position_or_len (eqb n) xs) 0)
placed_by n x xs true e h f = record { inside = omega arith; holds_it = λ d. sym (same_from_eqb n x e) }
placed_by n x xs false e (inl i) f = absurd (false≢true (sym e ∙ eq-eqb n x i))
placed_by n x xs false e (inr j) f = let g = f j in record { inside = omega (arith, g.inside); holds_it = λ d. ap (λ k. get_or (x ∷ xs) k d) (one-add (position_or_len (eqb n) xs)) ∙ g.holds_it d }

pub placed : (n : ℕ) (xs : List ℕ) → Mem n xs → Placed n xs (position_or_len (eqb n) xs)
placed n [] h = absurd h
placed n (x ∷ xs) h = placed_by n x xs (eqb n x) refl h (placed n xs)

counted_by : (m x : ℕ) (xs : List ℕ) (b : Bool) → eqb m x ≡ b → 0 < count_by (eqb m) (x ∷ xs) → (0 < count_by (eqb m) xs → Mem m xs) → (m ≡ x) ⊎ Mem m xs
counted_by m x xs true e h f = inl (same_from_eqb m x e)
counted_by m x xs false e h f = inr (f (omega (arith, sum_by-cons (λ y. cond (eqb m y) 1 0) x xs, none_if e)))

pub mem_from_count : (m : ℕ) (xs : List ℕ) → 0 < count_by (eqb m) xs → Mem m xs
mem_from_count m [] h = absurd (omega arith)
mem_from_count m (x ∷ xs) h = counted_by m x xs (eqb m x) refl h (mem_from_count m xs)

-- a node is among its parent's children
pub child_mem : (ns : List Node) (c p : ℕ) → IsSound ns → parent_of ns c ≡ Some p → Mem c (children_of ns p)
child_mem ns c p s e =
    let one : count_by (eqb c) (children_of ns p) ≡ 1 = s.listed c p ∙ rw e (one_if (eq-eqb p p refl)) in
    mem_from_count c (children_of ns p) (omega arith)
