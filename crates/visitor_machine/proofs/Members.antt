-- Members of lists.
use Rattle.std.proofs.Common.{◌⊎◌, inl, inr, ◌≡◌, ℕ, zero, suc, ◌<◌, List, [], ◌∷◌, Bool, true, false, refl, ap, sym, ◌∙◌, arith, eqb, cond, eq-eqb}
use Rattle.std.specs.List.{list_any}
use Rattle.std.proofs.lemmas.Bool.{false≢true}
use Rattle.node_rows.proofs.Climb.{or_cases, same_from_eqb}
use Rattle.visitor_machine.proofs.Above.{or_left, or_right}

abbrev pub Mem : {A : Type 0} → A → List A → Type 0
Mem x [] = ⊥
Mem x (y ∷ ys) = (x ≡ y) ⊎ Mem x ys

pub mem_from_any : (m : ℕ) (xs : List ℕ) → list_any (eqb m) xs ≡ true → Mem m xs
mem_from_any m [] h = absurd (false≢true h)
mem_from_any m (x ∷ xs) h = elim (or_cases (eqb m x) (list_any (eqb m) xs) h) [ inl t ↦ inl (same_from_eqb m x t) | inr f ↦ inr (mem_from_any m xs f) ]

pub any_from_mem : (m : ℕ) (xs : List ℕ) → Mem m xs → list_any (eqb m) xs ≡ true
any_from_mem m [] h = absurd h
any_from_mem m (x ∷ xs) (inl e) = or_left (eqb m x) _ (eq-eqb m x e)
any_from_mem m (x ∷ xs) (inr f) = or_right (eqb m x) _ (any_from_mem m xs f)
