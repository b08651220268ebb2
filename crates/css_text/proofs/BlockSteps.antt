-- Units of a front of bytes.
use Rattle.std.proofs.Common.{◌≡◌, ℕ, ◌+◌, ◌-◌, ◌*◌, ◌<◌, ◌≤◌, List, [], ◌∷◌, ◌++◌, length, get_or, take, drop, refl, ap, sym, ◌∙◌, subst, inl, inr, arith, length-append}
use Rattle.std.specs.Prelude.{sum_by}
use Rattle.std.proofs.lemmas.Bool.{cases_lt}
use Rattle.std.proofs.lemmas.List.{take-append-drop, take-take, drop-take, get_or_append_left, get_or_push}
use Rattle.std.proofs.lemmas.List.Sums.{sum_by-append}
use Rattle.css_text.specs.Lines.{byte_units}
use Rattle.css_text.specs.Blocks.{CountsUnits}

pub take_split : (bs : List ℕ) (n m : ℕ) → take (n + m) bs ≡ take n bs ++ take m (drop n bs)
take_split bs n m = sym (take-append-drop n (take (n + m) bs)) ∙ ap (λ x. x ++ drop n (take (n + m) bs)) (take-take n (n + m) bs (omega arith)) ∙ ap (λ x. take n bs ++ x) (drop-take n m bs)

parts : (from to : ℕ) → from ≤ to → to ≡ from + (to - from)
parts from to h = omega arith

pub units_split : (bs : List ℕ) (from to : ℕ) → from ≤ to → sum_by byte_units (take to bs) ≡ sum_by byte_units (take from bs) + sum_by byte_units (take (to - from) (drop from bs))
units_split bs from to h = ap (λ n. sum_by byte_units (take n bs)) (parts from to h) ∙ ap (sum_by byte_units) (take_split bs from (to - from)) ∙ sum_by-append byte_units (take from bs) (take (to - from) (drop from bs))

push_each : (table bs : List ℕ) (n : ℕ) → CountsUnits table bs → n ≡ sum_by byte_units (take (length table * 256) bs) → (k : ℕ) → k < length (table ++ n ∷ []) → get_or (table ++ n ∷ []) k 0 ≡ sum_by byte_units (take (k * 256) bs)
push_each table bs n h e k l = elim (cases_lt k (length table)) [
  | inl j ↦ get_or_append_left table (n ∷ []) 0 k j ∙ h.each k j
  | inr j ↦ let i : k ≡ length table = omega (arith, length-append table (n ∷ [])) in get_or_push table n 0 k (sym i) ∙ e ∙ ap (λ m. sum_by byte_units (take (m * 256) bs)) (sym i)
]

push_small : (table bs : List ℕ) (n : ℕ) → CountsUnits table bs → n ≤ 2 * length bs → (k : ℕ) → k < length (table ++ n ∷ []) → get_or (table ++ n ∷ []) k 0 ≤ 2 * length bs
push_small table bs n h e k l = elim (cases_lt k (length table)) [
  | inl j ↦ rw (get_or_append_left table (n ∷ []) 0 k j) (h.small k j)
  | inr j ↦ let i : k ≡ length table = omega (arith, length-append table (n ∷ [])) in rw (get_or_push table n 0 k (sym i)) e
]

pub CountsUnits-push : (table bs new : List ℕ) (n : ℕ) → CountsUnits table bs → new ≡ table ++ n ∷ [] → n ≡ sum_by byte_units (take (length table * 256) bs) → n ≤ 2 * length bs → CountsUnits new bs
CountsUnits-push table bs new n h g e s = subst (λ x. CountsUnits x bs) (sym g) (record { each = push_each table bs n h e; small = push_small table bs n h s })

pub CountsUnits-first : (bs new : List ℕ) → new ≡ [] ++ 0 ∷ [] → CountsUnits new bs
CountsUnits-first bs new g = CountsUnits-push [] bs new 0 (record { each = λ k l. absurd (omega arith); small = λ k l. absurd (omega arith) }) g refl (omega arith)
