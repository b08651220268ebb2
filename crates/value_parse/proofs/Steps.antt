-- The scan of a Word, step by step.
use Rattle.std.proofs.Common.{◌≡◌, ℕ, suc, ◌+◌, ◌<◌, ◌≤◌, Bool, true, false, cond, eqb, List, length, get_or, drop, refl, inl, inr, add_assoc, arith}
use Rattle.std.proofs.lemmas.Bool.{lt-ltb, le-ltb, cases_Bool, cases_lt}
use Rattle.std.proofs.lemmas.Bool.Decides.{nat_tests}
use Rattle.std.proofs.lemmas.List.{at_drop_more, at_drop_all}
use Rattle.css_text.specs.Forms.{unit_end}
use Rattle.css_text.specs.ValueParts.{ends_value, value_len}

pub value_len-at : (s : List ℕ) (i : ℕ) → i < length s → value_len false (drop i s)
    ≡ cond (ends_value (get_or s i 0)) 0 (suc (value_len (eqb (get_or s i 0) 92) (drop (i + 1) s)))
value_len-at s i h = at_drop_more (value_len false) s i 0 h

value_len-hidden : (s : List ℕ) (i : ℕ) → i < length s → value_len true (drop i s) ≡ suc (value_len false (drop (i + 1) s))
value_len-hidden s i h = at_drop_more (value_len true) s i 0 h

pub value_len-end : (b : Bool) (s : List ℕ) (i : ℕ) → length s ≤ i → value_len b (drop i s) ≡ 0
value_len-end b s i h = at_drop_all (value_len b) s i h

-- what the unit at the place i, if it ends no Word, is followed by
pub value_len-next : (s : List ℕ) (i : ℕ) → i < length s → (i + 1) + value_len (eqb (get_or s i 0) 92) (drop (i + 1) s) ≡ unit_end s i + value_len false (drop (unit_end s i) s)
unfolding unit_end
value_len-next s i h = elim (cases_Bool (eqb (get_or s i 0) 92)) [
  | inl e ↦ elim (cases_lt (i + 1) (length s)) [
    | inl k ↦ rw (e, lt-ltb (i + 1) (length s) k, value_len-hidden s (i + 1) k) (simp add_assoc (omega arith))
    | inr k ↦ rw (e, le-ltb (i + 1) (length s) k, value_len-end true s (i + 1) k, value_len-end false s (i + 1) k) refl
  ]
  | inr e ↦ rw e refl
]

pub ruleset word_steps = (value_len-at, value_len-next, value_len-end, nat_tests)
