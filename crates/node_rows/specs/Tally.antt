-- The count of a node's children and its mark, kept as one number.
use Rattle.std.specs.Prelude.{◌≡◌, ℕ, ◌+◌, ◌-◌, ◌*◌, ◌/◌, ◌%◌, ◌<◌, Bool, if◌then◌else◌, nat_eq, refl}
use Rattle.std.proofs.Common.{◌⊎◌, inl, inr, ◌∙◌, sym, subst}
use Rattle.std.proofs.Math.Arith.{lt-one}
use Rattle.std.proofs.Math.Nat.{eq-or-lt_of_le, le-pred_of_lt, zero-lt-suc}
use Rattle.std.proofs.lemmas.Nat.{div-add-mod', mod_below}

-- how many children a node has, and whether it is marked dirty
pub record CountAndMark : Type 0 where
  pub count : ℕ
  pub dirty : Bool

-- what the number stands for: its half is the count, and an odd one is dirty
abbrev pub tally_of : ℕ → CountAndMark
tally_of n = record { count = n / 2; dirty = nat_eq (n % 2) 1 }

-- the number that stands for it
abbrev pub bits_of : CountAndMark → ℕ
bits_of t = t.count * 2 + (if t.dirty then 1 else 0)

with_rest : (half rest : ℕ) → (rest ≡ 1) ⊎ (rest < 1) → half * 2 + (if nat_eq rest 1 then 1 else 0) ≡ half * 2 + rest
with_rest half rest (inl e) = subst (λ r. half * 2 + (if nat_eq r 1 then 1 else 0) ≡ half * 2 + r) (sym e) refl
with_rest half rest (inr h) = subst (λ r. half * 2 + (if nat_eq r 1 then 1 else 0) ≡ half * 2 + r) (sym (lt-one h)) refl

-- the count and the mark give the number back
pub bits_of-tally_of : (n : ℕ) → bits_of (tally_of n) ≡ n
bits_of-tally_of n = with_rest (n / 2) (n % 2) (eq-or-lt_of_le (le-pred_of_lt (mod_below n 2 (zero-lt-suc 1)))) ∙ div-add-mod' n 2

-- one child more
abbrev pub one_more : CountAndMark → CountAndMark
one_more t = record t { count = t.count + 1 }

-- one child less
abbrev pub one_less : CountAndMark → CountAndMark
one_less t = record t { count = t.count - 1 }

-- with that mark
abbrev pub marked_as : CountAndMark → Bool → CountAndMark
marked_as t dirty = record t { dirty = dirty }
