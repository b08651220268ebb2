-- The digits of a number.
use Rattle.std.proofs.Common.{◌≡◌, ℕ, zero, suc, ◌+◌, ◌/◌, ◌%◌, ◌^◌, ◌<◌, ◌≤◌, Bool, true, false, nat_lt, List, [], ◌∷◌, ◌++◌, map, refl, sym, ap, ◌∙◌, arith, append_assoc, if◌then◌else◌, subst, lit<}
use Rattle.std.proofs.lemmas.Grind.{common_steps}
use Rattle.std.proofs.Math.Nat.{pow-suc, div-lt_iff_lt-mul}
use Rattle.source_map.specs.Vlq.{digits, digit_code, number_text}

-- one digit more is never needed
more_by : (b : Bool) (k n : ℕ) → nat_lt n 32 ≡ b → digits (suc k) (n / 32) ≡ digits k (n / 32) → (if nat_lt n 32 then n ∷ [] else (n % 32 + 32) ∷ digits (suc k) (n / 32)) ≡ (if nat_lt n 32 then n ∷ [] else (n % 32 + 32) ∷ digits k (n / 32))
more_by true k n e h = rw e refl
more_by false k n e h = rw e (ap (λ ds. (n % 32 + 32) ∷ ds) h)

small_by : (n : ℕ) → n < 32 → nat_lt n 32 ≡ true
small_by n h = grind (arith, common_steps)

part_small : (k n : ℕ) → n < 32 ^ suc (suc k) → n / 32 < 32 ^ suc k
part_small k n h = (div-lt_iff_lt-mul {x = n} {y = 32 ^ suc k} (lit< tt)).1 (subst (λ x. n < x) (pow-suc 32 (suc k)) h)

pub more_digits : (k n : ℕ) → n < 32 ^ suc k → digits (suc (suc k)) n ≡ digits (suc k) n
unfolding digits
more_digits zero n h = rw (small_by n (omega (arith, h))) refl
more_digits (suc k) n h = more_by (nat_lt n 32) (suc k) n refl (more_digits k (n / 32) (part_small k n h))

large_by : (n : ℕ) → 32 ≤ n → nat_lt n 32 ≡ false
large_by n h = grind (arith, common_steps)

-- the first digit of a number that has more
pub first_digit : (n : ℕ) → 32 ≤ n → n < 2 ^ 35 → number_text n ≡ digit_code (n % 32 + 32) ∷ number_text (n / 32)
unfolding digits
first_digit n h f = rw (large_by n h) (ap (λ ds. digit_code (n % 32 + 32) ∷ map digit_code ds) (sym (more_digits 5 (n / 32) (omega arith))))

pub only_digit : (n : ℕ) → n < 32 → number_text n ≡ digit_code n ∷ []
unfolding digits
only_digit n h = rw (small_by n h) refl

-- texts that are pushed digit by digit
pub pushed_digit : (before now after : List ℕ) (n : ℕ) → 32 ≤ n → n < 2 ^ 35 → now ≡ before ++ digit_code (n % 32 + 32) ∷ [] → before ++ number_text n ≡ after → now ++ number_text (n / 32) ≡ after
pushed_digit before now after n h f e s = ap (λ x. x ++ number_text (n / 32)) e ∙ append_assoc before (digit_code (n % 32 + 32) ∷ []) (number_text (n / 32)) ∙ ap (λ x. before ++ x) (sym (first_digit n h f)) ∙ s

pub pushed_last : (before now after : List ℕ) (n : ℕ) → n < 32 → now ≡ before ++ digit_code n ∷ [] → before ++ number_text n ≡ after → now ≡ after
pushed_last before now after n h e s = e ∙ ap (λ x. before ++ x) (sym (only_digit n h)) ∙ s
