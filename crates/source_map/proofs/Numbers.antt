-- The numbers of a slot, read one digit after another.
use Rattle.std.proofs.Common.{◌≡◌, ℕ, zero, suc, ◌+◌, ◌-◌, ◌*◌, ◌^◌, ◌<◌, ◌≤◌, ◌==◌, Bool, true, false, nat_le, nat_lt, List, [], ◌∷◌, ◌++◌, length, take, Option, Some, None, Result, Ok, Err, refl, sym, ap, ◌∙◌, arith, if◌then◌else◌, append_assoc, append-nil, lit≤}
use Rattle.std.proofs.lemmas.Grind.{common_steps}
use Rattle.std.proofs.lemmas.List.{take-append-le}
use Rattle.std.proofs.Math.Nat.{mul-add, add_assoc, mul_assoc}
use Rattle.source_map.specs.Vlq.{digit_of, numbers, numbers_by, with_number, with_low_digit}
use Rattle.source_map.specs.Answers.{first_six, with_sixth}

-- the first six numbers, of which these are read, and of the next one the value v below the weight w
abbrev pub continued : List ℕ → ℕ → ℕ → Result (List ℕ) ℕ → Result (List ℕ) ℕ
continued fs v w (Ok []) = Ok (take 6 fs)
continued fs v w (Ok (n ∷ ns)) = Ok (take 6 (fs ++ (v + w * n) ∷ ns))
continued fs v w (Err at) = Err at

low_by : (fs : List ℕ) (v w d : ℕ) (r : Result (List ℕ) ℕ) → continued fs v w (with_low_digit d r) ≡ continued fs (v + w * d) (w * 32) r
low_by fs v w d (Ok []) = refl
low_by fs v w d (Ok (n ∷ ns)) = ap (λ x. Ok (take 6 (fs ++ x ∷ ns))) (simp (mul-add, add_assoc, mul_assoc))
low_by fs v w d (Err at) = refl

-- numbers behind six read ones don't count
full : (fs xs : List ℕ) → 6 ≤ length fs → take 6 (fs ++ xs) ≡ take 6 fs
full fs xs h = take-append-le 6 fs xs h

kept_by : (b : Bool) (fs : List ℕ) (x : ℕ) (ns : List ℕ) → nat_lt (length fs) 6 ≡ b → take 6 ((if b then fs ++ x ∷ [] else fs) ++ ns) ≡ take 6 (fs ++ x ∷ ns)
kept_by true fs x ns h = ap (λ l. take 6 l) (append_assoc fs (x ∷ []) ns)
kept_by false fs x ns h = full fs ns (grind (arith, common_steps)) ∙ sym (full fs (x ∷ ns) (grind (arith, common_steps)))

kept : (fs : List ℕ) (x : ℕ) (ns : List ℕ) → take 6 (with_sixth fs x ++ ns) ≡ take 6 (fs ++ x ∷ ns)
kept fs x ns = kept_by (nat_lt (length fs) 6) fs x ns refl

last_by : (fs : List ℕ) (v w d : ℕ) (r : Result (List ℕ) ℕ) → continued fs v w (with_number d r) ≡ continued (with_sixth fs (v + w * d)) 0 1 r
last_by fs v w d (Ok []) = ap (λ l. Ok l) (sym (kept fs (v + w * d) []) ∙ simp append-nil)
last_by fs v w d (Ok (n ∷ ns)) = ap (λ l. Ok l) (sym (kept fs (v + w * d) (n ∷ ns)) ∙ ap (λ y. take 6 (with_sixth fs (v + w * d) ++ y ∷ ns)) (omega arith))
last_by fs v w d (Err at) = refl

seventh : (k : ℕ) → k < 7 → (k == 7) ≡ false
seventh k h = grind (arith, common_steps)

le-nat_le : (a b : ℕ) → a ≤ b → nat_le a b ≡ true
le-nat_le a b h = grind (arith, common_steps)

lt-nat_le : (d : ℕ) → d < 32 → nat_le 32 d ≡ false
lt-nat_le d h = grind (arith, common_steps)

pub low_step : (fs : List ℕ) (v w at k b d : ℕ) (cs : List ℕ) → digit_of b ≡ Some d → k < 7 → 32 ≤ d
    → continued fs v w (numbers at k (b ∷ cs)) ≡ continued fs (v + w * (d - 32)) (w * 32) (numbers (at + 1) (k + 1) cs)
unfolding numbers
low_step fs v w at k b d cs h few big =
    rw h (rw (seventh k few) (rw (le-nat_le 32 d big) (low_by fs v w (d - 32) (numbers (at + 1) (k + 1) cs))))

pub last_step : (fs : List ℕ) (v w at k b d : ℕ) (cs : List ℕ) → digit_of b ≡ Some d → k < 7 → d < 32
    → continued fs v w (numbers at k (b ∷ cs)) ≡ continued (with_sixth fs (v + w * d)) 0 1 (numbers (at + 1) 0 cs)
unfolding numbers
last_step fs v w at k b d cs h few small =
    rw h (rw (seventh k few) (rw (lt-nat_le d small) (last_by fs v w d (numbers (at + 1) 0 cs))))

stop_by : (o : Option ℕ) (at k : ℕ) (rest : ℕ → Result (List ℕ) ℕ) (b : Bool) → (k == 7) ≡ b → (if b then None else o) ≡ None → numbers_by o at k rest ≡ Err at
stop_by None at k rest b e h = refl
stop_by (Some d) at k rest true e h = rw e refl
stop_by (Some d) at k rest false e h = absurd (cc)

pub stop_step : (at k b : ℕ) (cs : List ℕ) → (if k == 7 then None else digit_of b) ≡ None → numbers at k (b ∷ cs) ≡ Err at
unfolding numbers
stop_step at k b cs h = stop_by (digit_of b) at k (λ n. numbers (at + 1) n cs) (k == 7) refl h

-- a fault of the first six is one of all
pub six_fault : (r : Result (List ℕ) ℕ) (at : ℕ) → first_six r ≡ Err at → r ≡ Err at
six_fault (Ok ns) at h = absurd (cc)
six_fault (Err e) at h = h

-- a digit of a number that has seven at most counts for 2 ^ 30 at most
pub weight_bound : (k : ℕ) → k < 7 → 32 ^ k ≤ 1073741824
weight_bound zero h = lit≤ tt
weight_bound (suc zero) h = lit≤ tt
weight_bound (suc (suc zero)) h = lit≤ tt
weight_bound (suc (suc (suc zero))) h = lit≤ tt
weight_bound (suc (suc (suc (suc zero)))) h = lit≤ tt
weight_bound (suc (suc (suc (suc (suc zero))))) h = lit≤ tt
weight_bound (suc (suc (suc (suc (suc (suc zero)))))) h = lit≤ tt
weight_bound (suc (suc (suc (suc (suc (suc (suc k))))))) h = absurd (omega arith)
