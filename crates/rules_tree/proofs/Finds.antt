-- The first number that passes a test.
use Rattle.std.proofs.Common.{◌≡◌, ℕ, zero, suc, ◌+◌, ◌-◌, ◌<◌, ◌≤◌, List, [], ◌∷◌, ◌++◌, Bool, true, false, Some, None, refl, ap, sym, ◌∙◌, subst, arith, cond}
use Rattle.std.specs.Prelude.{Option, ◌||◌, nat_lt, if◌then◌else◌}
use Rattle.std.specs.List.{list_any, find, range_with_len}
use Rattle.std.specs.Option.{option_or}
use Rattle.std.proofs.lemmas.Bool.{false≢true}
use Rattle.std.proofs.lemmas.Bool.Decides.{nat_tests}
use Rattle.std.proofs.lemmas.List.Folds.{find-append}
use Rattle.rule_sites.proofs.Numbers.{range-append}
use Rattle.rules_tree.specs.FirstUses.{is_before}

pub lt_true : (k n : ℕ) → k < n → nat_lt k n ≡ true
lt_true k n h = grind (arith, nat_tests)

pub lt_false : (k n : ℕ) → n ≤ k → nat_lt k n ≡ false
lt_false k n h = grind (arith, nat_tests)

-- what was found, if it stands before n
abbrev pub only_before : ℕ → Option ℕ → Option ℕ
only_before n None = None
only_before n (Some k) = if nat_lt k n then Some k else None

module _ (q : ℕ → Bool) where
  lower_by : (v : Bool) (b a l : ℕ) → q a ≡ v → b ≤ a → is_before b (find q (range_with_len (a + 1) l)) ≡ false → is_before b (find q (range_with_len a (suc l))) ≡ false
  lower_by true b a l e h k = ap (λ v. is_before b (cond v (Some a) (find q (range_with_len (a + 1) l)))) e ∙ lt_false a b h
  lower_by false b a l e h k = ap (λ v. is_before b (cond v (Some a) (find q (range_with_len (a + 1) l)))) e ∙ k

  none_lower : (b a l : ℕ) → b ≤ a → is_before b (find q (range_with_len a l)) ≡ false
  none_lower b a zero h = refl
  none_lower b a (suc l) h = lower_by (q a) b a l refl h (none_lower b (a + 1) l (omega arith))

  by_first : (v : Bool) (a l j : ℕ) → q a ≡ v → list_any q (range_with_len (a + 1) j) ≡ is_before (a + 1 + j) (find q (range_with_len (a + 1) l)) → list_any q (range_with_len a (suc j)) ≡ is_before (a + suc j) (find q (range_with_len a (suc l)))
  by_first true a l j e h =
      ap (λ v. v || list_any q (range_with_len (a + 1) j)) e
      ∙ (sym (lt_true a (a + suc j) (omega arith)) ∙ sym (ap (λ v. is_before (a + suc j) (cond v (Some a) (find q (range_with_len (a + 1) l)))) e))
  by_first false a l j e h =
      let n : a + 1 + j ≡ a + suc j = omega arith in
      ap (λ v. v || list_any q (range_with_len (a + 1) j)) e
      ∙ (h ∙ (ap (λ k. is_before k (find q (range_with_len (a + 1) l))) n ∙ sym (ap (λ v. is_before (a + suc j) (cond v (Some a) (find q (range_with_len (a + 1) l)))) e)))

  from : (a l j : ℕ) → j ≤ l → list_any q (range_with_len a j) ≡ is_before (a + j) (find q (range_with_len a l))
  from a l zero h = sym (none_lower (a + 0) a l (omega arith))
  from a zero (suc j) h = absurd (omega arith)
  from a (suc l) (suc j) h = by_first (q a) a l j refl (from (a + 1) l j (omega arith))

  -- some number below n passes where the first that passes is below n
  pub any_below : (n total : ℕ) → n ≤ total → list_any q (range_with_len 0 n) ≡ is_before n (find q (range_with_len 0 total))
  any_below n total h = let e : 0 + n ≡ n = omega arith in from 0 total n h ∙ ap (λ k. is_before k (find q (range_with_len 0 total))) e

  bound_by : (v : Bool) (a l k : ℕ) → q a ≡ v → find q (range_with_len a (suc l)) ≡ Some k → (find q (range_with_len (a + 1) l) ≡ Some k → k < a + 1 + l) → k < a + suc l
  bound_by true a l k e h f = let s : Some a ≡ Some k = sym (ap (λ v. cond v (Some a) (find q (range_with_len (a + 1) l))) e) ∙ h in let w : a ≡ k = cc in omega arith
  bound_by false a l k e h f = let b : k < a + 1 + l = f (sym (ap (λ v. cond v (Some a) (find q (range_with_len (a + 1) l))) e) ∙ h) in omega arith

  bound : (a l k : ℕ) → find q (range_with_len a l) ≡ Some k → k < a + l
  bound a zero k h = cc
  bound a (suc l) k h = bound_by (q a) a l k refl h (bound (a + 1) l k)

  -- one number more
  more : (n : ℕ) → find q (range_with_len 0 (n + 1)) ≡ option_or (find q (range_with_len 0 n)) (cond (q n) (Some n) None)
  more n =
      let z : 0 + n ≡ n = omega arith in
      ap (find q) (range-append 0 n 1) ∙ (find-append q (range_with_len 0 n) (range_with_len (0 + n) 1) ∙ ap (λ m. option_or (find q (range_with_len 0 n)) (cond (q m) (Some m) None)) z)

  pub passed : (n : ℕ) → q n ≡ false → find q (range_with_len 0 n) ≡ find q (range_with_len 0 (n + 1))
  passed n e = sym (more n ∙ (ap (λ v. option_or (find q (range_with_len 0 n)) (cond v (Some n) None)) e ∙ or_none (find q (range_with_len 0 n)))) where
    or_none : (o : Option ℕ) → option_or o None ≡ o
    or_none None = refl
    or_none (Some k) = refl

  pub kept : (n k : ℕ) → find q (range_with_len 0 n) ≡ Some k → find q (range_with_len 0 n) ≡ find q (range_with_len 0 (n + 1))
  kept n k e = e ∙ sym (more n ∙ ap (λ o. option_or o (cond (q n) (Some n) None)) e)

  pub added : (n : ℕ) → find q (range_with_len 0 n) ≡ None → q n ≡ true → Some n ≡ find q (range_with_len 0 (n + 1))
  added n e h = sym (more n ∙ (ap (λ o. option_or o (cond (q n) (Some n) None)) e ∙ ap (λ v. cond v (Some n) None) h))

  same : (n k b : ℕ) → k < n → ((j : ℕ) → j ≤ n → nat_lt k j ≡ nat_lt b j) → (k ≡ b) × (nat_lt b n ≡ true)
  same n k b h e =
      let at_n : nat_lt b n ≡ true = sym (e n (omega arith)) ∙ lt_true k n h in
      let above : nat_lt b (k + 1) ≡ true = sym (e (k + 1) (omega arith)) ∙ lt_true k (k + 1) (omega arith) in
      let here : nat_lt b k ≡ false = sym (e k (omega arith)) ∙ lt_false k k (omega arith) in
      (grind (arith, nat_tests), at_n)

  by_both : (n : ℕ) (r best : Option ℕ) → ((k : ℕ) → r ≡ Some k → k < n) → ((j : ℕ) → j ≤ n → is_before j r ≡ is_before j best) → r ≡ only_before n best
  by_both n None None b e = refl
  by_both n None (Some m) b e = sym (ap (λ v. if v then Some m else None) (sym (e n (omega arith))))
  by_both n (Some k) None b e = absurd (false≢true (sym (e n (omega arith)) ∙ lt_true k n (b k refl)))
  by_both n (Some k) (Some m) b e = let w = same n k m (b k refl) e in ap Some w.0 ∙ sym (ap (λ v. if v then Some m else None) w.1)

  -- the first is known by the numbers that it stands before
  pub first_is : (n : ℕ) (best : Option ℕ) → ((j : ℕ) → j ≤ n → list_any q (range_with_len 0 j) ≡ is_before j best) → find q (range_with_len 0 n) ≡ only_before n best
  first_is n best e =
      let z : 0 + n ≡ n = omega arith in
      by_both n (find q (range_with_len 0 n)) best (λ k h. subst (λ m. k < m) z (bound 0 n k h)) (λ j h. sym (any_below j n h) ∙ e j h)
