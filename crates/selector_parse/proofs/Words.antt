-- The number that words hold, word by word.
use Rattle.std.proofs.Common.{◌∷◌, [], Less, Equal, Greater, sym, ◌-◌, ℕ, zero, suc, ◌≡◌, ◌<◌, ◌≤◌, ◌+◌, ◌*◌, ◌^◌, List, get_or, set, refl, ap, ◌∙◌, arith, add-one, pow-suc, eq-or-lt_of_le, inl, inr, mul-le-mul_right, get_or-set_same, get_or-set_other, length}
use Rattle.std.proofs.Math.Nat.{one-le-pow, pow-le-pow_right}
use Rattle.std.proofs.lemmas.Bool.{cases_lt, cases_order}
use Rattle.std.specs.Ordering.{nat_cmp}
use Rattle.std.specs.Cmp.{nat_cmp_is}
use Rattle.selector_parse.specs.Wide.{weight, value}

pub value-zero : (xs : List ℕ) → value xs 0 ≡ 0
unfolding value
value-zero xs = refl

pub value-suc : (xs : List ℕ) (i : ℕ) → value xs (i + 1) ≡ value xs i + get_or xs i 0 * weight i
unfolding value
value-suc xs i = rw add-one

pub weight-zero : weight 0 ≡ 1
unfolding weight
weight-zero = refl

pub weight-suc : (i : ℕ) → weight (i + 1) ≡ weight i * 2 ^ 64
unfolding weight
weight-suc i = rw add-one (pow-suc (2 ^ 64) i)

value_same : (xs ys : List ℕ) (n : ℕ) → ((i : ℕ) → i < n → get_or xs i 0 ≡ get_or ys i 0) → value xs n ≡ value ys n
unfolding value
value_same xs ys zero h = refl
value_same xs ys (suc n) h = λ j. value_same xs ys n (λ i l. h i (omega arith)) j + h n (omega arith) j * weight n

pub value-set : (xs : List ℕ) (i v : ℕ) → i < length xs → value (set xs i v) (i + 1) ≡ value xs i + v * weight i
value-set xs i v h =
    value-suc (set xs i v) i
    ∙ (λ j. value_same (set xs i v) xs i (λ k l. get_or-set_other xs i k v 0 (λ e. omega arith)) j + get_or-set_same xs i v 0 h j * weight i)

pub value-lt : (xs : List ℕ) (n : ℕ) → ((i : ℕ) → get_or xs i 0 < 2 ^ 64) → value xs n < weight n
unfolding value weight
value-lt xs zero h = omega arith
value-lt xs (suc n) h = omega (arith, value-lt xs n h, pow-suc (2 ^ 64) n, mul-le-mul_right (weight n) (h n))

-- what is above a place adds the same
pub value_above : (xs ys zs : List ℕ) (n m : ℕ) → ((k : ℕ) → n ≤ k → get_or xs k 0 ≡ get_or ys k 0) → ((k : ℕ) → n ≤ k → get_or zs k 0 ≡ 0)
    → n ≤ m → value xs n ≡ value ys n + value zs n → value xs m ≡ value ys m + value zs m
value_above xs ys zs n zero s z l e = let k : n ≡ 0 = omega arith in rw k at e
value_above xs ys zs n (suc m) s z l e = elim (eq-or-lt_of_le l) [
  | inl k ↦ rw k at e
  | inr k ↦ let w = value_above xs ys zs n m s z (omega arith) e in
      let a = value-suc xs m in let b = value-suc ys m in let c = value-suc zs m in
      let d = ap (λ x. x * weight m) (s m (omega arith)) in let f = ap (λ x. x * weight m) (z m (omega arith)) in
      rw (← add-one) (omega arith)
]

-- one word's step of a sum
pub add_step : (done carry x y w old other sum over : ℕ) → done + carry * w ≡ old + other → sum + over * 2 ^ 64 ≡ x + y + carry
    → done + sum * w + over * (w * 2 ^ 64) ≡ old + x * w + (other + y * w)
add_step done carry x y w old other sum over h e = omega (arith, ap (λ t. t * w) e)

-- the upper word decides, where it differs
pub cmp_same : (v u x y w : ℕ) → x ≡ y → nat_cmp v u ≡ nat_cmp (v + x * w) (u + y * w)
cmp_same v u x y w e =
    let f : x * w ≡ y * w = ap (λ z. z * w) e in
    elim (cases_order v u) [
      | inl k ↦ sym (nat_cmp_is v u Equal k) ∙ nat_cmp_is (v + x * w) (u + y * w) Equal (omega arith)
      | inr (inl k) ↦ sym (nat_cmp_is v u Less k) ∙ nat_cmp_is (v + x * w) (u + y * w) Less (omega arith)
      | inr (inr k) ↦ sym (nat_cmp_is v u Greater k) ∙ nat_cmp_is (v + x * w) (u + y * w) Greater (omega arith)
    ]

upper : (v u x y w : ℕ) → v < w → x < y → v + x * w < u + y * w
upper v u x y w l h = omega (arith, mul-le-mul_right {m = x + 1} {n = y} w (omega arith))

pub cmp_step : (v u x y w : ℕ) → v < w → u < w → (x ≡ y → ⊥) → nat_cmp x y ≡ nat_cmp (v + x * w) (u + y * w)
cmp_step v u x y w l m n = elim (cases_order x y) [
  | inl k ↦ absurd (n k)
  | inr (inl k) ↦ sym (nat_cmp_is x y Less k) ∙ nat_cmp_is (v + x * w) (u + y * w) Less (upper v u x y w l k)
  | inr (inr k) ↦ sym (nat_cmp_is x y Greater k) ∙ nat_cmp_is (v + x * w) (u + y * w) Greater (upper u v y x w m k)
]

-- each word counts
pub value_word : (xs : List ℕ) (i n : ℕ) → i < n → get_or xs i 0 * weight i ≤ value xs n
unfolding value
value_word xs i zero l = absurd (omega arith)
value_word xs i (suc n) l = elim (cases_lt i n) [
  | inl k ↦ let h = value_word xs i n k in omega arith
  | inr k ↦ let e : i ≡ n = omega arith in rw e (omega arith)
]

pub weight_pos : (i : ℕ) → 0 < weight i
unfolding weight
weight_pos i = one-le-pow i (2 ^ 64) (omega arith)

pub weight_large : (i : ℕ) → 0 < i → 2 ^ 64 ≤ weight i
weight_large i l =
    let e : (i - 1) + 1 ≡ i = omega arith in
    omega (arith, rw e at (weight-suc (i - 1)), mul-le-mul_right {m = 1} {n = weight (i - 1)} (2 ^ 64) (weight_pos (i - 1)))

pub weight_mono : (i j : ℕ) → i ≤ j → weight i ≤ weight j
unfolding weight
weight_mono i j l = pow-le-pow_right (omega arith) l

pub value_one : value (1 ∷ []) 101 ≡ 1
unfolding value weight
value_one = refl
