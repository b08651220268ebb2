-- Parts of bytes by a test of each.
use Rattle.std.proofs.Common.{◌≡◌, ℕ, suc, ◌+◌, ◌-◌, ◌<◌, ◌≤◌, Bool, true, false, cond, List, [], ◌∷◌, ◌++◌, length, take, drop, get_or, refl, ap, sym, ◌∙◌, subst, inl, inr, arith, true≢false}
use Rattle.std.specs.List.{prefix_len}
use Rattle.std.proofs.Math.Seq.{take-add, take-length}
use Rattle.std.proofs.lemmas.List.{at_drop_more, drop-drop, take-append-drop, length-drop, length-take-le, get_or-drop}
use Rattle.std.proofs.lemmas.List.Sums.{prefix_len_stops}
use Rattle.std.proofs.lemmas.Bool.{cases_lt}
use Rattle.css_text.specs.Shared.{part}
use Rattle.css_tree.specs.Classes.{Each, BeginsWithout, EndsWithout}

-- Parts.

back : (a b : ℕ) → a ≤ b → a + (b - a) ≡ b
back a b h = omega arith

pub part-all : (bs : List ℕ) (a b : ℕ) → a ≤ b → drop a bs ≡ part bs a b ++ drop b bs
part-all bs a b h = sym (take-append-drop (b - a) (drop a bs)) ∙ ap (λ z. part bs a b ++ z) (drop-drop (b - a) a bs ∙ ap (λ k. drop k bs) (back a b h))

pub part-length : (bs : List ℕ) (a b : ℕ) → a ≤ b → b ≤ length bs → length (part bs a b) ≡ b - a
part-length bs a b h k = length-take-le (b - a) (drop a bs) (rw (length-drop a bs) (omega arith))

pub drop-at : (bs : List ℕ) (i : ℕ) → i < length bs → drop i bs ≡ get_or bs i 0 ∷ drop (i + 1) bs
drop-at bs i h = at_drop_more (λ (x : List ℕ). x) bs i 0 h

more : (a b : ℕ) → a < b → b - a ≡ suc (b - (a + 1))
more a b h = omega arith

-- its first byte
pub part-begins : (bs : List ℕ) (a b : ℕ) → a < b → b ≤ length bs → part bs a b ≡ get_or bs a 0 ∷ part bs (a + 1) b
part-begins bs a b h k = ap (λ z. take z (drop a bs)) (more a b h) ∙ ap (take (suc (b - (a + 1)))) (drop-at bs a (omega arith))

pub part-split : (bs : List ℕ) (a b c : ℕ) → a ≤ b → b ≤ c → part bs a c ≡ part bs a b ++ part bs b c
part-split bs a b c h k =
    let e : c - a ≡ b - a + (c - b) = omega arith in
    ap (λ n. take n (drop a bs)) e ∙ (take-add (b - a) (c - b) (drop a bs) ∙ ap (λ z. part bs a b ++ take (c - b) z) (drop-drop (b - a) a bs ∙ ap (λ n. drop n bs) (back a b h)))

-- what follows a place, as code takes it
pub rest-from : (n : ℕ) (bs : List ℕ) → take (length bs - n) (drop n bs) ≡ drop n bs
rest-from n bs = ap (λ z. take z (drop n bs)) (sym (length-drop n bs)) ∙ take-length (drop n bs)

-- Classes.

pub each-front : (test : ℕ → Bool) (xs ys : List ℕ) → Each test (xs ++ ys) → Each test xs
each-front test [] ys h = tt
each-front test (x ∷ xs) ys h = (h.0, each-front test xs ys h.1)

pub each-back : (test : ℕ → Bool) (xs ys : List ℕ) → Each test (xs ++ ys) → Each test ys
each-back test [] ys h = h
each-back test (x ∷ xs) ys h = each-back test xs ys h.1

pub ends-snoc : {A : Type 0} (test : A → Bool) (xs : List A) (x : A) → test x ≡ false → EndsWithout test (xs ++ x ∷ [])
ends-snoc test [] x e = e
ends-snoc test (y ∷ []) x e = e
ends-snoc test (y ∷ z ∷ xs) x e = ends-snoc test (z ∷ xs) x e

prefix-by : (test : ℕ → Bool) (x : ℕ) (xs : List ℕ) (n : ℕ) (b : Bool) → test x ≡ b → Each test (take n xs) → Each test (take (cond b (1 + n) 0) (x ∷ xs))
prefix-by test x xs n false e h = tt
prefix-by test x xs n true e h =
    let k : suc n ≡ 1 + n = omega arith in
    subst (λ m. Each test (take m (x ∷ xs))) k (e, h)

each-prefix : (test : ℕ → Bool) (xs : List ℕ) → Each test (take (prefix_len test xs) xs)
each-prefix test [] = tt
each-prefix test (x ∷ xs) = prefix-by test x xs (prefix_len test xs) (test x) refl (each-prefix test xs)

less : (a n b : ℕ) → b ≡ a + n → b - a ≡ n
less a n b e = omega arith

-- a run that a scan has found
pub run-class : (test : ℕ → Bool) (bs : List ℕ) (a b : ℕ) → b ≡ a + prefix_len test (drop a bs) → Each test (part bs a b)
run-class test bs a b e = rw (less a (prefix_len test (drop a bs)) b e) (each-prefix test (drop a bs))

-- and the byte behind it
pub run-stops : (test : ℕ → Bool) (bs : List ℕ) (a b : ℕ) → b ≡ a + prefix_len test (drop a bs) → b < length bs → test (get_or bs b 0) ≡ false
run-stops test bs a b e h =
    let n = prefix_len test (drop a bs) in
    let l : n < length (drop a bs) = rw (length-drop a bs) (omega arith) in
    ap test (ap (λ k. get_or bs k 0) e ∙ sym (get_or-drop a bs n 0)) ∙ prefix_len_stops test (drop a bs) 0 l

-- one byte more before it
pub part-more : (test : ℕ → Bool) (bs : List ℕ) (a b : ℕ) → 0 < a → a ≤ b → b ≤ length bs → test (get_or bs (a - 1) 0) ≡ true → Each test (part bs a b) → Each test (part bs (a - 1) b)
part-more test bs a b l h k e c =
    let one : a - 1 + 1 ≡ a = omega arith in
    let all : part bs (a - 1) b ≡ get_or bs (a - 1) 0 ∷ part bs a b = part-begins bs (a - 1) b (omega arith) k ∙ ap (λ z. get_or bs (a - 1) 0 ∷ part bs z b) one in
    subst (Each test) (sym all) (e, c)

same-place : (a b : ℕ) → a < b → b - 1 ≤ a → b - 1 ≡ a
same-place a b h k = omega arith

-- where the byte before b passes and the one at a does not, that is another one
pub still-behind : (test : ℕ → Bool) (bs : List ℕ) (a b : ℕ) → a < b → test (get_or bs a 0) ≡ false → test (get_or bs (b - 1) 0) ≡ true → a < b - 1
still-behind test bs a b h e f = elim (cases_lt a (b - 1)) [
  | inl k ↦ k
  | inr k ↦ absurd (true≢false (sym f ∙ (ap (λ i. test (get_or bs i 0)) (same-place a b h k) ∙ e)))
]

none : (a : ℕ) → a - a ≡ 0
none a = omega arith

pub part-none : (test : ℕ → Bool) (bs : List ℕ) (a : ℕ) → Each test (part bs a a)
part-none test bs a = subst (λ n. Each test (take n (drop a bs))) (sym (none a)) tt

pub part-ends : (test : ℕ → Bool) (bs : List ℕ) (a b : ℕ) → a < b → b ≤ length bs → test (get_or bs (b - 1) 0) ≡ false → EndsWithout test (part bs a b)
part-ends test bs a b h k e =
    let one : b - 1 + 1 ≡ b = omega arith in
    let last : part bs (b - 1) b ≡ get_or bs (b - 1) 0 ∷ [] =
    part-begins bs (b - 1) b (omega arith) k ∙ ap (λ z. get_or bs (b - 1) 0 ∷ part bs z b) one ∙ ap (λ n. get_or bs (b - 1) 0 ∷ take n (drop b bs)) (none b) in
    let all : part bs a b ≡ part bs a (b - 1) ++ get_or bs (b - 1) 0 ∷ [] = part-split bs a (b - 1) b (omega arith) (omega arith) ∙ ap (λ z. part bs a (b - 1) ++ z) last in
    subst (EndsWithout test) (sym all) (ends-snoc test (part bs a (b - 1)) (get_or bs (b - 1) 0) e)

pub part-starts : (test : ℕ → Bool) (bs : List ℕ) (a b : ℕ) → a < b → b ≤ length bs → test (get_or bs a 0) ≡ false → BeginsWithout test (part bs a b)
part-starts test bs a b h k e = subst (BeginsWithout test) (sym (part-begins bs a b h k)) e

pub part-within : (test : ℕ → Bool) (bs : List ℕ) (a b c d : ℕ) → a ≤ b → b ≤ c → c ≤ d → Each test (part bs a d) → Each test (part bs b c)
part-within test bs a b c d h k l e =
    let x = each-back test (part bs a b) (part bs b d) (subst (Each test) (part-split bs a b d h (omega arith)) e) in
    each-front test (part bs b c) (part bs c d) (subst (Each test) (part-split bs b c d k l) x)
