-- Segments of doubly linked numbers.
use Rattle.std.proofs.Common.{◌≡◌, ◌≢◌, ℕ, zero, suc, ◌≤◌, List, [], ◌∷◌, ◌++◌, length, Option, Some, None, refl, ap, sym, ◌∙◌, arith, eqb, false}
use Rattle.std.specs.List.{IsDistinct, AllByRecursion}
use Rattle.std.proofs.lemmas.Bool.{eqb-false, ne_eqb}
use Rattle.node_rows.specs.Segments.{along, Segment, end_of, start_of}

-- what the links are along a segment
pub along-segment : (next prev : ℕ → Option ℕ) (k : ℕ) (before first : Option ℕ) (xs : List ℕ) (last : Option ℕ) → length xs ≤ k → Segment next prev before first xs last None → along next k first ≡ xs
along-segment next prev zero before first [] last h s = refl
along-segment next prev zero before first (x ∷ xs) last h s = absurd (omega arith)
along-segment next prev (suc k) before first [] last h s = rw s.0 refl
along-segment next prev (suc k) before first (x ∷ xs) last h s = rw s.0 (ap (λ l. x ∷ l) (along-segment next prev k (Some x) (next x) xs last (omega arith) s.2))

-- a segment is read from its own links alone
pub SameOn : (f g : ℕ → Option ℕ) → List ℕ → Type 0
SameOn f g xs = AllByRecursion (λ x. g x ≡ f x) xs

pub segment-same : (next prev next' prev' : ℕ → Option ℕ) (before first : Option ℕ) (xs : List ℕ) (last behind : Option ℕ) → AllByRecursion (λ x. next' x ≡ next x) xs → AllByRecursion (λ x. prev' x ≡ prev x) xs → Segment next prev before first xs last behind → Segment next' prev' before first xs last behind
segment-same next prev next' prev' before first [] last behind a b s = s
segment-same next prev next' prev' before first (x ∷ xs) last behind a b s =
    (s.0, b.0 ∙ s.1, let t = segment-same next prev next' prev' (Some x) (next x) xs last behind a.1 b.1 s.2 in rw a.0 t)

pub segment-start : (next prev : ℕ → Option ℕ) (before first : Option ℕ) (xs : List ℕ) (last behind : Option ℕ) → Segment next prev before first xs last behind → first ≡ start_of xs behind
segment-start next prev before first [] last behind s = s.0
segment-start next prev before first (x ∷ xs) last behind s = s.0

pub segment-front : (next prev : ℕ → Option ℕ) (before first : Option ℕ) (xs ys : List ℕ) (last behind : Option ℕ) → Segment next prev before first (xs ++ ys) last behind → Segment next prev before first xs (end_of before xs) (start_of ys behind)
segment-front next prev before first [] ys last behind s = (segment-start next prev before first ys last behind s, refl)
segment-front next prev before first (x ∷ xs) ys last behind s = (s.0, s.1, segment-front next prev (Some x) (next x) xs ys last behind s.2)

pub segment-back : (next prev : ℕ → Option ℕ) (before first : Option ℕ) (xs ys : List ℕ) (last behind : Option ℕ) → Segment next prev before first (xs ++ ys) last behind → Segment next prev (end_of before xs) (start_of ys behind) ys last behind
segment-back next prev before first [] ys last behind s = rw (← segment-start next prev before first ys last behind s) s
segment-back next prev before first (x ∷ xs) ys last behind s = segment-back next prev (Some x) (next x) xs ys last behind s.2

pub segment-join : (next prev : ℕ → Option ℕ) (before first : Option ℕ) (xs ys : List ℕ) (mid last behind : Option ℕ) → Segment next prev before first xs (end_of before xs) mid → Segment next prev (end_of before xs) mid ys last behind → Segment next prev before first (xs ++ ys) last behind
segment-join next prev before first [] ys mid last behind s t = rw s.0 t
segment-join next prev before first (x ∷ xs) ys mid last behind s t = (s.0, s.1, segment-join next prev (Some x) (next x) xs ys mid last behind s.2 t)

-- a segment's last node
pub segment-last : (next prev : ℕ → Option ℕ) (before first : Option ℕ) (xs : List ℕ) (last behind : Option ℕ) → Segment next prev before first xs last behind → Segment next prev before first xs (end_of before xs) behind
segment-last next prev before first [] last behind s = (s.0, refl)
segment-last next prev before first (x ∷ xs) last behind s = (s.0, s.1, segment-last next prev (Some x) (next x) xs last behind s.2)

others_each : (prev prev' : ℕ → Option ℕ) (n y : ℕ) (ys : List ℕ) → ((z : ℕ) → eqb n z ≡ false → Some z ≢ Some y → prev' z ≡ prev z) → AllByRecursion (λ z. eqb n z ≡ false) ys → AllByRecursion (λ z. eqb y z ≡ false) ys → AllByRecursion (λ z. prev' z ≡ prev z) ys
others_each prev prev' n y [] k f d = tt
others_each prev prev' n y (z ∷ zs) k f d = (k z f.0 (λ e. eqb-false y z d.0 (let i : z ≡ y = cc in sym i)), others_each prev prev' n y zs k f.1 d.1)

not_end : (x y : ℕ) (ys : List ℕ) (b : Option ℕ) → AllByRecursion (λ z. eqb x z ≡ false) (y ∷ ys) → Some x ≢ end_of b (y ∷ ys)
not_end x y [] b d = λ e. eqb-false x y d.0 (let i : x ≡ y = cc in i)
not_end x y (z ∷ zs) b d = not_end x z zs (Some y) d.1

-- the same segment with another node behind it: only its last node's link differs
pub segment-ahead : (next prev next' prev' : ℕ → Option ℕ) (n : ℕ) (before : Option ℕ) (first : Option ℕ) (x : ℕ) (xs : List ℕ) (behind behind' : Option ℕ) → Segment next prev before first (x ∷ xs) (end_of before (x ∷ xs)) behind → AllByRecursion (λ y. eqb n y ≡ false) (x ∷ xs) → AllByRecursion (λ y. prev' y ≡ prev y) (x ∷ xs) → ((y : ℕ) → eqb n y ≡ false → Some y ≢ end_of before (x ∷ xs) → next' y ≡ next y) → ((y : ℕ) → eqb n y ≡ false → Some y ≡ end_of before (x ∷ xs) → next' y ≡ behind') → IsDistinct eqb (x ∷ xs) → Segment next' prev' before first (x ∷ xs) (end_of before (x ∷ xs)) behind'
unfolding IsDistinct
segment-ahead next prev next' prev' n before first x [] behind behind' s f a k e d = (s.0, a.0 ∙ s.1, (e x f.0 refl, refl))
segment-ahead next prev next' prev' n before first x (y ∷ ys) behind behind' s f a k e d =
    let i = segment-ahead next prev next' prev' n (Some x) (next x) y ys behind behind' s.2 f.1 a.1 k e d.1 in
    let off : Some x ≢ end_of (Some x) (y ∷ ys) = not_end x y ys (Some x) d.0 in
    (s.0, a.0 ∙ s.1, rw (k x f.0 off) i)

-- the same segment behind another node: only its first node's link differs
pub segment-behind : (next prev next' prev' : ℕ → Option ℕ) (n : ℕ) (before before' first : Option ℕ) (ys : List ℕ) (last behind : Option ℕ) → Segment next prev before first ys last behind → AllByRecursion (λ y. eqb n y ≡ false) ys → AllByRecursion (λ y. next' y ≡ next y) ys → ((y : ℕ) → eqb n y ≡ false → Some y ≢ start_of ys None → prev' y ≡ prev y) → ((y : ℕ) → eqb n y ≡ false → Some y ≡ start_of ys None → prev' y ≡ before') → IsDistinct eqb ys → Segment next' prev' before' first ys (end_of before' ys) behind
unfolding IsDistinct
segment-behind next prev next' prev' n before before' first [] last behind s f a k e d = (s.0, refl)
segment-behind next prev next' prev' n before before' first (y ∷ ys) last behind s f a k e d =
    let t = segment-same next prev next' prev' (Some y) (next y) ys last behind a.1 (others_each prev prev' n y ys k f.1 d.0) s.2 in
    (s.0, e y f.0 refl, rw a.0 (segment-last next' prev' (Some y) (next y) ys last behind t))

all_front : (P : ℕ → Type 0) (xs ys : List ℕ) → AllByRecursion P (xs ++ ys) → AllByRecursion P xs
all_front P [] ys h = tt
all_front P (x ∷ xs) ys h = (h.0, all_front P xs ys h.1)

all_back : (P : ℕ → Type 0) (xs ys : List ℕ) → AllByRecursion P (xs ++ ys) → AllByRecursion P ys
all_back P [] ys h = h
all_back P (x ∷ xs) ys h = all_back P xs ys h.1

distinct_front : (xs ys : List ℕ) → IsDistinct eqb (xs ++ ys) → IsDistinct eqb xs
unfolding IsDistinct
distinct_front [] ys h = tt
distinct_front (x ∷ xs) ys h = (all_front _ xs ys h.0, distinct_front xs ys h.1)

distinct_back : (xs ys : List ℕ) → IsDistinct eqb (xs ++ ys) → IsDistinct eqb ys
unfolding IsDistinct
distinct_back [] ys h = h
distinct_back (x ∷ xs) ys h = distinct_back xs ys h.1

-- no node of the front is the first of the back, and none of the back the last of the front
front_kept : (f g : ℕ → Option ℕ) (n : ℕ) (xs ys : List ℕ) → ((z : ℕ) → eqb n z ≡ false → Some z ≢ start_of ys None → g z ≡ f z) → AllByRecursion (λ z. eqb n z ≡ false) xs → IsDistinct eqb (xs ++ ys) → AllByRecursion (λ z. g z ≡ f z) xs
unfolding IsDistinct
front_kept f g n [] ys k h d = tt
front_kept f g n (x ∷ xs) [] k h d = (k x h.0 (λ e. absurd cc), front_kept f g n xs [] k h.1 d.1)
front_kept f g n (x ∷ xs) (y ∷ ys) k h d =
    (k x h.0 (λ e. eqb-false x y (all_back (λ z. eqb x z ≡ false) xs (y ∷ ys) d.0).0 (let i : x ≡ y = cc in i)), front_kept f g n xs (y ∷ ys) k h.1 d.1)

apart_each : (x : ℕ) (ys : List ℕ) → AllByRecursion (λ z. eqb x z ≡ false) ys → AllByRecursion (λ z. Some z ≢ Some x) ys
apart_each x [] h = tt
apart_each x (y ∷ ys) h = ((λ e. eqb-false x y h.0 (let i : x ≡ y = cc in i)), apart_each x ys h.1)

none_each : (ys : List ℕ) → AllByRecursion (λ z. Some z ≢ None) ys
none_each [] = tt
none_each (y ∷ ys) = ((λ e. absurd cc), none_each ys)

back_kept : (f g : ℕ → Option ℕ) (n : ℕ) (b : Option ℕ) (xs ys : List ℕ) → ((z : ℕ) → eqb n z ≡ false → Some z ≢ end_of b xs → g z ≡ f z) → AllByRecursion (λ z. eqb n z ≡ false) ys → AllByRecursion (λ z. Some z ≢ b) ys → IsDistinct eqb (xs ++ ys) → AllByRecursion (λ z. g z ≡ f z) ys
unfolding IsDistinct
back_kept f g n b [] [] k h a d = tt
back_kept f g n b [] (y ∷ ys) k h a d = (k y h.0 a.0, back_kept f g n b [] ys k h.1 a.1 d.1)
back_kept f g n b (x ∷ xs) ys k h a d = back_kept f g n (Some x) xs ys k h (apart_each x ys (all_back (λ z. eqb x z ≡ false) xs ys d.0)) d.1

front_part : (next prev next' prev' : ℕ → Option ℕ) (n : ℕ) (first : Option ℕ) (xs : List ℕ) (behind behind' : Option ℕ) → Segment next prev None first xs (end_of None xs) behind → AllByRecursion (λ z. eqb n z ≡ false) xs → AllByRecursion (λ z. prev' z ≡ prev z) xs → ((y : ℕ) → eqb n y ≡ false → Some y ≢ end_of None xs → next' y ≡ next y) → ((y : ℕ) → eqb n y ≡ false → Some y ≡ end_of None xs → next' y ≡ behind') → IsDistinct eqb xs → Segment next' prev' None (start_of xs behind') xs (end_of None xs) behind'
front_part next prev next' prev' n first [] behind behind' s f a k e d = (refl, refl)
front_part next prev next' prev' n first (x ∷ xs) behind behind' s f a k e d =
    let t = segment-ahead next prev next' prev' n None first x xs behind behind' s f a k e d in (refl, t.1, t.2)

module _ (next prev next' prev' : ℕ → Option ℕ) (n : ℕ) (first : Option ℕ) (xs ys : List ℕ) (last : Option ℕ) where
  pub segment-insert : Segment next prev None first (xs ++ ys) last None → IsDistinct eqb (xs ++ ys) → AllByRecursion (λ z. eqb n z ≡ false) (xs ++ ys) → next' n ≡ start_of ys None → prev' n ≡ end_of None xs → ((y : ℕ) → eqb n y ≡ false → Some y ≢ end_of None xs → next' y ≡ next y) → ((y : ℕ) → eqb n y ≡ false → Some y ≡ end_of None xs → next' y ≡ Some n) → ((y : ℕ) → eqb n y ≡ false → Some y ≢ start_of ys None → prev' y ≡ prev y) → ((y : ℕ) → eqb n y ≡ false → Some y ≡ start_of ys None → prev' y ≡ Some n) → Segment next' prev' None (start_of xs (Some n)) (xs ++ n ∷ ys) (end_of (Some n) ys) None
  segment-insert s d f a b k e k' e' =
      let front = segment-front next prev None first xs ys last None s in
      let back = segment-back next prev None first xs ys last None s in
      let on_front = front_part next prev next' prev' n first xs (start_of ys None) (Some n) front (all_front _ xs ys f) (front_kept prev prev' n xs ys k' (all_front _ xs ys f) d) k e (distinct_front xs ys d) in
      let on_back = segment-behind next prev next' prev' n (end_of None xs) (Some n) (start_of ys None) ys last None back (all_back _ xs ys f) (back_kept next next' n None xs ys k (all_back _ xs ys f) (none_each ys) d) k' e' (distinct_back xs ys d) in
      segment-join next' prev' None (start_of xs (Some n)) xs (n ∷ ys) (Some n) (end_of (Some n) ys) None on_front (refl, b, rw a on_back)

apart_front : (n : ℕ) (xs ys : List ℕ) → IsDistinct eqb (xs ++ n ∷ ys) → AllByRecursion (λ z. eqb n z ≡ false) xs
unfolding IsDistinct
apart_front n [] ys d = tt
apart_front n (x ∷ xs) ys d =
    let h : eqb x n ≡ false = (all_back (λ z. eqb x z ≡ false) xs (n ∷ ys) d.0).0 in
    (ne_eqb n x (λ i. eqb-false x n h (sym i)), apart_front n xs ys d.1)

apart_back : (n : ℕ) (xs ys : List ℕ) → IsDistinct eqb (xs ++ n ∷ ys) → AllByRecursion (λ z. eqb n z ≡ false) ys
unfolding IsDistinct
apart_back n xs ys d = (distinct_back xs (n ∷ ys) d).0

all_without : (P : ℕ → Type 0) (n : ℕ) (xs ys : List ℕ) → AllByRecursion P (xs ++ n ∷ ys) → AllByRecursion P (xs ++ ys)
all_without P n [] ys h = h.1
all_without P n (x ∷ xs) ys h = (h.0, all_without P n xs ys h.1)

distinct_without : (n : ℕ) (xs ys : List ℕ) → IsDistinct eqb (xs ++ n ∷ ys) → IsDistinct eqb (xs ++ ys)
unfolding IsDistinct
distinct_without n [] ys d = d.1
distinct_without n (x ∷ xs) ys d = (all_without _ n xs ys d.0, distinct_without n xs ys d.1)

all_both : (P : ℕ → Type 0) (xs ys : List ℕ) → AllByRecursion P xs → AllByRecursion P ys → AllByRecursion P (xs ++ ys)
all_both P [] ys a b = b
all_both P (x ∷ xs) ys a b = (a.0, all_both P xs ys a.1 b)

-- what is taken out of distinct numbers isn't among the others
pub apart_others : (n : ℕ) (xs ys : List ℕ) → IsDistinct eqb (xs ++ n ∷ ys) → AllByRecursion (λ z. eqb n z ≡ false) (xs ++ ys)
apart_others n xs ys d = all_both _ xs ys (apart_front n xs ys d) (apart_back n xs ys d)

module _ (next prev next' prev' : ℕ → Option ℕ) (n : ℕ) (first : Option ℕ) (xs ys : List ℕ) (last : Option ℕ) where
  pub segment-remove : Segment next prev None first (xs ++ n ∷ ys) last None → IsDistinct eqb (xs ++ n ∷ ys) → ((y : ℕ) → eqb n y ≡ false → Some y ≢ end_of None xs → next' y ≡ next y) → ((y : ℕ) → eqb n y ≡ false → Some y ≡ end_of None xs → next' y ≡ start_of ys None) → ((y : ℕ) → eqb n y ≡ false → Some y ≢ start_of ys None → prev' y ≡ prev y) → ((y : ℕ) → eqb n y ≡ false → Some y ≡ start_of ys None → prev' y ≡ end_of None xs) → Segment next' prev' None (start_of xs (start_of ys None)) (xs ++ ys) (end_of (end_of None xs) ys) None
  segment-remove s d k e k' e' =
      let front = segment-front next prev None first xs (n ∷ ys) last None s in
      let back = (segment-back next prev None first xs (n ∷ ys) last None s).2 in
      let w = distinct_without n xs ys d in
      let on_front = front_part next prev next' prev' n first xs (Some n) (start_of ys None) front (apart_front n xs ys d) (front_kept prev prev' n xs ys k' (apart_front n xs ys d) w) k e (distinct_front xs ys w) in
      let on_back = segment-behind next prev next' prev' n (Some n) (end_of None xs) (next n) ys last None back (apart_back n xs ys d) (back_kept next next' n None xs ys k (apart_back n xs ys d) (none_each ys) w) k' e' (distinct_back xs ys w) in
      segment-join next' prev' None (start_of xs (start_of ys None)) xs ys (start_of ys None) (end_of (end_of None xs) ys) None on_front (rw (← segment-start next prev (Some n) (next n) ys last None back) on_back)
