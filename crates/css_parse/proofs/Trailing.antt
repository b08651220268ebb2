-- The end and the start of a list by a test of its items, an item at a time.
use Rattle.std.proofs.Common.{◌≡◌, ℕ, suc, ◌+◌, ◌-◌, ◌<◌, ◌≤◌, subst, arith, List, [], ◌∷◌, ◌++◌, Bool, true, false, length, take, drop, get_or, refl, ◌∙◌, sym, ap, take-append-drop, take-suc, add-one, drop-cons}
use Rattle.css_tree.proofs.Split.{keep, solid_by, tail_by, lead_by, unlead_by}
use Rattle.css_tree.proofs.Trim.{trim-all}

module _ {A : Type 0} (test : A → Bool) where
  keep-full : (b : Bool) (x p : A) (xs : List A) → keep b x (xs ++ p ∷ []) ≡ x ∷ (xs ++ p ∷ [])
  keep-full true x p [] = refl
  keep-full true x p (y ∷ ys) = refl
  keep-full false x p xs = refl

  pub snoc_kept : (xs : List A) (p : A) → test p ≡ false → solid_by test (xs ++ p ∷ []) ≡ xs ++ p ∷ []
  unfolding solid_by
  snoc_kept [] p e = rw e refl
  snoc_kept (x ∷ xs) p e = rw (snoc_kept xs p e) (keep-full (test x) x p xs)

  pub snoc_dropped : (xs : List A) (p : A) → test p ≡ true → solid_by test (xs ++ p ∷ []) ≡ solid_by test xs
  unfolding solid_by
  snoc_dropped [] p e = rw e refl
  snoc_dropped (x ∷ xs) p e = ap (λ z. keep (test x) x z) (snoc_dropped xs p e)

  pub solid_none : solid_by test [] ≡ []
  unfolding solid_by
  solid_none = refl

  pub solid_step : (xs : List A) (i n : ℕ) (d : A) → i < length xs → take n xs ≡ solid_by test (take i xs) → test (get_or xs i d) ≡ true → take n xs ≡ solid_by test (take (i + 1) xs)
  solid_step xs i n d l e b = e ∙ (sym (snoc_dropped (take i xs) (get_or xs i d) b) ∙ ap (solid_by test) (sym (take-suc xs i d l) ∙ rw add-one refl))

  pub solid_kept : (xs : List A) (i : ℕ) (d : A) → i < length xs → test (get_or xs i d) ≡ false → take (i + 1) xs ≡ solid_by test (take (i + 1) xs)
  solid_kept xs i d l b =
      let t : take (i + 1) xs ≡ take i xs ++ get_or xs i d ∷ [] = rw add-one (take-suc xs i d l) in
      t ∙ (sym (snoc_kept (take i xs) (get_or xs i d) b) ∙ ap (solid_by test) (sym t))

  -- one trailing item less
  pub solid_less : (xs : List A) (i : ℕ) (d : A) → i < length xs → test (get_or xs i d) ≡ true → solid_by test (take (i + 1) xs) ≡ solid_by test (take i xs)
  solid_less xs i d l b = ap (solid_by test) (rw add-one (take-suc xs i d l)) ∙ snoc_dropped (take i xs) (get_or xs i d) b

  -- at the last of n items
  last-one : (n : ℕ) → 0 < n → n - 1 + 1 ≡ n
  last-one n l = omega arith

  pub solid_found : (xs : List A) (n : ℕ) (d : A) → 0 < n → n ≤ length xs → test (get_or xs (n - 1) d) ≡ false → take n xs ≡ solid_by test (take n xs)
  solid_found xs n d l k b = subst (λ z. take z xs ≡ solid_by test (take z xs)) (last-one n l) (solid_kept xs (n - 1) d (omega (arith, l, k)) b)

  pub solid_before : (xs : List A) (n : ℕ) (d : A) → 0 < n → n ≤ length xs → test (get_or xs (n - 1) d) ≡ true → solid_by test (take n xs) ≡ solid_by test (take (n - 1) xs)
  solid_before xs n d l k b = subst (λ z. solid_by test (take z xs) ≡ solid_by test (take (n - 1) xs)) (last-one n l) (solid_less xs (n - 1) d (omega (arith, l, k)) b)

tail-inj : {A : Type 0} (p : A) (a b : List A) → ◌≡◌ {A = List A} (p ∷ a) (p ∷ b) → a ≡ b
tail-inj p a b e = ap (drop 1) e

pub cancel : {A : Type 0} (r a b : List A) → r ++ a ≡ r ++ b → a ≡ b
cancel [] a b e = e
cancel (p ∷ r) a b e = cancel r a b (tail-inj p (r ++ a) (r ++ b) e)

-- the trailing items stand behind the rest
pub solid_back : {A : Type 0} (test : A → Bool) (n : ℕ) (xs : List A) → take n xs ≡ solid_by test xs → drop n xs ≡ tail_by test xs
solid_back test n xs e = cancel (solid_by test xs) (drop n xs) (tail_by test xs) (ap (λ z. z ++ drop n xs) (sym e) ∙ (take-append-drop n xs ∙ sym (trim-all test xs)))

-- the leading items and the others from an index on
pub record IsLead {A : Type 0} (test : A → Bool) (xs : List A) (i : ℕ) : Type 0 where
  pub front : lead_by test xs ≡ take i xs ++ lead_by test (drop i xs)
  pub back : unlead_by test xs ≡ unlead_by test (drop i xs)

pub lead_start : {A : Type 0} (test : A → Bool) (xs : List A) → IsLead test xs 0
lead_start test xs = record { front = refl; back = refl }

lead_cons : {A : Type 0} (test : A → Bool) (xs ys : List A) (x : A) → xs ≡ x ∷ ys → test x ≡ true → (lead_by test xs ≡ x ∷ lead_by test ys) × (unlead_by test xs ≡ unlead_by test ys)
unfolding lead_by unlead_by
lead_cons test xs ys x e b = (rw (e, b) refl, rw (e, b) refl)

lead_other : {A : Type 0} (test : A → Bool) (xs ys : List A) (x : A) → xs ≡ x ∷ ys → test x ≡ false → (lead_by test xs ≡ []) × (unlead_by test xs ≡ xs)
unfolding lead_by unlead_by
lead_other test xs ys x e b = (rw (e, b) refl, rw (e, b) refl)

pub lead_step : {A : Type 0} (test : A → Bool) (xs : List A) (i : ℕ) (d : A) → i < length xs → IsLead test xs i → test (get_or xs i d) ≡ true → IsLead test xs (i + 1)
lead_step test xs i d l h b =
    let k = lead_cons test (drop i xs) (drop (suc i) xs) (get_or xs i d) (drop-cons xs i d l) b in
    rw add-one (record {
      front = h.front ∙ (ap (λ z. take i xs ++ z) k.0 ∙ (sym (append_cons (take i xs) (get_or xs i d) (lead_by test (drop (suc i) xs))) ∙ ap (λ z. z ++ lead_by test (drop (suc i) xs)) (sym (take-suc xs i d l))));
      back = h.back ∙ k.1;
    })
  where
    append_cons : {A : Type 0} (a : List A) (x : A) (c : List A) → (a ++ x ∷ []) ++ c ≡ a ++ x ∷ c
    append_cons [] x c = refl
    append_cons (y ∷ a) x c = ap (λ z. y ∷ z) (append_cons a x c)

-- at an index that no leading item stands at, or at the end
pub lead_found : {A : Type 0} (test : A → Bool) (xs : List A) (i : ℕ) (d : A) → i < length xs → IsLead test xs i → test (get_or xs i d) ≡ false → (take i xs ≡ lead_by test xs) × (drop i xs ≡ unlead_by test xs)
lead_found test xs i d l h b =
    let k = lead_other test (drop i xs) (drop (suc i) xs) (get_or xs i d) (drop-cons xs i d l) b in
    (sym (h.front ∙ (ap (λ z. take i xs ++ z) k.0 ∙ append_none (take i xs))), sym (h.back ∙ k.1))
  where
    append_none : {A : Type 0} (a : List A) → a ++ [] ≡ a
    append_none [] = refl
    append_none (y ∷ a) = ap (λ z. y ∷ z) (append_none a)

lead_nil : {A : Type 0} (test : A → Bool) (xs : List A) → xs ≡ [] → (lead_by test xs ≡ []) × (unlead_by test xs ≡ [])
unfolding lead_by unlead_by
lead_nil test xs e = (rw e refl, rw e refl)

pub lead_end : {A : Type 0} (test : A → Bool) (xs : List A) → IsLead test xs (length xs) → (take (length xs) xs ≡ lead_by test xs) × (drop (length xs) xs ≡ unlead_by test xs)
lead_end test xs h =
    let k = lead_nil test (drop (length xs) xs) (drop_all xs) in
    (sym (h.front ∙ (ap (λ z. take (length xs) xs ++ z) k.0 ∙ append_none (take (length xs) xs))), drop_all xs ∙ sym (h.back ∙ k.1))
  where
    append_none : {A : Type 0} (a : List A) → a ++ [] ≡ a
    append_none [] = refl
    append_none (y ∷ a) = ap (λ z. y ∷ z) (append_none a)

    drop_all : {A : Type 0} (a : List A) → drop (length a) a ≡ []
    drop_all [] = refl
    drop_all (y ∷ a) = drop_all a
