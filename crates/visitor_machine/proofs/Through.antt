-- The first that passes a test, and what stands behind it.
use Rattle.std.proofs.Common.{◌⊎◌, inl, inr, ◌≡◌, ℕ, zero, suc, ◌+◌, List, [], ◌∷◌, Bool, true, false, length, Option, Some, None, refl, ap, sym, ◌∙◌, arith, drop, cond, subst}
use Rattle.std.specs.Prelude.{filter}
use Rattle.std.proofs.lemmas.Bool.{false≢true}
use Rattle.node_store.specs.Cursors.{through, further}
use Rattle.visitor_machine.proofs.Members.{Mem}
use Rattle.visitor_machine.proofs.Places.{drop_nil}

pub drop_length : {A : Type 0} (xs : List A) → drop (length xs) xs ≡ []
drop_length [] = refl
drop_length (x ∷ xs) = drop_length xs

pub drop_drop : {A : Type 0} (xs : List A) (a k : ℕ) → drop k (drop a xs) ≡ drop (a + k) xs
drop_drop xs zero k = let e : 0 + k ≡ k = omega arith in rw e refl
drop_drop [] (suc a) k = drop_nil k ∙ sym (drop_nil (suc a + k))
drop_drop (x ∷ xs) (suc a) k = let e : suc a + k ≡ suc (a + k) = omega arith in drop_drop xs a k ∙ ap (λ j. drop j (x ∷ xs)) (sym e)

some_parts : {A : Type 0} {p q : A × ℕ} → Some p ≡ Some q → (p.0 ≡ q.0) × (p.1 ≡ q.1)
some_parts {A} {p} {q} e = (ap (λ o. elim o as (λ _. A) [ None ↦ p.0 | Some r ↦ r.0 ]) e, ap (λ o. elim o as (λ _. ℕ) [ None ↦ p.1 | Some r ↦ r.1 ]) e)

-- what the search gives: x passes, and k stand through it
module _ {A : Type 0} (test : A → Bool) where
  filter_some_by : (y : A) (ys : List A) (b : Bool) (o : Option (A × ℕ)) (x : A) (k : ℕ) → test y ≡ b → through test ys ≡ o → cond b (Some (y, 1)) (further o) ≡ Some (x, k) → ((x : A) (k : ℕ) → through test ys ≡ Some (x, k) → filter test ys ≡ x ∷ filter test (drop k ys)) → cond b (y ∷ filter test ys) (filter test ys) ≡ x ∷ filter test (drop k (y ∷ ys))
  filter_some_by y ys true o x k e f h r = let i = some_parts h in subst (λ j. y ∷ filter test ys ≡ x ∷ filter test (drop j (y ∷ ys))) i.1 (ap (λ z. z ∷ filter test ys) i.0)
  filter_some_by y ys false None x k e f h r = absurd cc
  filter_some_by y ys false (Some p) x k e f h r = let i = some_parts h in subst (λ j. filter test ys ≡ x ∷ filter test (drop j (y ∷ ys))) i.1 (r p.0 p.1 f ∙ ap (λ z. z ∷ filter test (drop p.1 ys)) i.0)

  pub filter_some : (ys : List A) (x : A) (k : ℕ) → through test ys ≡ Some (x, k) → filter test ys ≡ x ∷ filter test (drop k ys)
  filter_some [] x k h = absurd cc
  filter_some (y ∷ ys) x k h = filter_some_by y ys (test y) (through test ys) x k refl refl h (filter_some ys)

  filter_none_by : (y : A) (ys : List A) (b : Bool) (o : Option (A × ℕ)) → test y ≡ b → through test ys ≡ o → cond b (Some (y, 1)) (further o) ≡ None → (through test ys ≡ None → filter test ys ≡ []) → cond b (y ∷ filter test ys) (filter test ys) ≡ []
  filter_none_by y ys true o e f h r = absurd cc
  filter_none_by y ys false None e f h r = r f
  filter_none_by y ys false (Some p) e f h r = absurd cc

  pub filter_none : (ys : List A) → through test ys ≡ None → filter test ys ≡ []
  filter_none [] h = refl
  filter_none (y ∷ ys) h = filter_none_by y ys (test y) (through test ys) refl refl h (filter_none ys)

  none_passes_by : (c y : A) (ys : List A) (b : Bool) (o : Option (A × ℕ)) → test y ≡ b → through test ys ≡ o → cond b (Some (y, 1)) (further o) ≡ None → (through test ys ≡ None → Mem c ys → test c ≡ false) → (c ≡ y) ⊎ Mem c ys → test c ≡ false
  none_passes_by c y ys true o e f h r m = absurd cc
  none_passes_by c y ys false None e f h r (inl i) = ap test i ∙ e
  none_passes_by c y ys false None e f h r (inr m) = r f m
  none_passes_by c y ys false (Some p) e f h r m = absurd cc

  pub none_passes : (c : A) (ys : List A) → through test ys ≡ None → Mem c ys → test c ≡ false
  none_passes c [] h m = absurd m
  none_passes c (y ∷ ys) h m = none_passes_by c y ys (test y) (through test ys) refl refl h (none_passes c ys) m

  behind_by : (c y : A) (ys : List A) (b : Bool) (o : Option (A × ℕ)) (x : A) (k : ℕ) → test y ≡ b → through test ys ≡ o → cond b (Some (y, 1)) (further o) ≡ Some (x, k) → test c ≡ true → ((x : A) (k : ℕ) → through test ys ≡ Some (x, k) → Mem c ys → (c ≡ x) ⊎ Mem c (drop k ys)) → (c ≡ y) ⊎ Mem c ys → (c ≡ x) ⊎ Mem c (drop k (y ∷ ys))
  behind_by c y ys true o x k e f h t r (inl i) = inl (i ∙ (some_parts h).0)
  behind_by c y ys true o x k e f h t r (inr m) = inr (subst (λ j. Mem c (drop j (y ∷ ys))) (some_parts h).1 m)
  behind_by c y ys false None x k e f h t r m = absurd cc
  behind_by c y ys false (Some p) x k e f h t r (inl i) = absurd (false≢true (sym e ∙ (ap test (sym i) ∙ t)))
  behind_by c y ys false (Some p) x k e f h t r (inr m) = elim (r p.0 p.1 f m) [
    | inl i ↦ inl (i ∙ (some_parts h).0)
    | inr j ↦ inr (subst (λ j. Mem c (drop j (y ∷ ys))) (some_parts h).1 j)
  ]

  -- a member that passes is the first, or stands behind it
  pub behind : (c : A) (ys : List A) (x : A) (k : ℕ) → through test ys ≡ Some (x, k) → test c ≡ true → Mem c ys → (c ≡ x) ⊎ Mem c (drop k ys)
  behind c [] x k h t m = absurd m
  behind c (y ∷ ys) x k h t m = behind_by c y ys (test y) (through test ys) x k refl refl h t (λ z j i m. behind c ys z j i t m) m

  passes_by : (y : A) (ys : List A) (b : Bool) (o : Option (A × ℕ)) (x : A) (k : ℕ) → test y ≡ b → through test ys ≡ o → cond b (Some (y, 1)) (further o) ≡ Some (x, k) → ((x : A) (k : ℕ) → through test ys ≡ Some (x, k) → test x ≡ true) → test x ≡ true
  passes_by y ys true o x k e f h r = ap test (sym (some_parts h).0) ∙ e
  passes_by y ys false None x k e f h r = absurd cc
  passes_by y ys false (Some p) x k e f h r = ap test (sym (some_parts h).0) ∙ r p.0 p.1 f

  pub passes_it : (ys : List A) (x : A) (k : ℕ) → through test ys ≡ Some (x, k) → test x ≡ true
  passes_it [] x k h = absurd cc
  passes_it (y ∷ ys) x k h = passes_by y ys (test y) (through test ys) x k refl refl h (passes_it ys)
