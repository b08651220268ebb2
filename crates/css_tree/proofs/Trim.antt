-- What the functions that split lists give, by the classes of lists, and that the classes fix it.
use Rattle.std.proofs.Common.{◌≡◌, List, [], ◌∷◌, ◌++◌, Bool, true, false, cond, refl, ◌∙◌, sym, ap, subst}
use Rattle.css_tree.specs.Classes.{Each, BeginsWithout, EndsWithout}
use Rattle.css_tree.proofs.Split.{keep, keep_tail, solid_by, tail_by, lead_by, unlead_by}

keep-both : {A : Type 0} (b : Bool) (p : A) (s t ps : List A) → s ++ t ≡ ps → keep b p s ++ keep_tail b p s t ≡ p ∷ ps
keep-both true p [] t ps e = ap (λ x. p ∷ x) e
keep-both true p (q ∷ s) t ps e = ap (λ x. p ∷ x) e
keep-both false p s t ps e = ap (λ x. p ∷ x) e

pub trim-all : {A : Type 0} (test : A → Bool) (xs : List A) → solid_by test xs ++ tail_by test xs ≡ xs
unfolding solid_by tail_by
trim-all test [] = refl
trim-all test (p ∷ ps) = keep-both (test p) p (solid_by test ps) (tail_by test ps) ps (trim-all test ps)

keep_tail-each : {A : Type 0} (test : A → Bool) (b : Bool) (p : A) (s t : List A) → test p ≡ b → Each test t → Each test (keep_tail b p s t)
keep_tail-each test true p [] t e h = (e, h)
keep_tail-each test true p (q ∷ s) t e h = h
keep_tail-each test false p s t e h = h

pub trim-tail : {A : Type 0} (test : A → Bool) (xs : List A) → Each test (tail_by test xs)
unfolding tail_by
trim-tail test [] = tt
trim-tail test (p ∷ ps) = keep_tail-each test (test p) p (solid_by test ps) (tail_by test ps) refl (trim-tail test ps)

keep-ends : {A : Type 0} (test : A → Bool) (b : Bool) (p : A) (s : List A) → test p ≡ b → EndsWithout test s → EndsWithout test (keep b p s)
keep-ends test true p [] e h = tt
keep-ends test true p (q ∷ s) e h = h
keep-ends test false p [] e h = e
keep-ends test false p (q ∷ s) e h = h

pub trim-ends : {A : Type 0} (test : A → Bool) (xs : List A) → EndsWithout test (solid_by test xs)
unfolding solid_by
trim-ends test [] = tt
trim-ends test (p ∷ ps) = keep-ends test (test p) p (solid_by test ps) refl (trim-ends test ps)

blank-solid : {A : Type 0} (test : A → Bool) (xs : List A) → Each test xs → (solid_by test xs ≡ []) × (tail_by test xs ≡ xs)
unfolding solid_by tail_by
blank-solid test [] h = (refl, refl)
blank-solid test (p ∷ ps) h =
    let k = blank-solid test ps h.1 in
    (rw (h.0, k.0) refl, rw (h.0, k.0, k.1) refl)

keep-cons : {A : Type 0} (b : Bool) (p q : A) (s t : List A) → (keep b p (q ∷ s) ≡ p ∷ q ∷ s) × (keep_tail b p (q ∷ s) t ≡ t)
keep-cons true p q s t = (refl, refl)
keep-cons false p q s t = (refl, refl)

-- the classes fix what is trimmed at the end
pub trim-fixed : {A : Type 0} (test : A → Bool) (xs bl : List A) → EndsWithout test xs → Each test bl → (solid_by test (xs ++ bl) ≡ xs) × (tail_by test (xs ++ bl) ≡ bl)
unfolding solid_by tail_by
trim-fixed test [] bl h e = blank-solid test bl e
trim-fixed test (p ∷ []) bl h e = let k = blank-solid test bl e in (rw (h, k.0) refl, rw (h, k.1) refl)
trim-fixed test (p ∷ q ∷ xs) bl h e =
    let k = trim-fixed test (q ∷ xs) bl h e in
    let c = keep-cons (test p) p q xs bl in
    (ap (λ z. keep (test p) p z) k.0 ∙ c.0, ap (λ z. keep_tail (test p) p z (tail_by test (q ∷ (xs ++ bl)))) k.0 ∙ (ap (λ z. keep_tail (test p) p (q ∷ xs) z) k.1 ∙ c.1))

lead-cond : {A : Type 0} (b : Bool) (p : A) (x y ps : List A) → x ++ y ≡ ps → cond b (p ∷ x) [] ++ cond b y (p ∷ ps) ≡ p ∷ ps
lead-cond true p x y ps e = ap (λ z. p ∷ z) e
lead-cond false p x y ps e = refl

pub lead-all : {A : Type 0} (test : A → Bool) (xs : List A) → lead_by test xs ++ unlead_by test xs ≡ xs
unfolding lead_by unlead_by
lead-all test [] = refl
lead-all test (p ∷ ps) = lead-cond (test p) p (lead_by test ps) (unlead_by test ps) ps (lead-all test ps)

cond-each : {A : Type 0} (test : A → Bool) (b : Bool) (p : A) (x : List A) → test p ≡ b → Each test x → Each test (cond b (p ∷ x) [])
cond-each test true p x e h = (e, h)
cond-each test false p x e h = tt

pub lead-each : {A : Type 0} (test : A → Bool) (xs : List A) → Each test (lead_by test xs)
unfolding lead_by
lead-each test [] = tt
lead-each test (p ∷ ps) = cond-each test (test p) p (lead_by test ps) refl (lead-each test ps)

cond-begins : {A : Type 0} (test : A → Bool) (b : Bool) (p : A) (x ps : List A) → test p ≡ b → BeginsWithout test x → BeginsWithout test (cond b x (p ∷ ps))
cond-begins test true p x ps e h = h
cond-begins test false p x ps e h = e

pub unlead-begins : {A : Type 0} (test : A → Bool) (xs : List A) → BeginsWithout test (unlead_by test xs)
unfolding unlead_by
unlead-begins test [] = tt
unlead-begins test (p ∷ ps) = cond-begins test (test p) p (unlead_by test ps) ps refl (unlead-begins test ps)

lead-none : {A : Type 0} (test : A → Bool) (u : List A) → BeginsWithout test u → (lead_by test u ≡ []) × (unlead_by test u ≡ u)
unfolding lead_by unlead_by
lead-none test [] h = (refl, refl)
lead-none test (p ∷ u) h = (rw h refl, rw h refl)

-- the classes fix what is cut off at the front
pub lead-fixed : {A : Type 0} (test : A → Bool) (a u : List A) → Each test a → BeginsWithout test u → (lead_by test (a ++ u) ≡ a) × (unlead_by test (a ++ u) ≡ u)
unfolding lead_by unlead_by
lead-fixed test [] u h b = lead-none test u b
lead-fixed test (p ∷ a) u h b = (rw h.0 (ap (λ z. p ∷ z) (lead-fixed test a u h.1 b).0), rw h.0 (lead-fixed test a u h.1 b).1)

solid-stays : {A : Type 0} (test : A → Bool) (p : A) (u : List A) → test p ≡ false → (solid_by test (p ∷ u) ≡ p ∷ solid_by test u)
unfolding solid_by
solid-stays test p u h = rw h refl

no-cons : {A : Type 0} (p : A) (u : List A) → ◌≡◌ {A = List A} (p ∷ u) [] → ⊥
no-cons p u e = cc

-- what begins with no such item still does without its trailing ones, and it has none where it is empty then
pub trim-begins : {A : Type 0} (test : A → Bool) (u : List A) → BeginsWithout test u → BeginsWithout test (solid_by test u) × (solid_by test u ≡ [] → tail_by test u ≡ [])
unfolding solid_by tail_by
trim-begins test [] h = (tt, λ e. refl)
trim-begins test (p ∷ u) h =
    (subst (λ z. BeginsWithout test z) (sym (solid-stays test p u h)) h, λ e. absurd (no-cons p (solid_by test u) (sym (solid-stays test p u h) ∙ e)))

-- a list that begins with no such item, and before an empty list nothing
pub begins-append : {A : Type 0} (test : A → Bool) (xs ys : List A) → BeginsWithout test xs → (xs ≡ [] → ys ≡ []) → BeginsWithout test (xs ++ ys)
begins-append test [] ys b e = subst (λ z. BeginsWithout test z) (sym (e refl)) tt
begins-append test (x ∷ xs) ys b e = b

pub each-append : {A : Type 0} (test : A → Bool) (xs ys : List A) → Each test xs → Each test ys → Each test (xs ++ ys)
each-append test [] ys a b = b
each-append test (x ∷ xs) ys a b = (a.0, each-append test xs ys a.1 b)
