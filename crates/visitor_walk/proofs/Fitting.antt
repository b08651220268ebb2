-- Where the first of a list stands that passes a test.
use Rattle.std.proofs.Common.{◌≡◌, ℕ, zero, suc, ◌+◌, ◌-◌, ◌≤◌, List, [], ◌∷◌, Bool, true, false, length, Option, Some, None, refl, ap, sym, ◌∙◌, arith, drop, slice_get}
use Rattle.std.specs.Option.{option_map}
use Rattle.std.proofs.lemmas.Option.{slice_get-map}
use Rattle.node_store.specs.Cursors.{through, further}
use Rattle.visitor_walk.specs.declared.hooks.RunHook.{RunHook}
use Rattle.visitor_walk.specs.Groups.{shown_hook, shown_hooks}

-- the same, with k more before it
abbrev pub ahead_by : {A : Type 0} → ℕ → Option (A × ℕ) → Option (A × ℕ)
ahead_by k None = None
ahead_by k (Some x) = Some (x.0, k + x.1)

pub ahead_none : {A : Type 0} (k : ℕ) (o : Option (A × ℕ)) → k ≡ 0 → o ≡ ahead_by k o
ahead_none k None e = refl
ahead_none k (Some x) e = let i : x.1 ≡ k + x.1 = omega arith in ap (λ n. Some (x.0, n)) i

one_ahead : {A : Type 0} (o : Option (A × ℕ)) → further o ≡ ahead_by 1 o
one_ahead None = refl
one_ahead (Some x) = let i : suc x.1 ≡ 1 + x.1 = omega arith in ap (λ n. Some (x.0, n)) i

pub ahead_twice : {A : Type 0} (a b k : ℕ) (o : Option (A × ℕ)) → k ≡ a + b → ahead_by a (ahead_by b o) ≡ ahead_by k o
ahead_twice a b k None e = refl
ahead_twice a b k (Some x) e = let i : a + (b + x.1) ≡ k + x.1 = omega arith in ap (λ n. Some (x.0, n)) i

module _ {A : Type 0} (test : A → Bool) where
  pub skipped : (xs : List A) (at : ℕ) (x : A) → slice_get xs at ≡ Some x → test x ≡ false → through test (drop at xs) ≡ ahead_by 1 (through test (drop (suc at) xs))
  skipped [] at x e h = absurd cc
  skipped (y ∷ ys) zero x e h = let i : y ≡ x = cc in rw (i, h) (one_ahead (through test ys))
  skipped (y ∷ ys) (suc at) x e h = skipped ys at x e h

  pub hit : (xs : List A) (at : ℕ) (x : A) → slice_get xs at ≡ Some x → test x ≡ true → through test (drop at xs) ≡ Some (x, 1)
  hit [] at x e h = absurd cc
  hit (y ∷ ys) zero x e h = let i : y ≡ x = cc in rw (i, h) refl
  hit (y ∷ ys) (suc at) x e h = hit ys at x e h

  pub past_all : (xs : List A) (at : ℕ) → length xs ≤ at → through test (drop at xs) ≡ None
  past_all [] zero h = refl
  past_all [] (suc at) h = refl
  past_all (x ∷ xs) zero h = absurd (omega arith)
  past_all (x ∷ xs) (suc at) h = past_all xs at (omega arith)

  -- from one place to the next
  pub went_on : (xs : List A) (from at : ℕ) (x : A) → from ≤ at → slice_get xs at ≡ Some x → test x ≡ false → through test (drop from xs) ≡ ahead_by (at - from) (through test (drop at xs)) → through test (drop from xs) ≡ ahead_by ((at + 1) - from) (through test (drop (at + 1) xs))
  went_on xs from at x l e h w =
      let k : (at + 1) - from ≡ (at - from) + 1 = omega arith in
      let n : at + 1 ≡ suc at = omega arith in
      w ∙ (ap (ahead_by (at - from)) (skipped xs at x e h) ∙ (ahead_twice (at - from) 1 ((at + 1) - from) (through test (drop (suc at) xs)) k ∙ ap (λ m. ahead_by ((at + 1) - from) (through test (drop m xs))) (sym n)))

  pub found_at : (xs : List A) (from at : ℕ) (x : A) → from ≤ at → slice_get xs at ≡ Some x → test x ≡ true → through test (drop from xs) ≡ ahead_by (at - from) (through test (drop at xs)) → through test (drop from xs) ≡ Some (x, suc at - from)
  found_at xs from at x l e h w =
      let k : (at - from) + 1 ≡ suc at - from = omega arith in
      w ∙ (ap (ahead_by (at - from)) (hit xs at x e h) ∙ ap (λ n. Some (x, n)) k)

pub shown_at : (hooks : List RunHook) (at : ℕ) (h : RunHook) → slice_get hooks at ≡ Some h → slice_get (shown_hooks hooks) at ≡ Some (shown_hook h)
shown_at hooks at h e = slice_get-map shown_hook hooks at ∙ ap (option_map shown_hook) e
