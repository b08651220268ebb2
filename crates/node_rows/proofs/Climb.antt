-- Walking up from a node: its chain of ancestors is no longer than the list of nodes.
use Rattle.std.proofs.Common.{◌⊎◌, inl, inr, ◌≡◌, ℕ, zero, suc, ◌<◌, ◌≤◌, List, [], ◌∷◌, Bool, true, false, length, Option, Some, None, refl, ap, sym, ◌∙◌, arith, eqb, ◌||◌}
use Rattle.std.specs.List.{IsDistinct, list_any, AllByRecursion}
use Rattle.std.proofs.lemmas.Map.Steps.{length-le_from_distinct_below}
use Rattle.std.proofs.lemmas.Bool.{false≢true}
use Rattle.std.proofs.lemmas.Bool.Decides.{nat_tests}
use Rattle.node_rows.specs.Nodes.{Node, parent_of, up, path}
use Rattle.node_rows.specs.Sound.{IsSound, reaches_top}

pub data Rooted (ns : List Node) : ℕ → Type 0 where
  top : {n : ℕ} → parent_of ns n ≡ None → Rooted ns n
  under : {n p : ℕ} → parent_of ns n ≡ Some p → Rooted ns p → Rooted ns n

unfoldable pub chain : {ns : List Node} {n : ℕ} → Rooted ns n → List ℕ
chain (top {n} e) = n ∷ []
chain (under {n} {p} e r) = n ∷ chain r

pub chain-same : {ns : List Node} (n m : ℕ) → n ≡ m → (r : Rooted ns n) (s : Rooted ns m) → chain r ≡ chain s
unfolding chain
chain-same {ns} n m e (top f) (top g) = cc
chain-same {ns} n m e (top f) (under {p = q} g s) = let h : parent_of ns n ≡ parent_of ns m = ap (λ k. parent_of ns k) e in cc
chain-same {ns} n m e (under {p = p} f r) (top g) = let h : parent_of ns n ≡ parent_of ns m = ap (λ k. parent_of ns k) e in cc
chain-same {ns} n m e (under {p = p} f r) (under {p = q} g s) =
    let h : parent_of ns n ≡ parent_of ns m = ap (λ k. parent_of ns k) e in
    let i : p ≡ q = cc in
    let j = chain-same p q i r s in
    cc

pub Inner : (ns : List Node) (m k : ℕ) → Type 0
Inner ns m k = (s : Rooted ns m) × (length (chain s) ≤ k)

pub or_cases : (a b : Bool) → (a || b) ≡ true → (a ≡ true) ⊎ (b ≡ true)
or_cases true b h = inl refl
or_cases false b h = inr h

pub same_from_eqb : (m n : ℕ) → eqb m n ≡ true → m ≡ n
same_from_eqb m n h = grind (arith, nat_tests)

-- a member of a chain has a chain that is no longer
pub inner : {ns : List Node} {n : ℕ} (r : Rooted ns n) (m : ℕ) → list_any (eqb m) (chain r) ≡ true → Inner ns m (length (chain r))
unfolding chain Inner
inner {ns} (top {n} e) m h =
    elim (or_cases (eqb m n) false h) [
      | inl t ↦ (top (ap (λ k. parent_of ns k) (same_from_eqb m n t) ∙ e), omega arith)
      | inr f ↦ absurd (false≢true f)
    ]
inner {ns} (under {n} {p} e r) m h =
    elim (or_cases (eqb m n) (list_any (eqb m) (chain r)) h) [
      | inl t ↦ (under (ap (λ k. parent_of ns k) (same_from_eqb m n t) ∙ e) r, omega arith)
      | inr f ↦ let i = inner r m f in (i.0, omega (arith, i.1))
    ]

pub or_false : (a b : Bool) → (a || b) ≡ false → (a ≡ false) × (b ≡ false)
or_false true b h = absurd (false≢true (sym h))
or_false false b h = (refl, h)

none_equal : (n : ℕ) (xs : List ℕ) → list_any (eqb n) xs ≡ false → AllByRecursion (λ y. eqb n y ≡ false) xs
none_equal n [] h = tt
none_equal n (x ∷ xs) h = let g = or_false (eqb n x) (list_any (eqb n) xs) h in (g.0, none_equal n xs g.1)

cases_bool : (b : Bool) → (b ≡ true) ⊎ (b ≡ false)
cases_bool true = inl refl
cases_bool false = inr refl

-- a node isn't among its ancestors, since its chain would be longer than itself
pub outside : {ns : List Node} (n p : ℕ) (e : parent_of ns n ≡ Some p) (r : Rooted ns p) → list_any (eqb n) (chain r) ≡ false
unfolding chain Inner
outside {ns} n p e r =
    elim (cases_bool (list_any (eqb n) (chain r))) [
      | inl t ↦
          let i = inner r n t in
          let j : chain i.0 ≡ n ∷ chain r = chain-same n n refl i.0 (under e r) in
          absurd (omega (arith, i.1, ap length j))
      | inr f ↦ f
    ]

pub chain-distinct : {ns : List Node} {n : ℕ} (r : Rooted ns n) → IsDistinct eqb (chain r)
unfolding chain IsDistinct
chain-distinct (top e) = (tt, tt)
chain-distinct (under {n} {p} e r) = (none_equal _ _ (outside n p e r), chain-distinct r)

pub up-chain : {ns : List Node} {n : ℕ} (r : Rooted ns n) (k : ℕ) → length (chain r) ≤ k → up ns k n ≡ chain r
unfolding chain
up-chain (top e) zero h = absurd (omega arith)
up-chain (top e) (suc k) h = rw e refl
up-chain (under e r) zero h = absurd (omega arith)
up-chain (under e r) (suc k) h = rw e (let i = up-chain r k (omega arith) in cc)

pub reaches-chain : {ns : List Node} {n : ℕ} (r : Rooted ns n) (k : ℕ) → length (chain r) ≤ k → reaches_top ns k n ≡ true
unfolding chain
reaches-chain (top e) zero h = absurd (omega arith)
reaches-chain (top e) (suc k) h = rw (e, reaches_top) refl
reaches-chain (under e r) zero h = absurd (omega arith)
reaches-chain (under e r) (suc k) h = rw (e, reaches_top) (reaches-chain r k (omega arith))

rooted_from_option : (ns : List Node) (k n : ℕ) (o : Option ℕ) → parent_of ns n ≡ o → ((p : ℕ) → reaches_top ns k p ≡ true → Rooted ns p) → (elim o as (λ _. Bool) [ None ↦ true | Some p ↦ reaches_top ns k p ]) ≡ true → Rooted ns n
rooted_from_option ns k n None e f h = top e
rooted_from_option ns k n (Some p) e f h = under e (f p h)

pub rooted_from_reaches : (ns : List Node) (k n : ℕ) → reaches_top ns k n ≡ true → Rooted ns n
rooted_from_reaches ns zero n h = absurd (false≢true h)
rooted_from_reaches ns (suc k) n h = rooted_from_option ns k n (parent_of ns n) refl (rooted_from_reaches ns k) h

-- each member of a chain is a node's number
pub chain-below : {ns : List Node} {n : ℕ} (r : Rooted ns n) → ((m p : ℕ) → parent_of ns m ≡ Some p → p < length ns) → n < length ns → (q : ℕ) → list_any (eqb q) (chain r) ≡ true → q < length ns
unfolding chain
chain-below (top {n} e) f b q h =
    elim (or_cases (eqb q n) false h) [
      | inl t ↦ let i = same_from_eqb q n t in omega arith
      | inr f ↦ absurd (false≢true f)
    ]
chain-below (under {n} {p} e r) f b q h =
    elim (or_cases (eqb q n) (list_any (eqb q) (chain r)) h) [
      | inl t ↦ let i = same_from_eqb q n t in omega arith
      | inr g ↦ chain-below r f (f n p e) q g
    ]

pub chain-fits : {ns : List Node} {n : ℕ} (r : Rooted ns n) → ((m p : ℕ) → parent_of ns m ≡ Some p → p < length ns) → n < length ns → length (chain r) ≤ length ns
chain-fits {ns} r f b = length-le_from_distinct_below (chain r) (length ns) (chain-distinct r) (chain-below r f b)

module _ (ns : List Node) (s : IsSound ns) where
  pub parent-below : (m p : ℕ) → parent_of ns m ≡ Some p → p < length ns
  parent-below m p e = s.below m p e

  pub rooted : (n : ℕ) → n < length ns → Rooted ns n
  rooted n b = rooted_from_reaches ns (length ns) n (s.topped n b)

  pub path-chain : (n : ℕ) (b : n < length ns) (r : Rooted ns n) → path ns n ≡ chain r
  path-chain n b r = up-chain r (length ns) (chain-fits r parent-below b)

  pub path-top : (n : ℕ) → n < length ns → parent_of ns n ≡ None → path ns n ≡ n ∷ []
  unfolding chain
  path-top n b e = path-chain n b (top e)

  pub path-step : (n p : ℕ) → n < length ns → parent_of ns n ≡ Some p → path ns n ≡ n ∷ path ns p
  unfolding chain
  path-step n p b e =
      let r = rooted p (parent-below n p e) in
      path-chain n b (under e r) ∙ ap (λ l. n ∷ l) (sym (path-chain p (parent-below n p e) r))
