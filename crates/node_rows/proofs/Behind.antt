-- The children of a node one after another, and how deep they are.
use Rattle.std.proofs.Common.{◌≡◌, ◌≢◌, ℕ, zero, suc, ◌+◌, ◌<◌, List, [], ◌∷◌, Bool, true, false, length, Option, Some, None, refl, ap, sym, ◌∙◌, arith, eqb, cond, drop, slice_get, eq-eqb, ◌||◌, count_by, IfSome, inl, inr, ◌≤◌, length-drop}
use Rattle.std.specs.Prelude.{nat_lt}
use Rattle.std.specs.List.{list_any, position_or_len}
use Rattle.std.proofs.lemmas.Bool.{false≢true, ne_eqb, cases_Bool}
use Rattle.std.proofs.lemmas.List.Sums.{sum_by-cons, count_by-le-length}
use Rattle.node_rows.specs.Nodes.{Node, parent_of, children_of, place_of, path, holds, depth_of, siblings, siblings_in, next_sibling_of, child_after, from_number, IsGiven}
use Rattle.node_rows.specs.Sound.{IsSound}
use Rattle.node_rows.proofs.Climb.{path-step, path-top, path-chain, rooted, outside, chain}
use Rattle.node_rows.proofs.Edits.{one_if, none_if, listed_once, parent-inside}
use Rattle.node_rows.proofs.Levels.{up-short}
use Rattle.node_rows.proofs.Short.{child-inside}

pub drop_none : (xs : List ℕ) (i : ℕ) → slice_get xs i ≡ None → drop i xs ≡ []
drop_none [] zero h = refl
drop_none [] (suc i) h = refl
drop_none (x ∷ xs) zero h = absurd cc
drop_none (x ∷ xs) (suc i) h = drop_none xs i h

add_one_suc : (i : ℕ) → suc i + 1 ≡ suc (i + 1)
add_one_suc i = omega arith

pub drop_some : (xs : List ℕ) (i c : ℕ) → slice_get xs i ≡ Some c → drop i xs ≡ c ∷ drop (i + 1) xs
drop_some [] i c h = absurd cc
drop_some (x ∷ xs) zero c h = let e : x ≡ c = cc in cc
drop_some (x ∷ xs) (suc i) c h = rw (add_one_suc i) (drop_some xs i c h)

counted_in : (x : ℕ) (xs : List ℕ) (i : ℕ) → slice_get xs i ≡ Some x → 0 < count_by (eqb x) xs
counted_in x [] i e = absurd cc
counted_in x (y ∷ ys) zero e = let a : y ≡ x = cc in omega (arith, sum_by-cons (λ z. cond (eqb x z) 1 0) y ys, one_if (eq-eqb x y (sym a)))
counted_in x (y ∷ ys) (suc i) e = omega (arith, sum_by-cons (λ z. cond (eqb x z) 1 0) y ys, counted_in x ys i e)

-- the place of what stands once in a list
pub place_is : (x : ℕ) (xs : List ℕ) (i : ℕ) → count_by (eqb x) xs ≡ 1 → slice_get xs i ≡ Some x → position_or_len (eqb x) xs ≡ i
place_is x [] i h e = absurd cc
place_is x (y ∷ ys) zero h e = let a : y ≡ x = cc in rw (eq-eqb x y (sym a)) refl
place_is x (y ∷ ys) (suc i) h e =
    let d = sum_by-cons (λ z. cond (eqb x z) 1 0) y ys in
    let n = counted_in x ys i e in
    elim (cases_Bool (eqb x y)) [
      | inl t ↦ absurd (omega (arith, one_if t))
      | inr f ↦ rw f (let r = place_is x ys i (omega (arith, none_if f)) e in omega arith)
    ]

pub child_parent : (ns : List Node) (o : Option ℕ) (p c : ℕ) → IfSome o (λ x. parent_of ns x ≡ Some p) → o ≡ Some c → parent_of ns c ≡ Some p
child_parent ns o p c h e = rw e at h

or_right : (a b : Bool) → b ≡ true → (a || b) ≡ true
or_right true b h = refl
or_right false b h = h

pub held-self : (ns : List Node) (top : ℕ) → top < length ns → holds ns top top ≡ true
held-self [] top b = absurd (omega arith)
held-self (x ∷ xs) top b = rw (eq-eqb top top refl) refl

deeper : (ns : List Node) (m : ℕ) → m < length ns → count_by (λ k. nat_lt 0 k) (path ns m) ≡ depth_of ns m + cond (nat_lt 0 m) 1 0
deeper [] m b = absurd (omega arith)
deeper (x ∷ xs) m b =
    let rest : List ℕ = drop 1 (path (x ∷ xs) m) in
    sum_by-cons (λ k. cond (nat_lt 0 k) 1 0) m rest ∙ omega arith

module _ (ns : List Node) (s : IsSound ns) where
  -- the child c of p at i has what follows it as its siblings
  child_is : (p i c : ℕ) → slice_get (children_of ns p) i ≡ Some c → (parent_of ns c ≡ Some p) × (drop i (children_of ns p) ≡ c ∷ siblings ns c)
  child_is p i c g =
      let e = child_parent ns (slice_get (children_of ns p) i) p c (child-inside ns p i s) g in
      let at : place_of ns p c ≡ i = place_is c (children_of ns p) i (listed_once ns c p s e) g in
      (e, drop_some (children_of ns p) i c g ∙ ap (λ l. c ∷ l) (ap (λ k. drop (k + 1) (children_of ns p)) (sym at) ∙ sym (ap (siblings_in ns c) e)))

  pub first-some : (p c : ℕ) → slice_get (children_of ns p) 0 ≡ Some c → (parent_of ns c ≡ Some p) × (children_of ns p ≡ c ∷ siblings ns c)
  first-some p c g = child_is p 0 c g

  pub first-none : (p : ℕ) → slice_get (children_of ns p) 0 ≡ None → children_of ns p ≡ []
  first-none p g = drop_none (children_of ns p) 0 g

  pub sibling-some : (n p c : ℕ) → parent_of ns n ≡ Some p → next_sibling_of ns n ≡ Some c → (parent_of ns c ≡ Some p) × (siblings ns n ≡ c ∷ siblings ns c)
  sibling-some n p c e g =
      let t = child_is p (place_of ns p n + 1) c (sym (ap (child_after ns n) e) ∙ g) in
      (t.0, ap (siblings_in ns n) e ∙ t.1)

  none_case : (n : ℕ) (o : Option ℕ) → child_after ns n o ≡ None → siblings_in ns n o ≡ []
  none_case n None g = refl
  none_case n (Some p) g = drop_none (children_of ns p) (place_of ns p n + 1) g

  pub sibling-none : (n : ℕ) → next_sibling_of ns n ≡ None → siblings ns n ≡ []
  sibling-none n g = none_case n (parent_of ns n) g

  -- a child of a node that top holds isn't top, and top holds it
  pub below-top : (top c m : ℕ) → parent_of ns c ≡ Some m → holds ns top m ≡ true → c ≢ top
  below-top top c m e h = λ i.
      let r = rooted ns s m (s.below c m e) in
      let off : list_any (eqb c) (chain r) ≡ false = outside c m e r in
      let on : list_any (eqb top) (chain r) ≡ true = ap (list_any (eqb top)) (sym (path-chain ns s m (s.below c m e) r)) ∙ h in
      let same : list_any (eqb c) (chain r) ≡ list_any (eqb top) (chain r) = ap (λ k. list_any (eqb k) (chain r)) i in
      false≢true (sym off ∙ (same ∙ on))

  pub held-below : (top c m : ℕ) → parent_of ns c ≡ Some m → holds ns top m ≡ true → holds ns top c ≡ true
  held-below top c m e h = ap (list_any (eqb top)) (path-step ns s c m (parent-inside ns c m e) e) ∙ or_right (eqb top c) (list_any (eqb top) (path ns m)) h

  pub held-above : (top c m : ℕ) → parent_of ns c ≡ Some m → c ≢ top → holds ns top c ≡ true → holds ns top m ≡ true
  held-above top c m e d h = sym (ap (list_any (eqb top)) (path-step ns s c m (parent-inside ns c m e) e) ∙ ap (λ t. t || list_any (eqb top) (path ns m)) (ne_eqb top c (λ i. d (sym i)))) ∙ h

  pub held-parent : (top m : ℕ) → m < length ns → m ≢ top → holds ns top m ≡ true → parent_of ns m ≢ None
  held-parent top m b d h = λ e. false≢true (sym (ap (list_any (eqb top)) (path-top ns s m b e) ∙ ap (λ t. t || false) (ne_eqb top m (λ i. d (sym i)))) ∙ h)

  ancestors : (c m : ℕ) → parent_of ns c ≡ Some m → depth_of ns c ≡ count_by (λ k. nat_lt 0 k) (path ns m)
  ancestors c m e = ap (λ l. count_by (λ k. nat_lt 0 k) (drop 1 l)) (path-step ns s c m (parent-inside ns c m e) e)

  -- a top isn't deep, and a child is one deeper than its parent unless that is the root
  pub depth-top : (n : ℕ) → n < length ns → parent_of ns n ≡ None → depth_of ns n ≡ 0
  depth-top n b e = ap (λ l. count_by (λ k. nat_lt 0 k) (drop 1 l)) (path-top ns s n b e)

  pub depth-step : (c m : ℕ) → parent_of ns c ≡ Some m → depth_of ns c ≡ depth_of ns m + cond (nat_lt 0 m) 1 0
  depth-step c m e = ancestors c m e ∙ deeper ns m (s.below c m e)

  pub depth-few : (n : ℕ) → depth_of ns n ≤ length ns
  depth-few n =
      let rest : List ℕ = drop 1 (path ns n) in
      omega (arith, count_by-le-length (λ k. nat_lt 0 k) rest, length-drop 1 (path ns n), up-short ns (length ns) n)

  next_case : (n : ℕ) (o t : Option ℕ) → parent_of ns n ≡ o → next_sibling_of ns n ≡ t → from_number ns t ≡ siblings ns n
  next_case n None None e g = sym (sibling-none n g)
  next_case n None (Some c) e g = absurd (let i : child_after ns n None ≡ Some c = sym (ap (child_after ns n) e) ∙ g in cc)
  next_case n (Some p) None e g = sym (sibling-none n g)
  next_case n (Some p) (Some c) e g = sym (sibling-some n p c e g).1

  -- the next sibling and those behind it
  pub from-next : (n : ℕ) → from_number ns (next_sibling_of ns n) ≡ siblings ns n
  from-next n = next_case n (parent_of ns n) (next_sibling_of ns n) refl refl

  next_inside : (n : ℕ) (o t : Option ℕ) → parent_of ns n ≡ o → next_sibling_of ns n ≡ t → IsGiven ns t
  next_inside n None None e g = tt
  next_inside n None (Some c) e g = absurd (let i : child_after ns n None ≡ Some c = sym (ap (child_after ns n) e) ∙ g in cc)
  next_inside n (Some p) None e g = tt
  next_inside n (Some p) (Some c) e g = parent-inside ns c p (sibling-some n p c e g).0

  pub next-given : (n : ℕ) → IsGiven ns (next_sibling_of ns n)
  next-given n = next_inside n (parent_of ns n) (next_sibling_of ns n) refl refl
