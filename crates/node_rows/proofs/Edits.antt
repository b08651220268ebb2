-- A node more, a child more and a child less keep the nodes sound.
use Rattle.std.proofs.Common.{◌≡◌, ◌≢◌, ℕ, zero, suc, ◌+◌, ◌<◌, ◌≤◌, List, [], ◌∷◌, Bool, true, false, length, Option, Some, None, refl, ap, sym, ◌∙◌, arith, eqb, cond, insert, remove, get_or, nat_eq, count_by, length-set, ◌⊎◌, inl, inr}
use Rattle.std.proofs.lemmas.List.{get_or_past}
use Rattle.std.proofs.Common.{◌++◌, length-append}
use Rattle.std.proofs.lemmas.Bool.{cases_lt}
use Rattle.std.proofs.lemmas.Bool.{cases_eq, ne_eqb, eqb-false}
use Rattle.std.proofs.lemmas.List.Sums.{sum_by-insert, sum_by-remove}
use Rattle.std.proofs.Common.{eq-eqb}
use Rattle.std.specs.List.{list_any}
use Rattle.node_rows.specs.Nodes.{Node, node_at, parent_of, children_of, with_children, with_parent, no_node, holds}
use Rattle.node_rows.specs.Sound.{IsSound, is_number}
use Rattle.node_rows.proofs.Fields.{field_kept, field_other, field_same}
use Rattle.node_rows.proofs.Climb.{Rooted, top, under, chain, chain-fits, reaches-chain, rooted, or_false, path-chain}

-- the nodes are sound where each is rooted
pub IsSound-from_rooted : (ns : List Node) → length ns ≤ 67108865 → parent_of ns 0 ≡ None → ((n p : ℕ) → parent_of ns n ≡ Some p → p < length ns) → ((n p : ℕ) → count_by (nat_eq n) (children_of ns p) ≡ cond (is_number (parent_of ns n) p) 1 0) → ((n : ℕ) → n < length ns → Rooted ns n) → IsSound ns
IsSound-from_rooted ns few root below listed r = record {
  few = few;
  root = root;
  below = below;
  listed = listed;
  topped = λ n b. reaches-chain (r n b) (length ns) (chain-fits (r n b) below b);
}

-- only n's parent and p's children differ
pub record Relinked (ns ms : List Node) (p n : ℕ) (xs : List ℕ) (o : Option ℕ) : Type 0 where
  pub same_length : length ms ≡ length ns
  pub parent_here : parent_of ms n ≡ o
  pub parent_other : (m : ℕ) → m ≢ n → parent_of ms m ≡ parent_of ns m
  pub list_here : children_of ms p ≡ xs
  pub list_other : (q : ℕ) → q ≢ p → children_of ms q ≡ children_of ns q

pub Relinked-writes : (ns : List Node) (p n : ℕ) (xs : List ℕ) (o : Option ℕ) → p < length ns → n < length ns → Relinked ns (with_parent (with_children ns p xs) n o) p n xs o
Relinked-writes ns p n xs o bp bn =
    let ks = with_children ns p xs in
    let l : length ks ≡ length ns = length-set _ _ _ in
    record {
      same_length = length-set _ _ _ ∙ l;
      parent_here = field_same (λ x. x.parent) ks n _ (rw l bn);
      parent_other = λ m h. field_other (λ x. x.parent) ks n _ m h ∙ field_kept (λ x. x.parent) ns p _ refl m;
      list_here = field_kept (λ x. x.children) ks n _ refl p ∙ field_same (λ x. x.children) ns p _ bp;
      list_other = λ q h. field_kept (λ x. x.children) ks n _ refl q ∙ field_other (λ x. x.children) ns p _ q h;
    }

-- n's chain in the old nodes, where m isn't on it, is one in the new
module _ (ns ms : List Node) (p n : ℕ) (xs : List ℕ) (h : Relinked ns ms p n xs (Some p)) (loose : parent_of ns n ≡ None) where
  pub rooted_off : {m : ℕ} (r : Rooted ns m) → list_any (eqb n) (chain r) ≡ false → Rooted ms m
  unfolding chain
  rooted_off (top {n = m} e) f =
      let g = or_false (eqb n m) false f in
      top (h.parent_other m (λ i. eqb-false n m g.0 (sym i)) ∙ e)
  rooted_off (under {n = m} {p = q} e r) f =
      let g = or_false (eqb n m) (list_any (eqb n) (chain r)) f in
      under (h.parent_other m (λ i. eqb-false n m g.0 (sym i)) ∙ e) (rooted_off r g.1)

  pub rooted_linked : {m : ℕ} (r : Rooted ns m) → Rooted ms p → Rooted ms m
  rooted_linked (top {n = m} e) g =
      elim (cases_eq m n) [
        | inl i ↦ under (ap (λ k. parent_of ms k) i ∙ h.parent_here) g
        | inr d ↦ top (h.parent_other m d ∙ e)
      ]
  rooted_linked (under {n = m} {p = q} e r) g =
      let d : m ≢ n = λ i. let j : parent_of ns m ≡ parent_of ns n = ap (λ k. parent_of ns k) i in cc in
      under (h.parent_other m d ∙ e) (rooted_linked r g)

module _ (ns ms : List Node) (p n : ℕ) (xs : List ℕ) (h : Relinked ns ms p n xs None) where
  pub rooted_unlinked : {m : ℕ} (r : Rooted ns m) → Rooted ms m
  rooted_unlinked (top {n = m} e) =
      elim (cases_eq m n) [
        | inl i ↦ top (ap (λ k. parent_of ms k) i ∙ h.parent_here)
        | inr d ↦ top (h.parent_other m d ∙ e)
      ]
  rooted_unlinked (under {n = m} {p = q} e r) =
      elim (cases_eq m n) [
        | inl i ↦ top (ap (λ k. parent_of ms k) i ∙ h.parent_here)
        | inr d ↦ under (h.parent_other m d ∙ e) (rooted_unlinked r)
      ]

pub one_if : {b : Bool} → b ≡ true → cond {A = ℕ} b 1 0 ≡ 1
one_if {b} e = let f : Bool → ℕ = λ c. cond c 1 0 in ap f e

pub none_if : {b : Bool} → b ≡ false → cond {A = ℕ} b 1 0 ≡ 0
none_if {b} e = let f : Bool → ℕ = λ c. cond c 1 0 in ap f e

-- what n's parent and p's children are, case by case
module _ (ns ms : List Node) (p n : ℕ) (xs : List ℕ) (o : Option ℕ) (h : Relinked ns ms p n xs o) (s : IsSound ns) where
  listed_each : (count_by (eqb n) xs ≡ cond (is_number o p) 1 0) → ((m : ℕ) → m ≢ n → count_by (eqb m) xs ≡ count_by (eqb m) (children_of ns p)) → ((q : ℕ) → q ≢ p → count_by (eqb n) (children_of ns q) ≡ cond (is_number o q) 1 0) → (m q : ℕ) → count_by (eqb m) (children_of ms q) ≡ cond (is_number (parent_of ms m) q) 1 0
  listed_each a b d m q =
      elim (cases_eq q p) [
        | inl i ↦ elim (cases_eq m n) [
          | inl j ↦ rw (i, j, h.list_here, h.parent_here) a
          | inr k ↦ rw (i, h.list_here, h.parent_other m k) (b m k ∙ s.listed m p)
        ]
        | inr f ↦ elim (cases_eq m n) [
          | inl j ↦ rw (j, h.list_other q f, h.parent_here) (d q f)
          | inr k ↦ rw (h.list_other q f, h.parent_other m k) (s.listed m q)
        ]
      ]

  below_each : ((q : ℕ) → o ≡ Some q → q < length ns) → (m q : ℕ) → parent_of ms m ≡ Some q → q < length ms
  below_each a m q e =
      rw h.same_length (elim (cases_eq m n) [
        | inl j ↦ a q (sym h.parent_here ∙ (ap (λ k. parent_of ms k) (sym j) ∙ e))
        | inr k ↦ s.below m q (sym (h.parent_other m k) ∙ e)
      ])

none_listed : (ns : List Node) (n : ℕ) → IsSound ns → parent_of ns n ≡ None → (q : ℕ) → count_by (eqb n) (children_of ns q) ≡ 0
none_listed ns n s e q = s.listed n q ∙ rw e refl

pub IsSound-linked : (ns ms : List Node) (p at n : ℕ) → IsSound ns → Relinked ns ms p n (insert (children_of ns p) at n) (Some p) → p < length ns → n < length ns → n ≢ 0 → parent_of ns n ≡ None → holds ns n p ≡ false → IsSound ms
IsSound-linked ns ms p at n s h bp bn nz loose apart =
    let xs : List ℕ = children_of ns p in
    let r = rooted ns s p bp in
    let off : list_any (eqb n) (chain r) ≡ false = ap (list_any (eqb n)) (sym (path-chain ns s p bp r)) ∙ apart in
    let here : count_by (eqb n) (insert xs at n) ≡ 1 = sum_by-insert (λ x. cond (eqb n x) 1 0) xs at n ∙ omega (arith, none_listed ns n s loose p, one_if (eq-eqb n n refl)) in
    IsSound-from_rooted ms
    (rw h.same_length s.few)
    (h.parent_other 0 (λ e. nz (sym e)) ∙ s.root)
    (below_each ns ms p n (insert xs at n) (Some p) h s (λ q e. let i : p ≡ q = cc in rw (← i) bp))
    (listed_each ns ms p n (insert xs at n) (Some p) h s
    (here ∙ sym (one_if (eq-eqb p p refl)))
    (λ m k. sum_by-insert (λ x. cond (eqb m x) 1 0) xs at n ∙ omega (arith, none_if (ne_eqb m n k)))
    (λ q f. none_listed ns n s loose q ∙ sym (none_if (ne_eqb p q (λ e. f (sym e))))))
    (λ m b. rooted_linked ns ms p n (insert xs at n) h loose (rooted ns s m (rw (← h.same_length) b)) (rooted_off ns ms p n (insert xs at n) h loose r off))

pub IsSound-unlinked : (ns ms : List Node) (p at n : ℕ) → IsSound ns → Relinked ns ms p n (remove (children_of ns p) at) None → parent_of ns n ≡ Some p → at < length (children_of ns p) → get_or (children_of ns p) at 0 ≡ n → IsSound ms
IsSound-unlinked ns ms p at n s h child inside here =
    let xs : List ℕ = children_of ns p in
    let nz : n ≢ 0 = λ i. let j : parent_of ns n ≡ parent_of ns 0 = ap (λ k. parent_of ns k) i in let r = s.root in absurd cc in
    let one : count_by (eqb n) xs ≡ 1 = s.listed n p ∙ rw child (one_if (eq-eqb p p refl)) in
    IsSound-from_rooted ms
    (rw h.same_length s.few)
    (h.parent_other 0 (λ e. nz (sym e)) ∙ s.root)
    (below_each ns ms p n (remove xs at) None h s (λ q e. absurd cc))
    (listed_each ns ms p n (remove xs at) None h s
    (omega (arith, one, sum_by-remove (λ x. cond (eqb n x) 1 0) xs at 0 inside, one_if (eq-eqb n (get_or xs at 0) (sym here))))
    (λ m k. omega (arith, sum_by-remove (λ x. cond (eqb m x) 1 0) xs at 0 inside, none_if (ne_eqb m (get_or xs at 0) (λ e. k (e ∙ here)))))
    (λ q f. s.listed n q ∙ rw child (none_if (ne_eqb p q (λ e. f (sym e))))))
    (λ m b. rooted_unlinked ns ms p n (remove xs at) h (rooted ns s m (rw (← h.same_length) b)))

-- a child is listed once
pub listed_once : (ns : List Node) (n p : ℕ) → IsSound ns → parent_of ns n ≡ Some p → count_by (eqb n) (children_of ns p) ≡ 1
listed_once ns n p s e = s.listed n p ∙ rw e (one_if (eq-eqb p p refl))

pub field_pushed : {A : Type 0} (f : Node → A) (ns : List Node) (x : Node) → f x ≡ f no_node → (m : ℕ) → f (node_at (ns ++ x ∷ []) m) ≡ f (node_at ns m)
field_pushed f [] x e zero = e
field_pushed f [] x e (suc m) = refl
field_pushed f (y ∷ ys) x e zero = refl
field_pushed f (y ∷ ys) x e (suc m) = field_pushed f ys x e m

pub Rooted-same : (ns ms : List Node) → ((n : ℕ) → parent_of ms n ≡ parent_of ns n) → {m : ℕ} → Rooted ns m → Rooted ms m
Rooted-same ns ms h (top {n = m} e) = top (h m ∙ e)
Rooted-same ns ms h (under {n = m} {p = q} e r) = under (h m ∙ e) (Rooted-same ns ms h r)

pushed_root : (ns : List Node) (x : Node) → ((n : ℕ) → parent_of (ns ++ x ∷ []) n ≡ parent_of ns n) → IsSound ns → (n : ℕ) → (n < length ns) ⊎ (length ns ≤ n) → Rooted (ns ++ x ∷ []) n
pushed_root ns x h s n (inl b) = Rooted-same ns (ns ++ x ∷ []) h (rooted ns s n b)
pushed_root ns x h s n (inr b) = top (h n ∙ ap (λ y. y.parent) (get_or_past ns n no_node b))

-- one more loose node without children keeps the nodes sound, though the walks may be longer by one
pub IsSound-pushed : (ns : List Node) (x : Node) → x.parent ≡ None → x.children ≡ [] → length ns < 67108865 → IsSound ns → IsSound (ns ++ x ∷ [])
IsSound-pushed ns x loose empty room s =
    let ms = ns ++ x ∷ [] in
    let l : length ms ≡ length ns + 1 = length-append ns (x ∷ []) ∙ omega arith in
    let parents = field_pushed (λ y. y.parent) ns x loose in
    let lists = field_pushed (λ y. y.children) ns x empty in
    IsSound-from_rooted ms (omega arith) (parents 0 ∙ s.root)
    (λ n p e. let b = s.below n p (sym (parents n) ∙ e) in omega arith)
    (λ n p. rw (lists p, parents n) (s.listed n p))
    (λ n b. pushed_root ns x parents s n (cases_lt n (length ns)))

-- a node with a parent was given out
pub parent-inside : (ns : List Node) (n p : ℕ) → parent_of ns n ≡ Some p → n < length ns
parent-inside ns n p e = elim (cases_lt n (length ns)) [ inl h ↦ h | inr h ↦ absurd (let i = ap (λ x. x.parent) (get_or_past ns n no_node h) in cc) ]
