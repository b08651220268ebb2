-- Edits and the number of a node's children: where they took out no more nodes than the node lost children, it stays in the
-- tree.
use Rattle.std.proofs.Common.{◌≡◌, ◌≢◌, inl, inr, ℕ, ◌+◌, ◌<◌, ◌≤◌, List, [], ◌∷◌, Bool, true, false, length, Option, Some, None, refl, ap, sym, ◌∙◌, arith, map, cond, insert, remove, nat_eq, count_by, eq-eqb, subst}
use Rattle.std.proofs.lemmas.Bool.{and_parts, cases_eq, ne_eqb}
use Rattle.std.proofs.lemmas.List.Edits.{length-insert, length-remove}
use Rattle.std.proofs.lemmas.List.Sums.{sum_by-cons}
use Rattle.node_rows.specs.Nodes.{Node, new_node, parent_of, children_of, path, place_of, linked, unlinked, with_text, is_dirty}
use Rattle.node_rows.specs.NumberTrees.{numbers_below}
use Rattle.node_rows.specs.Sound.{IsSound}
use Rattle.node_rows.specs.Marks.{mark, dirtied, marked_where}
use Rattle.node_rows.proofs.Behind.{below-top}
use Rattle.node_rows.proofs.Edits.{Relinked-writes, field_pushed, parent-inside}
use Rattle.node_rows.proofs.Kept.{SameLinks-all}
use Rattle.node_rows.proofs.SameLinks.{SameLinks, SameLinks-self, SameLinks-text}
use Rattle.node_store.specs.declared.item.Edit.{Edit}
use Rattle.node_store.specs.declared.item.Edit.TheVariants.{Set, SetRaw, New, Insert, Remove}
use Rattle.node_store.specs.declared.item.Item.TheVariants as I
use Rattle.node_store.specs.Edits.{apply, apply_all, can, all_can, removed_from}
use Rattle.node_store.proofs.Allowed.{insertable, removable}
use Rattle.visitor_machine.specs.Settled.{IsInTree}
use Rattle.visitor_machine.proofs.Above.{Above, here, below, above_from_holds, holds_from_above, above_parent}
use Rattle.visitor_machine.proofs.Changes.{above_inside}
use Rattle.visitor_machine.proofs.Moves.{changed}
use Rattle.visitor_machine.proofs.Places.{placed, child_mem}
use Rattle.visitor_walk.specs.Known.{puts_into, takes_out}

links_marked : (ns : List Node) (n : ℕ) (b : Bool) → SameLinks ns (marked_where ns n b)
links_marked ns n true = SameLinks-self ns
links_marked ns n false = SameLinks-all ns ns (path ns n) (SameLinks-self ns)

links_mark : (ns : List Node) (n : ℕ) → SameLinks ns (mark ns n)
unfolding mark
links_mark ns n = links_marked ns n (is_dirty ns n)

links_dirtied : (ns : List Node) (n : ℕ) → SameLinks ns (dirtied ns n)
unfolding dirtied
links_dirtied ns n = SameLinks-all ns ns (n ∷ numbers_below ns n) (SameLinks-self ns)

-- a node whose ancestors keep their parents stays in the tree
above_kept : (ns ms : List Node) → ((c p : ℕ) → parent_of ns c ≡ Some p → parent_of ms c ≡ Some p) → {c : ℕ} → Above ns 0 c → Above ms 0 c
above_kept ns ms f (here e) = here e
above_kept ns ms f (below {c} {p} e r) = below (f c p e) (above_kept ns ms f r)

-- so much for nodes that stand above q
above_path : (ns ms : List Node) (q : ℕ) → ((c p : ℕ) → Above ns c q → parent_of ns c ≡ Some p → parent_of ms c ≡ Some p) → {c : ℕ} → Above ns 0 c → Above ns c q → Above ms 0 c
above_path ns ms q f (here e) a = here e
above_path ns ms q f (below {c} {p} e r) a = below (f c p a e) (above_path ns ms q f r (above_parent p a e))

-- The node q had so many children, and has so many after an edit that put in so many and took out so many in all.
pub record Counts (ns ms : List Node) (q put taken : ℕ) : Type 0 where
  pub fewer : length (children_of ns q) + put ≤ length (children_of ms q) + taken
  pub stays : length (children_of ns q) + put ≡ length (children_of ms q) + taken → Above ns 0 q → Above ms 0 q

abbrev one_of : Bool → ℕ
one_of b = cond b 1 0

same_counts : (ns ms : List Node) (q : ℕ) → ((n : ℕ) → parent_of ms n ≡ parent_of ns n) → children_of ms q ≡ children_of ns q → Counts ns ms q 0 0
same_counts ns ms q p l = record {
  fewer = let i : length (children_of ms q) ≡ length (children_of ns q) = ap length l in omega arith;
  stays = λ e a. above_kept ns ms (λ c p' i. p c ∙ i) a;
}

inserted : (ns : List Node) (n p at q : ℕ) → n < length ns → p < length ns → parent_of ns n ≡ None → at ≤ length (children_of ns p) → Counts ns (mark (dirtied (linked ns p at n) n) p) q (one_of (nat_eq p q)) 0
inserted ns n p at q bn bp loose place =
    let ls = linked ns p at n in
    let ms = mark (dirtied ls n) p in
    let h = Relinked-writes ns p n (insert (children_of ns p) at n) (Some p) bp bn in
    let hd = links_dirtied ls n in
    let hm = links_mark (dirtied ls n) p in
    let above : Above ns 0 q → Above ms 0 q = above_kept ns ms (λ c m e.
    let d : c ≢ n = λ i. let j : parent_of ns c ≡ parent_of ns n = ap (λ k. parent_of ns k) i in cc in
    hm.parents c ∙ (hd.parents c ∙ (h.parent_other c d ∙ e))) in
    elim (cases_eq q p) [
      | inl i ↦
          let list : children_of ms q ≡ insert (children_of ns p) at n = hm.lists q ∙ (hd.lists q ∙ (ap (λ k. children_of ls k) i ∙ h.list_here)) in
          let new : length (children_of ms q) ≡ length (insert (children_of ns p) at n) = ap length list in
          let more : length (insert (children_of ns p) at n) ≡ length (children_of ns p) + 1 = length-insert (children_of ns p) at n place in
          let old : length (children_of ns q) ≡ length (children_of ns p) = ap (λ k. length (children_of ns k)) i in
          let one : one_of (nat_eq p q) ≡ 1 = ap one_of (eq-eqb p q (sym i)) in
          record { fewer = omega arith; stays = λ e a. above a }
      | inr d ↦
          let new : length (children_of ms q) ≡ length (children_of ns q) = ap length (hm.lists q ∙ (hd.lists q ∙ h.list_other q d)) in
          let none : one_of (nat_eq p q) ≡ 0 = ap one_of (ne_eqb p q (λ e. d (sym e))) in
          record { fewer = omega arith; stays = λ e a. above a }
    ]

removed : (ns : List Node) (n p q : ℕ) → IsSound ns → 0 < length ns → parent_of ns n ≡ Some p → Counts ns (mark (unlinked ns p (place_of ns p n) n) p) q 0 1
removed ns n p q s z child =
    let at = place_of ns p n in
    let ls = unlinked ns p at n in
    let ms = mark ls p in
    let i = placed n (children_of ns p) (child_mem ns n p s child) in
    let h = Relinked-writes ns p n (remove (children_of ns p) at) None (s.below n p child) (parent-inside ns n p child) in
    let hm = links_mark ls p in
    elim (cases_eq q p) [
      | inl u ↦
          let new : length (children_of ms q) ≡ length (remove (children_of ns p) at) = ap length (hm.lists q ∙ (ap (λ k. children_of ls k) u ∙ h.list_here)) in
          let less : length (remove (children_of ns p) at) + 1 ≡ length (children_of ns p) = length-remove (children_of ns p) at i.inside in
          let old : length (children_of ns q) ≡ length (children_of ns p) = ap (λ k. length (children_of ns k)) u in
          let other : (c m : ℕ) → Above ns c q → parent_of ns c ≡ Some m → parent_of ms c ≡ Some m = λ c m a e.
          let d : c ≢ n = λ j. below-top ns s n n p child (holds_from_above s z (subst (λ k. Above ns n k) u (subst (λ k. Above ns k q) j a))) refl in
          hm.parents c ∙ (h.parent_other c d ∙ e) in
          record { fewer = omega arith; stays = λ e a. above_path ns ms q other a (here refl) }
      | inr d ↦
          let new : length (children_of ms q) ≡ length (children_of ns q) = ap length (hm.lists q ∙ h.list_other q d) in
          record { fewer = omega arith; stays = λ e a. absurd (omega arith) }
    ]

removed_from_by : (ns : List Node) (n q : ℕ) (o : Option ℕ) → IsSound ns → 0 < length ns → (p : ℕ) × (parent_of ns n ≡ Some p) → parent_of ns n ≡ o → Counts ns (removed_from ns n o) q 0 1
removed_from_by ns n q None s z h e = absurd (let i = h.1 in cc)
removed_from_by ns n q (Some p) s z h e = removed ns n p q s z e

-- one edit
counts : (ns : List Node) (e : Edit) (q : ℕ) → IsSound ns → 0 < length ns → can ns e ≡ true → Counts ns (apply ns e) q (one_of (puts_into q (I.Edit e))) (one_of (takes_out (I.Edit e)))
counts ns (Set field n text) q s z h =
    let ks = with_text ns n _ in
    let l = SameLinks-text ns n _ in
    let m = links_mark ks n in
    same_counts ns (mark ks n) q (λ k. m.parents k ∙ l.parents k) (m.lists q ∙ l.lists q)
counts ns (SetRaw raw n text) q s z h = let l = SameLinks-text ns n _ in same_counts ns _ q l.parents (l.lists q)
counts ns (New n text span) q s z h = same_counts ns _ q (field_pushed (λ x. x.parent) ns (new_node text span) refl) (field_pushed (λ x. x.children) ns (new_node text span) refl q)
counts ns (Insert n p at) q s z h = let a = insertable ns n p at (and_parts _ _ h).0 in inserted ns n p at q a.node_in a.parent_in a.loose a.place
counts ns (Remove n) q s z h = removed_from_by ns n q (parent_of ns n) s z (removable ns n (and_parts _ _ h).0) refl

-- edits in turn
put_in : ℕ → List Edit → ℕ
put_in q [] = 0
put_in q (e ∷ es) = one_of (puts_into q (I.Edit e)) + put_in q es

taken : List Edit → ℕ
taken [] = 0
taken (e ∷ es) = one_of (takes_out (I.Edit e)) + taken es

counts_all : (ns : List Node) (es : List Edit) (q : ℕ) → IsSound ns → 0 < length ns → all_can ns es ≡ true → IsSound (apply_all ns es) × (0 < length (apply_all ns es)) × Counts ns (apply_all ns es) q (put_in q es) (taken es)
unfolding put_in taken
counts_all ns [] q s z h = (s, z, same_counts ns ns q (λ n. refl) refl)
counts_all ns (e ∷ es) q s z h =
    let a = and_parts (can ns e) (all_can (apply ns e) es) h in
    let b = changed ns e s z a.0 in
    let c = counts ns e q s z a.0 in
    let d = counts_all (apply ns e) es q b.sound b.some a.1 in
    let i = c.fewer in
    let j = d.2.fewer in (
      d.0,
      d.1,
      record {
        fewer = omega arith;
        stays = λ k u. d.2.stays (omega arith) (c.stays (omega arith) u);
      },
    )

put_counted : (q : ℕ) (es : List Edit) → count_by (puts_into q) (map (λ e. I.Edit e) es) ≡ put_in q es
unfolding put_in
put_counted q [] = refl
put_counted q (e ∷ es) = let i = sum_by-cons (λ x. cond (puts_into q x) 1 0) (I.Edit e) (map (λ x. I.Edit x) es) in let j = put_counted q es in omega arith

taken_counted : (es : List Edit) → count_by takes_out (map (λ e. I.Edit e) es) ≡ taken es
unfolding taken
taken_counted [] = refl
taken_counted (e ∷ es) = let i = sum_by-cons (λ x. cond (takes_out x) 1 0) (I.Edit e) (map (λ x. I.Edit x) es) in let j = taken_counted es in omega arith

-- a node of the tree that lost as many children as nodes were taken out stays in the tree
pub stays_there : (ns : List Node) (es : List Edit) (q : ℕ) → IsSound ns → 0 < length ns → all_can ns es ≡ true
    → length (children_of (apply_all ns es) q) + count_by takes_out (map (λ e. I.Edit e) es) ≡ length (children_of ns q) + count_by (puts_into q) (map (λ e. I.Edit e) es) → IsInTree ns q → IsInTree (apply_all ns es) q
stays_there ns es q s z h e t =
    let a = counts_all ns es q s z h in
    let i = put_counted q es in
    let j = taken_counted es in
    let k = a.2.stays (omega arith) (above_from_holds ns 0 q t.1) in
    (above_inside a.1 k, holds_from_above a.0 a.1 k)
