-- What an insertion and a removal change, as far as the two invariants need it.
use Rattle.std.proofs.Common.{◌⊎◌, inl, inr, ◌≡◌, ◌≢◌, ℕ, suc, ◌-◌, ◌<◌, List, Bool, true, false, length, Option, Some, None, refl, ap, sym, ◌∙◌, arith, eqb, drop, insert, remove, cond, subst, get_or, ◌||◌, ltb}
use Rattle.std.specs.Prelude.{not, ◌&&◌, nat_eq, nat_lt}
use Rattle.std.proofs.lemmas.Bool.{false≢true, cases_eq, ne_eqb, eqb-false, cases_Bool, and_left, and_parts, ltb-true}
use Rattle.node_rows.specs.Nodes.{Node, parent_of, children_of, text_of, is_dirty, holds, linked, unlinked, place_of, with_parent, with_children}
use Rattle.node_rows.specs.Sound.{is_number, IsSound}
use Rattle.node_rows.specs.Marks.{mark, dirtied}
use Rattle.node_store.specs.declared.item.Edit.{Edit}
use Rattle.node_store.specs.declared.item.Edit.TheVariants.{Set, SetRaw, New, Insert, Remove}
use Rattle.css_tree.specs.declared.node.Raw.{Raw}
use Rattle.css_tree.specs.declared.node.Raw.TheVariants as R
use Rattle.css_tree.specs.declared.node.NodeText.{NodeText}
use Rattle.css_tree.specs.declared.node.NodeText.TheVariants.{Root, AtRule, Rule, Declaration, Comment}
use Rattle.css_tree.specs.Parts.{kind_of}
use Rattle.css_tree.specs.Changes.{takes_field, with_raw, with_before}
use Rattle.visitor_machine.specs.Hooks.{key_of}
use Rattle.node_rows.proofs.Climb.{same_from_eqb}
use Rattle.node_store.specs.Edits.{is_allowed, apply, can, touches, moved, moved_up, moved_down, moved_from, removed_from, is_loose}
use Rattle.node_rows.proofs.Fields.{field_kept}
use Rattle.node_rows.proofs.Edits.{Relinked, Relinked-writes, IsSound-linked, IsSound-unlinked}
use Rattle.node_rows.proofs.SameLinks.{IsSound-same}
use Rattle.node_rows.proofs.Edits.{parent-inside}
use Rattle.visitor_machine.proofs.Above.{Above, here, below, above_from_holds, above_step}
use Rattle.visitor_machine.proofs.Members.{Mem}
use Rattle.visitor_machine.proofs.Marks.{Marking, marking, Dirtying}
use Rattle.visitor_machine.proofs.Document.{dirtying}
use Rattle.visitor_machine.proofs.Places.{placed, child_mem}
use Rattle.visitor_machine.proofs.Changes.{Changed, above_same, above_inside, clean_before, changed_set, changed_raw, changed_new}

moved_miss : (x : ℕ) (p at q k : ℕ) → q ≢ p → cond (eqb q p && ltb at k) x k ≡ k
moved_miss x p at q k d = ap (λ b. cond b x k) (and_left (eqb q p) (ltb at k) (ne_eqb q p d))

module _ (ns ls : List Node) (p at n : ℕ) (h : Relinked ns ls p n (insert (children_of ns p) at n) (Some p)) where
  stays_up : (c q k : ℕ) → q ≢ p → Mem c (drop k (children_of ns q)) → Mem c (drop (moved_up p at q k) (children_of ls q))
  stays_up c q k d m = rw (moved_miss (suc k) p at q k d) (subst (λ xs. Mem c (drop k xs)) (sym (h.list_other q d)) m)

  -- what is in the tree afterwards is in the tree that was put in, or was in the tree
  above_back : {c : ℕ} → Above ls 0 c → Above ls n c ⊎ Above ns 0 c
  above_back (here e) = inr (here e)
  above_back (below {c} {p = q} e r) = elim (cases_eq c n) [
    | inl i ↦ inl (here i)
    | inr d ↦ elim (above_back r) [ inl j ↦ inl (below e j) | inr j ↦ inr (below (sym (h.parent_other c d) ∙ e) j) ]
  ]

  above_on : {c : ℕ} → Above ns n c → Above ls n c
  above_on (here e) = here e
  above_on (below {c} {p = q} e r) = elim (cases_eq c n) [
    | inl i ↦ here i
    | inr d ↦ below (h.parent_other c d ∙ e) (above_on r)
  ]

changed_insert_by : (ns ls ds ms : List Node) (p at n : ℕ) → IsSound ns → 0 < length ls → IsSound ls → Relinked ns ls p n (insert (children_of ns p) at n) (Some p) → ((m : ℕ) → is_dirty ls m ≡ is_dirty ns m) → ((m : ℕ) → text_of ls m ≡ text_of ns m) → Dirtying ls ds n → Marking ds ms p → IsSound ds → Changed ns ms (λ m. nat_eq m p || holds ns n m) (moved_up p at)
changed_insert_by ns ls ds ms p at n s zl sl h d t hd hm sd =
    let same : (m : ℕ) → parent_of ms m ≡ parent_of ls m = λ m. hm.tree.links.parents m ∙ hd.tree.links.parents m in
    let lists : (m : ℕ) → children_of ms m ≡ children_of ls m = λ m. hm.tree.links.lists m ∙ hd.tree.links.lists m in
    let texts : (m : ℕ) → text_of ms m ≡ text_of ns m = λ m. hm.tree.texts m ∙ (hd.tree.texts m ∙ t m) in
    let grows : (m : ℕ) → is_dirty ns m ≡ true → is_dirty ms m ≡ true = λ m i. hm.grows m (hd.grows m (d m ∙ i)) in
    let inside : (c q : ℕ) → parent_of ls c ≡ Some q → Above ls n c → is_dirty ms q ≡ true = λ c q e a.
    elim (above_step q a e) [
      | inl i ↦ let j : parent_of ls c ≡ parent_of ls n = ap (λ k. parent_of ls k) i in let g = h.parent_here in let k : q ≡ p = cc in ap (λ x. is_dirty ms x) k ∙ hm.at_node
      | inr b ↦ hm.grows q (hd.held q (sl.below c q e) b)
    ] in
    record {
      sound = IsSound-same ds ms hm.tree.links sd;
      some = let i = hm.tree.links.same_length in let j = hd.tree.links.same_length in omega arith;
      marks = λ c q e a i.
          let f : parent_of ls c ≡ Some q = sym (same c) ∙ e in
          let b : Above ls 0 c = above_same same a in
          elim (cases_Bool (is_dirty ds c)) [
            | inr j ↦ inl (hm.news c q i j (sym (hm.tree.links.parents c) ∙ e))
            | inl j ↦ elim (hd.news c j) [
              | inr u ↦ inl (inside c q f u)
              | inl l ↦ elim (above_back ns ls p at n h b) [
                | inl u ↦ inl (inside c q f u)
                | inr o ↦ elim (cases_eq c n) [
                  | inl u ↦ inl (inside c q f (here u))
                  | inr w ↦ elim (cases_eq q p) [
                    | inl u ↦ inl (ap (λ x. is_dirty ms x) u ∙ hm.at_node)
                    | inr v ↦ inr (record {
                      child = sym (h.parent_other c w) ∙ f;
                      in_tree = o;
                      dirty = sym (d c) ∙ l;
                      grows = grows q;
                      stays = λ k m. subst (λ xs. Mem c (drop (moved_up p at q k) xs)) (sym (lists q)) (stays_up ns ls p at n h c q k v m);
                    })
                  ]
                ]
              ]
            ]
          ];
      visits = λ c a i.
          let b : Above ls 0 c = above_same same a in
          let out : Above ls n c → ⊥ = λ u. false≢true (sym i ∙ hm.grows c (hd.held c (above_inside zl b) u)) in
          let apart : c ≢ p = λ e. false≢true (sym i ∙ (ap (λ k. is_dirty ms k) e ∙ hm.at_node)) in
          let off : holds ns n c ≡ false = elim (cases_Bool (holds ns n c)) [ inl u ↦ absurd (out (above_on ns ls p at n h (above_from_holds ns n c u))) | inr u ↦ u ] in
          record {
            in_tree = elim (above_back ns ls p at n h b) [ inl u ↦ absurd (out u) | inr o ↦ o ];
            clean = clean_before ns ms c (grows c) i;
            untouched = rw (ne_eqb c p apart) off;
            kind = ap kind_of (texts c);
            key = ap key_of (texts c);
          };
    }

relinked_dirty : (ns : List Node) (p n : ℕ) (xs : List ℕ) (o : Option ℕ) (m : ℕ) → is_dirty (with_parent (with_children ns p xs) n o) m ≡ is_dirty ns m
relinked_dirty ns p n xs o m = field_kept (λ x. x.dirty) (with_children ns p xs) n _ refl m ∙ field_kept (λ x. x.dirty) ns p _ refl m

relinked_text : (ns : List Node) (p n : ℕ) (xs : List ℕ) (o : Option ℕ) (m : ℕ) → text_of (with_parent (with_children ns p xs) n o) m ≡ text_of ns m
relinked_text ns p n xs o m = field_kept (λ x. x.text) (with_children ns p xs) n _ refl m ∙ field_kept (λ x. x.text) ns p _ refl m

pub changed_insert : (ns : List Node) (p at n : ℕ) → IsSound ns → n < length ns → p < length ns → n ≢ 0 → parent_of ns n ≡ None → holds ns n p ≡ false → Changed ns (mark (dirtied (linked ns p at n) n) p) (λ m. nat_eq m p || holds ns n m) (moved_up p at)
changed_insert ns p at n s bn bp z loose apart =
    let ls = linked ns p at n in
    let h = Relinked-writes ns p n (insert (children_of ns p) at n) (Some p) bp bn in
    let sl : IsSound ls = IsSound-linked ns ls p at n s h bp bn z loose apart in
    let hd = dirtying ls n sl (let j = h.same_length in omega arith) in
    let sd : IsSound (dirtied ls n) = IsSound-same ls (dirtied ls n) hd.tree.links sl in
    let hm = marking (dirtied ls n) p sd (let i = hd.tree.links.same_length in let j = h.same_length in omega arith) in
    changed_insert_by ns ls (dirtied ls n) (mark (dirtied ls n) p) p at n s (let j = h.same_length in omega arith) sl h (relinked_dirty ns p n _ _) (relinked_text ns p n _ _) hd hm sd

module _ (ns ls : List Node) (p at n : ℕ) (h : Relinked ns ls p n (remove (children_of ns p) at) None) (g : get_or (children_of ns p) at n ≡ n) where
  stays_down : (c q k : ℕ) → q ≢ p → Mem c (drop k (children_of ns q)) → Mem c (drop (moved_down p at q k) (children_of ls q))
  stays_down c q k d m = rw (moved_miss (k - 1) p at q k d) (subst (λ xs. Mem c (drop k xs)) (sym (h.list_other q d)) m)

  apart_from : (c q : ℕ) → parent_of ls c ≡ Some q → c ≢ n
  apart_from c q e i = let j : parent_of ls c ≡ parent_of ls n = ap (λ k. parent_of ls k) i in let f = h.parent_here in absurd cc

  above_kept : {c : ℕ} → Above ls 0 c → Above ns 0 c
  above_kept (here e) = here e
  above_kept (below {c} {p = q} e r) = below (sym (h.parent_other c (apart_from c q e)) ∙ e) (above_kept r)

changed_remove_by : (ns ls ms : List Node) (p at n : ℕ) → IsSound ns → 0 < length ls → IsSound ls → Relinked ns ls p n (remove (children_of ns p) at) None → get_or (children_of ns p) at n ≡ n → ((m : ℕ) → is_dirty ls m ≡ is_dirty ns m) → ((m : ℕ) → text_of ls m ≡ text_of ns m) → Marking ls ms p → Changed ns ms (λ m. nat_eq p m) (moved_down p at)
changed_remove_by ns ls ms p at n s zl sl h g d t hm =
    let grows : (m : ℕ) → is_dirty ns m ≡ true → is_dirty ms m ≡ true = λ m i. hm.grows m (d m ∙ i) in
    record {
      sound = IsSound-same ls ms hm.tree.links sl;
      some = let i = hm.tree.links.same_length in omega arith;
      marks = λ c q e a i.
          let f : parent_of ls c ≡ Some q = sym (hm.tree.links.parents c) ∙ e in
          let w : c ≢ n = apart_from ns ls p at n h g c q f in
          elim (cases_Bool (is_dirty ls c)) [
            | inr j ↦ inl (hm.news c q i j f)
            | inl j ↦ elim (cases_eq q p) [
              | inl u ↦ inl (ap (λ x. is_dirty ms x) u ∙ hm.at_node)
              | inr v ↦ inr (record {
                child = sym (h.parent_other c w) ∙ f;
                in_tree = above_kept ns ls p at n h g (above_same hm.tree.links.parents a);
                dirty = sym (d c) ∙ j;
                grows = grows q;
                stays = λ k m. subst (λ xs. Mem c (drop (moved_down p at q k) xs)) (sym (hm.tree.links.lists q)) (stays_down ns ls p at n h g c q k v m);
              })
            ]
          ];
      visits = λ c a i.
          let apart : p ≢ c = λ e. false≢true (sym i ∙ (ap (λ k. is_dirty ms k) (sym e) ∙ hm.at_node)) in
          record {
            in_tree = above_kept ns ls p at n h g (above_same hm.tree.links.parents a);
            clean = clean_before ns ms c (grows c) i;
            untouched = ne_eqb p c apart;
            kind = ap kind_of (hm.tree.texts c ∙ t c);
            key = ap key_of (hm.tree.texts c ∙ t c);
          };
    }

changed_remove : (ns : List Node) (n p : ℕ) → IsSound ns → parent_of ns n ≡ Some p → Changed ns (mark (unlinked ns p (place_of ns p n) n) p) (λ m. nat_eq p m) (moved_down p (place_of ns p n))
changed_remove ns n p s child =
    let at = place_of ns p n in
    let ls = unlinked ns p at n in
    let i = placed n (children_of ns p) (child_mem ns n p s child) in
    let bp : p < length ns = s.below n p child in
    let bn : n < length ns = parent-inside ns n p child in
    let h = Relinked-writes ns p n (remove (children_of ns p) at) None bp bn in
    let sl : IsSound ls = IsSound-unlinked ns ls p at n s h child i.inside (i.holds_it 0) in
    let hm = marking ls p sl (let j = h.same_length in omega arith) in
    changed_remove_by ns ls (mark ls p) p at n s (let j = h.same_length in omega arith) sl h (i.holds_it n) (relinked_dirty ns p n _ _) (relinked_text ns p n _ _) hm

changed_remove_from : (ns : List Node) (n : ℕ) (o : Option ℕ) → IsSound ns → parent_of ns n ≡ o → not (is_loose o) ≡ true → Changed ns (removed_from ns n o) (λ m. is_number o m) (moved_from ns n o)
changed_remove_from ns n None s e h = absurd (false≢true h)
changed_remove_from ns n (Some p) s e h = changed_remove ns n p s e

is_not : (b : Bool) → not b ≡ true → b ≡ false
is_not true h = absurd (false≢true h)
is_not false h = refl

loose_is : (o : Option ℕ) → is_loose o ≡ true → o ≡ None
loose_is None h = refl
loose_is (Some p) h = absurd (false≢true h)

-- another raw leaves kind and key
kind_with_before : (t : List ℕ) (x : NodeText) → kind_of (with_before t x) ≡ kind_of x
kind_with_before t (Root bom block) = refl
kind_with_before t (AtRule before name after_name params between block) = refl
kind_with_before t (Rule before selector between block) = refl
kind_with_before t (Declaration before prop between value important important_raw tail) = refl
kind_with_before t (Comment before left text right) = refl

key_with_before : (t : List ℕ) (x : NodeText) → key_of (with_before t x) ≡ key_of x
key_with_before t (Root bom block) = refl
key_with_before t (AtRule before name after_name params between block) = refl
key_with_before t (Rule before selector between block) = refl
key_with_before t (Declaration before prop between value important important_raw tail) = refl
key_with_before t (Comment before left text right) = refl

kind_with_raw : (raw : Raw) (t : List ℕ) (x : NodeText) → kind_of (with_raw raw t x) ≡ kind_of x
kind_with_raw R.Before t x = kind_with_before t x
kind_with_raw R.After t (Root bom block) = refl
kind_with_raw R.After t (AtRule before name after_name params between block) = refl
kind_with_raw R.After t (Rule before selector between block) = refl
kind_with_raw R.After t (Declaration before prop between value important important_raw tail) = refl
kind_with_raw R.After t (Comment before left text right) = refl
kind_with_raw R.Between t (Root bom block) = refl
kind_with_raw R.Between t (AtRule before name after_name params between block) = refl
kind_with_raw R.Between t (Rule before selector between block) = refl
kind_with_raw R.Between t (Declaration before prop between value important important_raw tail) = refl
kind_with_raw R.Between t (Comment before left text right) = refl
kind_with_raw R.AfterName t (Root bom block) = refl
kind_with_raw R.AfterName t (AtRule before name after_name params between block) = refl
kind_with_raw R.AfterName t (Rule before selector between block) = refl
kind_with_raw R.AfterName t (Declaration before prop between value important important_raw tail) = refl
kind_with_raw R.AfterName t (Comment before left text right) = refl
kind_with_raw R.Left t (Root bom block) = refl
kind_with_raw R.Left t (AtRule before name after_name params between block) = refl
kind_with_raw R.Left t (Rule before selector between block) = refl
kind_with_raw R.Left t (Declaration before prop between value important important_raw tail) = refl
kind_with_raw R.Left t (Comment before left text right) = refl
kind_with_raw R.Right t (Root bom block) = refl
kind_with_raw R.Right t (AtRule before name after_name params between block) = refl
kind_with_raw R.Right t (Rule before selector between block) = refl
kind_with_raw R.Right t (Declaration before prop between value important important_raw tail) = refl
kind_with_raw R.Right t (Comment before left text right) = refl
kind_with_raw R.Important t (Root bom block) = refl
kind_with_raw R.Important t (AtRule before name after_name params between block) = refl
kind_with_raw R.Important t (Rule before selector between block) = refl
kind_with_raw R.Important t (Declaration before prop between value important important_raw tail) = refl
kind_with_raw R.Important t (Comment before left text right) = refl
kind_with_raw R.Tail t (Root bom block) = refl
kind_with_raw R.Tail t (AtRule before name after_name params between block) = refl
kind_with_raw R.Tail t (Rule before selector between block) = refl
kind_with_raw R.Tail t (Declaration before prop between value important important_raw tail) = refl
kind_with_raw R.Tail t (Comment before left text right) = refl
kind_with_raw R.Semicolon t (Root bom block) = refl
kind_with_raw R.Semicolon t (AtRule before name after_name params between block) = refl
kind_with_raw R.Semicolon t (Rule before selector between block) = refl
kind_with_raw R.Semicolon t (Declaration before prop between value important important_raw tail) = refl
kind_with_raw R.Semicolon t (Comment before left text right) = refl

key_with_raw : (raw : Raw) (t : List ℕ) (x : NodeText) → key_of (with_raw raw t x) ≡ key_of x
key_with_raw R.Before t x = key_with_before t x
key_with_raw R.After t (Root bom block) = refl
key_with_raw R.After t (AtRule before name after_name params between block) = refl
key_with_raw R.After t (Rule before selector between block) = refl
key_with_raw R.After t (Declaration before prop between value important important_raw tail) = refl
key_with_raw R.After t (Comment before left text right) = refl
key_with_raw R.Between t (Root bom block) = refl
key_with_raw R.Between t (AtRule before name after_name params between block) = refl
key_with_raw R.Between t (Rule before selector between block) = refl
key_with_raw R.Between t (Declaration before prop between value important important_raw tail) = refl
key_with_raw R.Between t (Comment before left text right) = refl
key_with_raw R.AfterName t (Root bom block) = refl
key_with_raw R.AfterName t (AtRule before name after_name params between block) = refl
key_with_raw R.AfterName t (Rule before selector between block) = refl
key_with_raw R.AfterName t (Declaration before prop between value important important_raw tail) = refl
key_with_raw R.AfterName t (Comment before left text right) = refl
key_with_raw R.Left t (Root bom block) = refl
key_with_raw R.Left t (AtRule before name after_name params between block) = refl
key_with_raw R.Left t (Rule before selector between block) = refl
key_with_raw R.Left t (Declaration before prop between value important important_raw tail) = refl
key_with_raw R.Left t (Comment before left text right) = refl
key_with_raw R.Right t (Root bom block) = refl
key_with_raw R.Right t (AtRule before name after_name params between block) = refl
key_with_raw R.Right t (Rule before selector between block) = refl
key_with_raw R.Right t (Declaration before prop between value important important_raw tail) = refl
key_with_raw R.Right t (Comment before left text right) = refl
key_with_raw R.Important t (Root bom block) = refl
key_with_raw R.Important t (AtRule before name after_name params between block) = refl
key_with_raw R.Important t (Rule before selector between block) = refl
key_with_raw R.Important t (Declaration before prop between value important important_raw tail) = refl
key_with_raw R.Important t (Comment before left text right) = refl
key_with_raw R.Tail t (Root bom block) = refl
key_with_raw R.Tail t (AtRule before name after_name params between block) = refl
key_with_raw R.Tail t (Rule before selector between block) = refl
key_with_raw R.Tail t (Declaration before prop between value important important_raw tail) = refl
key_with_raw R.Tail t (Comment before left text right) = refl
key_with_raw R.Semicolon t (Root bom block) = refl
key_with_raw R.Semicolon t (AtRule before name after_name params between block) = refl
key_with_raw R.Semicolon t (Rule before selector between block) = refl
key_with_raw R.Semicolon t (Declaration before prop between value important important_raw tail) = refl
key_with_raw R.Semicolon t (Comment before left text right) = refl

-- an edit that meets its condition
pub changed : (ns : List Node) (e : Edit) → IsSound ns → 0 < length ns → can ns e ≡ true → Changed ns (apply ns e) (touches ns e) (moved ns e)
changed ns (Set field n t) s z h =
    let a = and_parts (nat_lt n (length ns) && takes_field field (text_of ns n)) _ h in
    changed_set ns n _ s (ltb-true n (length ns) (and_parts (nat_lt n (length ns)) _ a.0).0)
changed ns (SetRaw raw n t) s z h = changed_raw ns n _ s z (kind_with_raw raw t (text_of ns n)) (key_with_raw raw t (text_of ns n))
changed ns (New n t span) s z h =
    let a = and_parts (is_allowed ns (New n t span)) _ h in
    let b = and_parts (nat_eq n (length ns)) _ a.0 in
    let c = ltb-true n 5000000 (and_parts (nat_lt n 5000000) _ b.1).0 in
    let d = same_from_eqb n (length ns) b.0 in
    changed_new ns t span s z (omega arith)
changed ns (Insert n p at) s z h =
    let h0 = (and_parts (is_allowed ns (Insert n p at)) _ h).0 in
    let h1 = and_parts (nat_lt n (length ns)) _ h0 in
    let h2 = and_parts (nat_lt p (length ns)) _ h1.1 in
    let h3 = and_parts (not (nat_eq n 0)) _ h2.1 in
    let h4 = and_parts (is_loose (parent_of ns n)) _ h3.1 in
    let h5 = and_parts (not (holds ns n p)) _ h4.1 in
    changed_insert ns p at n s (ltb-true n (length ns) h1.0) (ltb-true p (length ns) h2.0) (eqb-false n 0 (is_not (nat_eq n 0) h3.0)) (loose_is (parent_of ns n) h4.0) (is_not (holds ns n p) h5.0)
changed ns (Remove n) s z h = changed_remove_from ns n (parent_of ns n) s refl (and_parts (not (is_loose (parent_of ns n))) _ h).0
