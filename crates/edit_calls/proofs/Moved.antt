-- A node that is taken out may be put in at the spot to which it moves.
use Rattle.std.proofs.Common.{◌≡◌, ◌≢◌, ℕ, zero, suc, ◌≤◌, List, [], ◌∷◌, true, false, length, Option, Some, None, IsSome, refl, ap, sym, ◌∙◌, subst, arith, eqb, remove}
use Rattle.std.specs.Prelude.{not, if◌then◌else◌}
use Rattle.std.specs.List.{list_any}
use Rattle.std.proofs.lemmas.Bool.{eqb-false, lt-ltb, ne_eqb, le-leb}
use Rattle.css_tree.specs.Parts.{block_of}
use Rattle.node_rows.specs.Nodes.{Node, text_of, parent_of, children_of, place_of, up, holds, unlinked}
use Rattle.node_rows.specs.Sound.{IsSound}
use Rattle.node_rows.specs.Marks.{mark}
use Rattle.node_rows.proofs.Climb.{or_false}
use Rattle.node_rows.proofs.Edits.{Relinked-writes, parent-inside}
use Rattle.node_rows.proofs.Places.{place-inside}
use Rattle.node_store.specs.declared.item.Edit.{Edit}
use Rattle.node_store.specs.declared.item.Edit.TheVariants.{Insert, Remove}
use Rattle.node_store.specs.Forest.{Forest, unreserved}
use Rattle.node_store.specs.Edits.{is_allowed, is_loose, apply_all, removed_from}
use Rattle.node_store.proofs.Shapes.{marked-same, unlinked-texts}
use Rattle.edit_calls.specs.declared.spot.Spot.{Spot}
use Rattle.edit_calls.specs.declared.spot.Spot.TheVariants.{First, Last, Before, Behind}
use Rattle.edit_calls.specs.Plans.{removal, without}
use Rattle.edit_calls.specs.Answers.{Makes}
use Rattle.edit_calls.specs.Spots.{anchor_of, place_at, IsSpot, IsMove}
use Rattle.edit_calls.proofs.Turns.{both, made-nodes, Makes-from}

-- n is loose, and all else stands where it stood
pub record Loosened (ns ms : List Node) (n : ℕ) : Type 0 where
  pub same_length : length ms ≡ length ns
  pub loose : parent_of ms n ≡ None
  pub others : (m : ℕ) → m ≢ n → parent_of ms m ≡ parent_of ns m
  pub texts : (m : ℕ) → text_of ms m ≡ text_of ns m

loosened_from : (ns : List Node) (n p : ℕ) → IsSound ns → parent_of ns n ≡ Some p → Loosened ns (mark (unlinked ns p (place_of ns p n) n) p) n
loosened_from ns n p s e =
    let us : List Node = unlinked ns p (place_of ns p n) n in
    let same = marked-same us p in
    let writes = Relinked-writes ns p n (remove (children_of ns p) (place_of ns p n)) None (s.below n p e) (parent-inside ns n p e) in
    record {
      same_length = same.links.same_length ∙ writes.same_length;
      loose = same.links.parents n ∙ writes.parent_here;
      others = λ m d. same.links.parents m ∙ writes.parent_other m d;
      texts = λ m. same.texts.texts m ∙ (unlinked-texts ns p (place_of ns p n) n).texts m;
    }

loosened_at : (ns : List Node) (n : ℕ) (o : Option ℕ) → IsSound ns → parent_of ns n ≡ o → (let es : List Edit = if is_loose o then [] else Remove n ∷ [] in Loosened ns (apply_all ns es) n)
loosened_at ns n None s e = record { same_length = refl; loose = e; others = λ m d. refl; texts = λ m. refl }
loosened_at ns n (Some p) s e = subst (λ ms. Loosened ns ms n) (ap (removed_from ns n) (sym e)) (loosened_from ns n p s e)

pub loosened : (ns : List Node) (n : ℕ) → IsSound ns → Loosened ns (without ns n) n
loosened ns n s = loosened_at ns n (parent_of ns n) s refl

-- a node that was taken after memory was reserved
pub taken : (old ready mid : Forest) (n : ℕ) → unreserved ready ≡ unreserved old → Makes ready mid (removal ready.nodes n) → Makes old mid (removal old.nodes n)
taken old ready mid n e m = subst (λ ns. Makes old mid (removal ns n)) (ap (λ f. f.nodes) e) (Makes-from old ready mid (removal ready.nodes n) e m)

-- the nodes of a forest from which a node was taken
pub left : (old mid : Forest) (n : ℕ) → IsSound old.nodes → Makes old mid (removal old.nodes n) → Loosened old.nodes mid.nodes n
left old mid n s m = subst (λ ms. Loosened old.nodes ms n) (sym (made-nodes old mid (removal old.nodes n) m)) (loosened old.nodes n s)

module _ (ns ms : List Node) (n : ℕ) (l : Loosened ns ms n) where
  -- what stands above p, where n isn't there
  above_kept : (k : ℕ) → ((q : ℕ) → list_any (eqb n) (up ns k q) ≡ false → up ms k q ≡ up ns k q) → (o : Option ℕ) → list_any (eqb n) (elim o as (λ _. List ℕ) [ None ↦ [] | Some q ↦ up ns k q ]) ≡ false → (elim o as (λ _. List ℕ) [ None ↦ [] | Some q ↦ up ms k q ]) ≡ (elim o as (λ _. List ℕ) [ None ↦ [] | Some q ↦ up ns k q ])
  above_kept k f None h = refl
  above_kept k f (Some q) h = f q h

  up_kept : (k p : ℕ) → list_any (eqb n) (up ns k p) ≡ false → up ms k p ≡ up ns k p
  up_kept zero p h = refl
  up_kept (suc k) p h =
      let parts = or_false (eqb n p) _ h in
      let same = l.others p (λ e. eqb-false n p parts.0 (sym e)) in
      ap (λ o. p ∷ elim o as (λ _. List ℕ) [ None ↦ [] | Some q ↦ up ms k q ]) same ∙ ap (λ xs. p ∷ xs) (above_kept k (up_kept k) (parent_of ns p) parts.1)

  apart-kept : (p : ℕ) → holds ns n p ≡ false → holds ms n p ≡ false
  apart-kept p h = ap (λ k. list_any (eqb n) (up ms k p)) l.same_length ∙ (ap (list_any (eqb n)) (up_kept (length ns) p h) ∙ h)

  spot_kept : (p : ℕ) (spot : Spot) → IsSpot ns p spot → anchor_of spot ≢ Some n → IsSpot ms p spot
  spot_kept p First h d = tt
  spot_kept p Last h d = tt
  spot_kept p (Before a) h d = l.others a (λ e. d (ap Some e)) ∙ h
  spot_kept p (Behind a) h d = l.others a (λ e. d (ap Some e)) ∙ h

  pub spot-kept : (p : ℕ) (spot : Spot) → IsMove ns n p spot → IsSpot ms p spot
  spot-kept p spot h = spot_kept p spot h.among h.other

  place_within : (p : ℕ) (spot : Spot) → IsSound ms → IsSpot ms p spot → place_at ms p spot ≤ length (children_of ms p)
  place_within p First s h = omega arith
  place_within p Last s h = omega arith
  place_within p (Before a) s h = omega (arith, place-inside ms s a p h)
  place_within p (Behind a) s h = omega (arith, place-inside ms s a p h)

  pub insert-allowed : (p : ℕ) (spot : Spot) → IsMove ns n p spot → IsSound ms → is_allowed ms (Insert n p (place_at ms p spot)) ≡ true
  insert-allowed p spot h s =
      both _ _ (lt-ltb n (length ms) (rw l.same_length h.node_given))
      (both _ _ (lt-ltb p (length ms) (rw l.same_length h.given))
      (both _ _ (ap not (ne_eqb n 0 h.not_root))
      (both _ _ (ap is_loose l.loose)
      (both _ _ (ap not (apart-kept p h.apart))
      (both _ _ (subst (λ t. IsSome (block_of t)) (sym (l.texts p)) h.block)
      (le-leb (place_at ms p spot) (length (children_of ms p)) (place_within p spot s (spot-kept p spot h))))))))
