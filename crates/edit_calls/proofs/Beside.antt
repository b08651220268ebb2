-- A node that may be put beside another one, and what stands there after that.
use Rattle.std.proofs.Common.{◌≡◌, ◌≢◌, ℕ, ◌<◌, List, [], ◌∷◌, ◌++◌, Bool, true, false, ◌||◌, length, Some, IfSome, Ok, refl, ap, sym, ◌∙◌, subst, insert, add-zero}
use Rattle.std.specs.Prelude.{not, nat_lt, nat_eq}
use Rattle.std.proofs.lemmas.Bool.{eqb-false, ltb-true, false≢true}
use Rattle.node_rows.specs.Nodes.{Node, parent_of, children_of, place_of, holds, linked}
use Rattle.node_rows.specs.Marks.{mark, dirtied}
use Rattle.node_rows.proofs.Climb.{or_false}
use Rattle.node_rows.proofs.Edits.{Relinked-writes}
use Rattle.node_rows.proofs.Holds.{holds_on}
use Rattle.node_store.specs.declared.fault.TreeFault.{TreeFault}
use Rattle.node_store.specs.declared.fault.TreeFault.TheVariants.{NoSuchNode, IsRoot, SameNode, Loose, Cycle}
use Rattle.node_store.specs.declared.item.Edit.{Edit}
use Rattle.node_store.specs.declared.item.Edit.TheVariants.{Insert, Remove}
use Rattle.node_store.specs.Forest.{Forest, IsForest}
use Rattle.node_store.specs.Edits.{is_allowed, is_loose}
use Rattle.node_store.proofs.Shapes.{marked-same, dirtied-same, SameButMarks-then}
use Rattle.edit_calls.specs.declared.spot.Spot.{Spot}
use Rattle.edit_calls.specs.declared.spot.Spot.TheVariants.{Before}
use Rattle.edit_calls.specs.Plans.{is_unknown, is_top, removal, without, moving, beside, refused_beside, refused_out, replacing}
use Rattle.edit_calls.specs.Checks.{checked}
use Rattle.edit_calls.specs.Spots.{anchor_of, place_at, IsMove}
use Rattle.edit_calls.specs.Answers.{Makes, Answers}
use Rattle.edit_calls.proofs.Answering.{plan-ok}
use Rattle.edit_calls.proofs.Turns.{made-nodes, Makes-then, apply_all-append}
use Rattle.edit_calls.proofs.Moved.{loosened}

-- the first test doesn't hold
pub past : (b : Bool) (f : TreeFault) (rs : List (Bool × TreeFault)) → checked ((b, f) ∷ rs) ≡ Ok tt → (b ≡ false) × (checked rs ≡ Ok tt)
past true f rs h = absurd cc
past false f rs h = (refl, h)

not_false : (b : Bool) → not b ≡ false → b ≡ true
not_false true h = refl
not_false false h = absurd (false≢true (sym h))

pub given : (ns : List Node) (n : ℕ) → is_unknown ns n ≡ false → n < length ns
given ns n h = ltb-true n (length ns) (not_false (nat_lt n (length ns)) h)

-- what is known of a node a, and of a node n that may be put beside it
record Near (ns : List Node) (a n : ℕ) : Type 0 where
  anchor_given : a < length ns
  node_given : n < length ns
  not_root : n ≢ 0
  differ : a ≢ n
  apart : holds ns n a ≡ false

near : (ns : List Node) (a n : ℕ) → checked (refused_beside ns a n) ≡ Ok tt → Near ns a n
near ns a n h =
    let r5 : List (Bool × TreeFault) = (holds ns n a, Cycle) ∷ [] in
    let r4 : List (Bool × TreeFault) = (is_top ns a, Loose) ∷ r5 in
    let r3 : List (Bool × TreeFault) = (nat_eq a n, SameNode) ∷ r4 in
    let r2 : List (Bool × TreeFault) = (nat_eq a 0 || nat_eq n 0, IsRoot) ∷ r3 in
    let r1 : List (Bool × TreeFault) = (is_unknown ns n, NoSuchNode) ∷ r2 in
    let p1 = past (is_unknown ns a) NoSuchNode r1 h in
    let p2 = past (is_unknown ns n) NoSuchNode r2 p1.1 in
    let p3 = past (nat_eq a 0 || nat_eq n 0) IsRoot r3 p2.1 in
    let p4 = past (nat_eq a n) SameNode r4 p3.1 in
    let p5 = past (is_top ns a) Loose r5 p4.1 in
    let p6 = past (holds ns n a) Cycle [] p5.1 in
    record {
      anchor_given = given ns a p1.0;
      node_given = given ns n p2.0;
      not_root = eqb-false n 0 (or_false (nat_eq a 0) (nat_eq n 0) p3.0).1;
      differ = eqb-false a n p4.0;
      apart = p6.0;
    }

pub out-allowed : (ns : List Node) (n : ℕ) → checked (refused_out ns n) ≡ Ok tt → is_allowed ns (Remove n) ≡ true
out-allowed ns n h =
    let r2 : List (Bool × TreeFault) = (is_top ns n, Loose) ∷ [] in
    let r1 : List (Bool × TreeFault) = (nat_eq n 0, IsRoot) ∷ r2 in
    let p1 = past (is_unknown ns n) NoSuchNode r1 h in
    let p2 = past (nat_eq n 0) IsRoot r2 p1.1 in
    ap not (past (is_top ns n) Loose [] p2.1).0

pub beside-allowed : (f : Forest) (a n p : ℕ) → IsForest f → checked (refused_beside f.nodes a n) ≡ Ok tt → parent_of f.nodes a ≡ Some p → (spot : Spot) → anchor_of spot ≡ Some a → IsMove f.nodes n p spot
beside-allowed f a n p k h e spot g =
    let ns : List Node = f.nodes in
    let w = near ns a n h in
    record {
      node_given = w.node_given;
      given = k.sound.below a p e;
      not_root = w.not_root;
      block = k.containers a p e;
      apart = sym (holds_on ns n a p k.sound w.anchor_given w.differ e) ∙ w.apart;
      among = subst (λ o. IfSome o (λ m. parent_of ns m ≡ Some p)) (sym g) e;
      other = λ i. w.differ (let j : Some a ≡ Some n = sym g ∙ i in cc);
    }

-- the anchor stays where it is
anchor-stays : (old mid : Forest) (a n p at : ℕ) → IsForest old → checked (refused_beside old.nodes a n) ≡ Ok tt → parent_of old.nodes a ≡ Some p → Makes old mid (moving old.nodes n p at) → parent_of mid.nodes a ≡ Some p
anchor-stays old mid a n p at k h e m =
    let ns : List Node = old.nodes in
    let ls : List Node = without ns n in
    let us : List Node = linked ls p at n in
    let w = near ns a n h in
    let l = loosened ns n k.sound in
    let writes = Relinked-writes ls p n (insert (children_of ls p) at n) (Some p) (rw l.same_length (k.sound.below a p e)) (rw l.same_length w.node_given) in
    let same = SameButMarks-then us (dirtied us n) (mark (dirtied us n) p) (dirtied-same us n) (marked-same (dirtied us n) p) in
    let nodes = made-nodes old mid (moving ns n p at) m ∙ apply_all-append ns (removal ns n) (Insert n p at ∷ []) in
    ap (λ ms. parent_of ms a) nodes ∙ (same.links.parents a ∙ (writes.parent_other a w.differ ∙ (l.others a w.differ ∙ e)))

-- the anchor may be taken out then
pub anchor-allowed : (old mid : Forest) (a n p at : ℕ) → IsForest old → checked (refused_beside old.nodes a n) ≡ Ok tt → parent_of old.nodes a ≡ Some p → Makes old mid (moving old.nodes n p at) → is_allowed mid.nodes (Remove a) ≡ true
anchor-allowed old mid a n p at k h e m = ap (λ o. not (is_loose o)) (anchor-stays old mid a n p at k h e m)

-- the node stands before the anchor, which is then taken out
pub replaced : (old mid new : Forest) (a n p : ℕ) → checked (refused_beside old.nodes a n) ≡ Ok tt → parent_of old.nodes a ≡ Some p
    → Makes old mid (moving old.nodes n p (place_at (without old.nodes n) p (Before a))) → Makes mid new (Remove a ∷ []) → Answers (replacing old.nodes a n) old new (Ok tt)
replaced old mid new a n p h e m t =
    let ns : List Node = old.nodes in
    let at : ℕ = place_of (without ns n) p a in
    let es : List Edit = beside ns (parent_of ns a) a n 0 in
    let same : moving ns n p at ≡ es = ap (moving ns n p) (sym (add-zero at)) ∙ ap (λ o. beside ns o a n 0) (sym e) in
    let made = subst (λ fs. Makes old mid fs) same m in
    (es ++ Remove a ∷ [], plan-ok (refused_beside ns a n) (es ++ Remove a ∷ []) h, Makes-then old mid new es (Remove a ∷ []) made t)
