-- Visits whose nodes are known to be in the tree.
use Rattle.std.proofs.Common.{◌≡◌, ℕ, zero, suc, ◌+◌, ◌<◌, List, [], ◌∷◌, Bool, true, false, length, Option, Some, None, refl, ap, ◌∙◌, subst, drop, cond, arith}
use Rattle.node_rows.specs.Nodes.{Node, children_of, parent_of, is_dirty}
use Rattle.node_rows.specs.Sound.{IsSound}
use Rattle.node_rows.specs.Marks.{with_mark}
use Rattle.node_rows.proofs.Behind.{held-self, held-below}
use Rattle.node_rows.proofs.Edits.{parent-inside}
use Rattle.node_rows.proofs.Levels.{Each, children_each}
use Rattle.node_rows.proofs.SameLinks.{SameLinks-self, SameLinks-marked, holds-same}
use Rattle.node_store.specs.declared.item.Edit.{Edit}
use Rattle.node_store.specs.Cursors.{through, further, first_of}
use Rattle.node_store.specs.Edits.{apply_all}
use Rattle.visitor_machine.specs.Settled.{IsInTree}
use Rattle.visitor_walk.specs.declared.turn.Open.{Open}
use Rattle.visitor_walk.specs.Turns.{IsSure, AllSure, due_child}

pub sure_from : (ns : List Node) (k : ℕ) (o : Open) → o.sure ≡ k → IsInTree ns o.node → IsSure ns k o
sure_from ns k o e h = record { past = omega arith; there = λ i. h }

pub root_there : (ns : List Node) → 0 < length ns → IsInTree ns 0
root_there ns b = (b, held-self ns 0 b)

pub there_marked : (ns : List Node) (m n : ℕ) → IsInTree ns n → IsInTree (with_mark ns m false) n
there_marked ns m n h =
    let l = SameLinks-marked ns ns m false (SameLinks-self ns) in
    (rw l.same_length h.0, holds-same ns (with_mark ns m false) l 0 n ∙ h.1)

-- a mark takes no node out of the tree
pub sure_marked : (ns : List Node) (m k : ℕ) (os : List Open) → AllSure ns k os → AllSure (with_mark ns m false) k os
sure_marked ns m k [] h = tt
sure_marked ns m k (o ∷ os) h = (record { past = h.0.past; there = λ e. there_marked ns m o.node (h.0.there e) }, sure_marked ns m k os h.1)

-- after more edits no visit is of the last
sure_later : (ns ms : List Node) (k j : ℕ) → k < j → (os : List Open) → AllSure ns k os → AllSure ms j os
sure_later ns ms k j l [] h = tt
sure_later ns ms k j l (o ∷ os) h = (record { past = let p = h.0.past in omega arith; there = λ e. absurd (let p = h.0.past in omega arith) }, sure_later ns ms k j l os h.1)

pub sure_edited : (ns : List Node) (k : ℕ) (es : List Edit) (os : List Open) → AllSure ns k os → AllSure (apply_all ns es) (k + length es) os
sure_edited ns k [] os h = let e : k ≡ k + 0 = omega arith in subst (λ j. AllSure ns j os) e h
sure_edited ns k (e ∷ es) os h = sure_later ns _ k _ (omega arith) os h

drop_each : (P : ℕ → Type 0) (k : ℕ) (xs : List ℕ) → Each P xs → Each P (drop k xs)
drop_each P zero xs a = a
drop_each P (suc k) [] a = tt
drop_each P (suc k) (x ∷ xs) a = drop_each P k xs a.1

found_by : (P : ℕ → Type 0) (y : ℕ) (b : Bool) (o : Option (ℕ × ℕ)) (x : ℕ × ℕ) → cond b (Some (y, 1)) (further o) ≡ Some x → P y → ((z : ℕ × ℕ) → o ≡ Some z → P z.0) → P x.0
found_by P y true o x e h r = let i : Some y ≡ Some x.0 = ap first_of e in let j : y ≡ x.0 = cc in subst P j h
found_by P y false None x e h r = absurd cc
found_by P y false (Some z) x e h r = let i : Some z.0 ≡ Some x.0 = ap first_of e in let j : z.0 ≡ x.0 = cc in subst P j (r z refl)

-- the one found is one of the list
found_each : (P : ℕ → Type 0) (test : ℕ → Bool) (ys : List ℕ) (x : ℕ × ℕ) → Each P ys → through test ys ≡ Some x → P x.0
found_each P test [] x a e = absurd cc
found_each P test (y ∷ ys) x a e = found_by P y (test y) (through test ys) x e a.0 (λ z i. found_each P test ys z a.1 i)

-- a child of a node of the tree is in it
pub child_there : (ns : List Node) (n passed : ℕ) (x : ℕ × ℕ) → IsSound ns → due_child ns n passed ≡ Some x → IsInTree ns n → IsInTree ns x.0
child_there ns n passed x s e h =
    let p : parent_of ns x.0 ≡ Some n = found_each (λ c. parent_of ns c ≡ Some n) (is_dirty ns) (drop passed (children_of ns n)) x (drop_each _ passed (children_of ns n) (children_each ns n s)) e in
    (parent-inside ns x.0 n p, held-below ns s 0 x.0 n p h.1)
