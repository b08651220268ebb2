-- The numbers of a plain tree are those that its top holds, so a walk in document order dirties the same nodes.
use Rattle.std.proofs.Common.{◌⊎◌, inl, inr, ◌≡◌, ℕ, zero, suc, ◌<◌, List, [], ◌∷◌, ◌++◌, length, Some, refl, ap, sym, ◌∙◌, subst}
use Rattle.node_rows.specs.Nodes.{Node, parent_of, children_of}
use Rattle.node_rows.specs.Sound.{IsSound}
use Rattle.node_rows.specs.Marks.{all_dirty, dirtied}
use Rattle.node_rows.specs.NumberTrees.{NumberTrees, trees_by, levels, number_trees, numbers, numbers_below}
use Rattle.node_rows.proofs.Edits.{parent-inside}
use Rattle.visitor_machine.proofs.Above.{Above, here, below}
use Rattle.visitor_machine.proofs.Members.{Mem}
use Rattle.visitor_machine.proofs.Places.{child_mem}
use Rattle.visitor_machine.proofs.Marks.{Dirtying, all_tree, all_grows, all_member, all_back}
use Rattle.node_rows.proofs.Levels.{Each, Each-map, children_each, number_trees-more}

each_at : (P : ℕ → Type 0) (xs : List ℕ) (c : ℕ) → Each P xs → Mem c xs → P c
each_at P [] c h m = absurd m
each_at P (x ∷ xs) c h (inl e) = subst P (sym e) h.0
each_at P (x ∷ xs) c h (inr m) = each_at P xs c h.1 m

pub child_parent : (ns : List Node) (c x : ℕ) → IsSound ns → Mem c (children_of ns x) → parent_of ns c ≡ Some x
child_parent ns c x s m = each_at (λ c. parent_of ns c ≡ Some x) (children_of ns x) c (children_each ns x s) m

mem_append : (m : ℕ) (xs ys : List ℕ) → Mem m (xs ++ ys) → Mem m xs ⊎ Mem m ys
mem_append m [] ys h = inr h
mem_append m (x ∷ xs) ys (inl e) = inl (inl e)
mem_append m (x ∷ xs) ys (inr h) = elim (mem_append m xs ys h) [ inl i ↦ inl (inr i) | inr j ↦ inr j ]

append_left : (m : ℕ) (xs ys : List ℕ) → Mem m xs → Mem m (xs ++ ys)
append_left m [] ys h = absurd h
append_left m (x ∷ xs) ys (inl e) = inl e
append_left m (x ∷ xs) ys (inr h) = inr (append_left m xs ys h)

append_right : (m : ℕ) (xs ys : List ℕ) → Mem m ys → Mem m (xs ++ ys)
append_right m [] ys h = h
append_right m (x ∷ xs) ys h = inr (append_right m xs ys h)

above_under : {ns : List Node} {c m : ℕ} (x : ℕ) → parent_of ns c ≡ Some x → Above ns c m → Above ns x m
above_under {ns} x e (here {c = m} i) = below (ap (λ k. parent_of ns k) i ∙ e) (here refl)
above_under x e (below f r) = below f (above_under x e r)

-- one of the tops holds m
pub record Held (ns : List Node) (ms : List ℕ) (m : ℕ) : Type 0 where
  pub top : ℕ
  pub listed : Mem top ms
  pub above : Above ns top m

held_by : (ns : List Node) (below_of : ℕ → NumberTrees) → ((x m : ℕ) → Mem m (numbers (below_of x)) → Above ns x m) → (ms : List ℕ) (m : ℕ) → Mem m (numbers (trees_by below_of ms)) → Held ns ms m
held_by ns b f [] m h = absurd h
held_by ns b f (x ∷ ms) m (inl e) = record { top = x; listed = inl refl; above = here e }
held_by ns b f (x ∷ ms) m (inr h) = elim (mem_append m (numbers (b x)) (numbers (trees_by b ms)) h) [
  | inl i ↦ record { top = x; listed = inl refl; above = f x m i }
  | inr j ↦ let r = held_by ns b f ms m j in record { top = r.top; listed = inr r.listed; above = r.above }
]

held : (ns : List Node) (s : IsSound ns) (k : ℕ) (ms : List ℕ) (m : ℕ) → Mem m (numbers (levels ns k ms)) → Held ns ms m
unfolding levels
held ns s zero ms m h = absurd h
held ns s (suc k) ms m h = held_by ns (λ x. levels ns k (children_of ns x)) (λ x m i. let r = held ns s k (children_of ns x) m i in above_under x (child_parent ns r.top x s r.listed) r.above) ms m h

-- the chain, read downwards
data Down (ns : List Node) (m : ℕ) : ℕ → Type 0 where
  at : {x : ℕ} → m ≡ x → Down ns m x
  over : {x c : ℕ} → parent_of ns c ≡ Some x → Down ns m c → Down ns m x

down_more : {ns : List Node} {p x : ℕ} (m : ℕ) → parent_of ns m ≡ Some p → Down ns p x → Down ns m x
down_more {ns} m e (at {x} i) = over (e ∙ ap (λ k. Some k) i) (at refl)
down_more m e (over f r) = over f (down_more m e r)

down : {ns : List Node} {x m : ℕ} → Above ns x m → Down ns m x
down (here e) = at e
down (below {c} e r) = down_more c e (down r)

mem_here : (ns : List Node) (x m y : ℕ) (rest : List ℕ) → x ≡ y → (m ≡ x) ⊎ Mem m (numbers (number_trees ns (children_of ns x))) → (m ≡ y) ⊎ Mem m (numbers (number_trees ns (children_of ns y)) ++ rest)
mem_here ns x m y rest e (inl i) = inl (i ∙ e)
mem_here ns x m y rest e (inr i) = inr (append_left m (numbers (number_trees ns (children_of ns y))) rest (subst (λ k. Mem m (numbers (number_trees ns (children_of ns k)))) e i))

mem_trees : (ns : List Node) (s : IsSound ns) (x m : ℕ) (ms : List ℕ) → Each (λ c. c < length ns) ms → Mem x ms → (m ≡ x) ⊎ Mem m (numbers (number_trees ns (children_of ns x))) → Mem m (numbers (number_trees ns ms))
mem_trees ns s x m [] b h g = absurd h
mem_trees ns s x m (y ∷ ms) b (inl e) g = subst (λ t. Mem m (numbers t)) (sym (number_trees-more ns s y ms b.0)) (mem_here ns x m y (numbers (number_trees ns ms)) e g)
mem_trees ns s x m (y ∷ ms) b (inr r) g = subst (λ t. Mem m (numbers t)) (sym (number_trees-more ns s y ms b.0)) (inr (append_right m (numbers (number_trees ns (children_of ns y))) (numbers (number_trees ns ms)) (mem_trees ns s x m ms b.1 r g)))

children_inside : (ns : List Node) (x : ℕ) → IsSound ns → Each (λ c. c < length ns) (children_of ns x)
children_inside ns x s = Each-map _ _ (λ c e. parent-inside ns c x e) (children_of ns x) (children_each ns x s)

down_mem : (ns : List Node) (s : IsSound ns) (m x : ℕ) (ms : List ℕ) → Each (λ c. c < length ns) ms → Mem x ms → Down ns m x → Mem m (numbers (number_trees ns ms))
down_mem ns s m x ms b h (at e) = mem_trees ns s x m ms b h (inl e)
down_mem ns s m x ms b h (over {c} e r) = mem_trees ns s x m ms b h (inr (down_mem ns s m c (children_of ns x) (children_inside ns x s) (child_mem ns c x s e) r))

below_self : (ns : List Node) (s : IsSound ns) (n m : ℕ) → Down ns m n → (m ≡ n) ⊎ Mem m (numbers (number_trees ns (children_of ns n)))
below_self ns s n m (at e) = inl e
below_self ns s n m (over {c} e r) = inr (down_mem ns s m c (children_of ns n) (children_inside ns n s) (child_mem ns c n s e) r)

above_self : (ns : List Node) (s : IsSound ns) (n m : ℕ) → (m ≡ n) ⊎ Mem m (numbers (number_trees ns (children_of ns n))) → Above ns n m
unfolding number_trees
above_self ns s n m (inl e) = here e
above_self ns s n m (inr j) = let r = held ns s (length ns) (children_of ns n) m j in above_under n (child_parent ns r.top n s r.listed) r.above

-- n and all below it became dirty
pub dirtying : (ns : List Node) (n : ℕ) → IsSound ns → n < length ns → Dirtying ns (dirtied ns n) n
unfolding dirtied
dirtying ns n s b =
    let xs = n ∷ numbers_below ns n in
    record {
      tree = all_tree ns xs;
      grows = all_grows ns xs;
      held = λ m c a. all_member ns xs m c (below_self ns s n m (down a));
      news = λ m h. elim (all_back ns xs m h) [ inl i ↦ inl i | inr j ↦ inr (above_self ns s n m j) ];
    }
