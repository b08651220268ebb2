-- What marking does, node by node.
use Rattle.std.proofs.Common.{◌⊎◌, inl, inr, ◌≡◌, ◌≢◌, ℕ, ◌<◌, List, [], ◌∷◌, Bool, true, false, length, Some, refl, ap, sym, ◌∙◌, arith, length-set}
use Rattle.std.proofs.lemmas.Bool.{false≢true, cases_eq, cases_lt}
use Rattle.std.proofs.lemmas.List.{get_or_past}
use Rattle.node_rows.specs.Nodes.{Node, no_node, parent_of, text_of, is_dirty, path, holds}
use Rattle.node_rows.specs.Sound.{IsSound}
use Rattle.node_rows.specs.Marks.{with_mark, all_dirty, mark, marked_where, dirtied}
use Rattle.node_rows.proofs.Fields.{field_kept, field_other, field_same}
use Rattle.node_rows.proofs.SameLinks.{SameLinks, SameLinks-marked, SameLinks-self}
use Rattle.visitor_machine.proofs.Above.{Above, here, above_from_holds, holds_from_above, above_parent}
use Rattle.visitor_machine.proofs.Members.{Mem, mem_from_any, any_from_mem}

-- the same links and texts
pub record SameTree (ns ms : List Node) : Type 0 where
  pub links : SameLinks ns ms
  pub texts : (n : ℕ) → text_of ms n ≡ text_of ns n

pub SameTree-refl : (ns : List Node) → SameTree ns ns
SameTree-refl ns = record { links = record { same_length = refl; parents = λ n. refl; lists = λ n. refl }; texts = λ n. refl }

pub SameTree-trans : {ns ms ls : List Node} → SameTree ns ms → SameTree ms ls → SameTree ns ls
SameTree-trans g h = record {
  links = record {
    same_length = h.links.same_length ∙ g.links.same_length;
    parents = λ n. h.links.parents n ∙ g.links.parents n;
    lists = λ n. h.links.lists n ∙ g.links.lists n;
  };
  texts = λ n. h.texts n ∙ g.texts n;
}

pub SameTree-mark : (ns : List Node) (n : ℕ) (b : Bool) → SameTree ns (with_mark ns n b)
SameTree-mark ns n b = record { links = SameLinks-marked ns ns n b (SameLinks-self ns); texts = field_kept (λ x. x.text) ns n _ refl }

pub mark_other : (ns : List Node) (n : ℕ) (b : Bool) (m : ℕ) → m ≢ n → is_dirty (with_mark ns n b) m ≡ is_dirty ns m
mark_other ns n b m h = field_other (λ x. x.dirty) ns n _ m h

pub mark_here : (ns : List Node) (n : ℕ) (b : Bool) → n < length ns → is_dirty (with_mark ns n b) n ≡ b
mark_here ns n b h = field_same (λ x. x.dirty) ns n _ h

pub dirty-inside : (ns : List Node) (n : ℕ) → is_dirty ns n ≡ true → n < length ns
dirty-inside ns n e = elim (cases_lt n (length ns)) [ inl h ↦ h | inr h ↦ absurd (false≢true (sym (ap (λ x. x.dirty) (get_or_past ns n no_node h)) ∙ e)) ]

mark_grows : (ns : List Node) (n m : ℕ) → is_dirty ns m ≡ true → is_dirty (with_mark ns n true) m ≡ true
mark_grows ns n m h = elim (cases_eq m n) [
  | inl e ↦ ap (λ k. is_dirty (with_mark ns n true) k) e ∙ mark_here ns n true (let i = dirty-inside ns m h in omega arith)
  | inr d ↦ mark_other ns n true m d ∙ h
]

pub all_tree : (ns : List Node) (xs : List ℕ) → SameTree ns (all_dirty ns xs)
all_tree ns [] = SameTree-refl ns
all_tree ns (x ∷ xs) = SameTree-trans (SameTree-mark ns x true) (all_tree (with_mark ns x true) xs)

pub all_grows : (ns : List Node) (xs : List ℕ) (m : ℕ) → is_dirty ns m ≡ true → is_dirty (all_dirty ns xs) m ≡ true
all_grows ns [] m h = h
all_grows ns (x ∷ xs) m h = all_grows (with_mark ns x true) xs m (mark_grows ns x m h)

pub all_member : (ns : List Node) (xs : List ℕ) (m : ℕ) → m < length ns → Mem m xs → is_dirty (all_dirty ns xs) m ≡ true
all_member ns [] m b h = absurd h
all_member ns (x ∷ xs) m b (inl e) = all_grows (with_mark ns x true) xs m (ap (λ k. is_dirty (with_mark ns x true) k) e ∙ mark_here ns x true (omega arith))
all_member ns (x ∷ xs) m b (inr f) = all_member (with_mark ns x true) xs m (let i : length (with_mark ns x true) ≡ length ns = length-set _ _ _ in omega arith) f

pub all_back : (ns : List Node) (xs : List ℕ) (m : ℕ) → is_dirty (all_dirty ns xs) m ≡ true → (is_dirty ns m ≡ true) ⊎ Mem m xs
all_back ns [] m h = inl h
all_back ns (x ∷ xs) m h = elim (all_back (with_mark ns x true) xs m h) [
  | inl i ↦ elim (cases_eq m x) [ inl e ↦ inr (inl e) | inr d ↦ inl (sym (mark_other ns x true m d) ∙ i) ]
  | inr j ↦ inr (inr j)
]

-- p is marked
pub record Marking (ns ms : List Node) (p : ℕ) : Type 0 where
  pub tree : SameTree ns ms
  pub grows : (m : ℕ) → is_dirty ns m ≡ true → is_dirty ms m ≡ true
  pub at_node : is_dirty ms p ≡ true
  pub news : (m q : ℕ) → is_dirty ms m ≡ true → is_dirty ns m ≡ false → parent_of ns m ≡ Some q → is_dirty ms q ≡ true

marking_by : (ns : List Node) (p : ℕ) (b : Bool) → IsSound ns → p < length ns → is_dirty ns p ≡ b → Marking ns (marked_where ns p b) p
marking_by ns p true s h e = record {
  tree = SameTree-refl ns;
  grows = λ m i. i;
  at_node = e;
  news = λ m q i j f. absurd (false≢true (sym j ∙ i));
}
marking_by ns p false s h e =
    let in_path : (q : ℕ) → q < length ns → Above ns q p → is_dirty (all_dirty ns (path ns p)) q ≡ true = λ q b a. all_member ns (path ns p) q b (mem_from_any q (path ns p) (holds_from_above s (omega arith) a)) in
    record {
      tree = all_tree ns (path ns p);
      grows = all_grows ns (path ns p);
      at_node = in_path p h (here refl);
      news = λ m q i j f. elim (all_back ns (path ns p) m i) [
        | inl k ↦ absurd (false≢true (sym j ∙ k))
        | inr k ↦ in_path q (s.below m q f) (above_parent q (above_from_holds ns m p (any_from_mem m (path ns p) k)) f)
      ];
    }

pub marking : (ns : List Node) (p : ℕ) → IsSound ns → p < length ns → Marking ns (mark ns p) p
unfolding mark
marking ns p s h = marking_by ns p (is_dirty ns p) s h refl

-- the tree of n became dirty
pub record Dirtying (ns ms : List Node) (n : ℕ) : Type 0 where
  pub tree : SameTree ns ms
  pub grows : (m : ℕ) → is_dirty ns m ≡ true → is_dirty ms m ≡ true
  pub held : (m : ℕ) → m < length ns → Above ns n m → is_dirty ms m ≡ true
  pub news : (m : ℕ) → is_dirty ms m ≡ true → (is_dirty ns m ≡ true) ⊎ Above ns n m
