-- The siblings before a node have smaller numbers, and so has its parent.
use Rattle.std.proofs.Common.{◌≡◌, ℕ, zero, suc, ◌+◌, ◌-◌, ◌<◌, ◌≤◌, List, [], ◌∷◌, ◌++◌, Bool, true, false, length, map, filter, Option, Some, None, refl, ap, sym, ◌∙◌, subst, arith, eqb, eq-eqb, cond, get_or, length-append, inl, inr, ◌⊎◌}
use Rattle.std.specs.List.{range_with_len}
use Rattle.std.proofs.lemmas.Bool.{cases_lt}
use Rattle.std.proofs.lemmas.List.{get_or_append_left, get_or-append_right, get_or-map, length-map}
use Rattle.std.proofs.lemmas.List.Elements.{filter-append}
use Rattle.css_tree.specs.Tree.{Trees, none, node, Tree}
use Rattle.css_tree.specs.Numbered.{Numbered, number_after, numbered_below, numbered}
use Rattle.node_rows.specs.declared.node_list.NodeAt.{NodeAt}
use Rattle.node_rows.specs.Nodes.{Node, parent_of, children_of}
use Rattle.node_rows.specs.NodeList.{no_entry, entry_at, children_from, nodes_of}
use Rattle.node_rows.specs.Sound.{IsSound, is_number}
use Rattle.node_store.specs.Fresh.{numbered_of}
use Rattle.node_rows.proofs.Built.{nodes_of-at, nodes_of-length}
use Rattle.node_rows.proofs.Edits.{parent-inside}
use Rattle.rule_sites.specs.ContextAt.{earlier_in, earlier_of}
use Rattle.rule_sites.specs.Laws.{stands_in, EarlierAreSmaller, ParentsAreSmaller}
use Rattle.rule_sites.proofs.Contexts.{earlier-is}
use Rattle.rule_sites.proofs.Numbers.{range-append, numbered-length}

-- the numbers with a parent, among those of the nodes from n on
children_filtered : (q : ℕ → Bool) (n p : ℕ) (es : List NodeAt) → ((k : ℕ) → k < length es → q (n + k) ≡ eqb (entry_at es k).parent p) → children_from n p es ≡ filter q (range_with_len n (length es))
children_filtered q n p [] h = refl
children_filtered q n p (e ∷ es) h =
    let here : q n ≡ eqb e.parent p = ap q (omega arith) ∙ h 0 (omega arith) in
    let next = children_filtered q (n + 1) p es (λ k b. ap q (omega arith) ∙ h (suc k) (omega arith)) in
    ap (λ z. cond (eqb e.parent p) (n ∷ z) z) next ∙ ap (λ b. cond b (n ∷ filter q (range_with_len (n + 1) (length es))) (filter q (range_with_len (n + 1) (length es)))) (sym here)

filter_yes : (q : ℕ → Bool) (n : ℕ) (xs : List ℕ) → q n ≡ true → filter q (n ∷ xs) ≡ n ∷ filter q xs
filter_yes q n xs h = rw h refl

filter_no : (q : ℕ → Bool) (n : ℕ) (xs : List ℕ) → q n ≡ false → filter q (n ∷ xs) ≡ filter q xs
filter_no q n xs h = rw h refl

module _ (e : NodeAt) (es : List NodeAt) (s : IsSound (nodes_of (e ∷ es))) where
  abbrev ns : List Node
  ns = nodes_of (e ∷ es)

  parent_is : (k : ℕ) → k < length es → parent_of ns (suc k) ≡ Some (entry_at es k).parent
  parent_is k b = ap (λ x. x.parent) (nodes_of-at (e ∷ es) (suc k) (omega arith))

  children_are : (p : ℕ) → p < length ns → children_of ns p ≡ filter (stands_in ns (Some p)) (range_with_len 1 (length es))
  children_are p b =
      ap (λ x. x.children) (nodes_of-at (e ∷ es) p (omega (arith, nodes_of-length (e ∷ es))))
      ∙ children_filtered (stands_in ns (Some p)) 1 p es (λ k i. let one : 1 + k ≡ suc k = omega arith in ap (λ x. is_number (parent_of ns x) p) one ∙ ap (λ o. is_number o p) (parent_is k i))

  earlier_some : (i p : ℕ) → suc i < length ns → parent_of ns (suc i) ≡ Some p → earlier_of ns (suc i) ≡ filter (stands_in ns (Some p)) (range_with_len 0 (suc i))
  earlier_some i p b h =
      let q : ℕ → Bool = stands_in ns (Some p) in
      let n : ℕ = suc i in
      let more : ℕ = length es - n in
      let whole : length es ≡ i + suc more = omega (arith, nodes_of-length (e ∷ es)) in
      let at : 1 + i ≡ n = omega arith in
      let cut : range_with_len 1 (length es) ≡ range_with_len 1 i ++ n ∷ range_with_len (n + 1) more =
      ap (range_with_len 1) whole ∙ (range-append 1 i (suc more) ∙ ap (λ z. range_with_len 1 i ++ range_with_len z (suc more)) at) in
      let mine : q n ≡ true = ap (λ o. is_number o p) h ∙ eq-eqb p p refl in
      let front : List ℕ = filter q (range_with_len 1 i) in
      let behind : List ℕ = filter q (range_with_len (n + 1) more) in
      let list : children_of ns p ≡ front ++ n ∷ behind =
      children_are p (s.below n p h) ∙ (ap (filter q) cut ∙ (filter-append q (range_with_len 1 i) (n ∷ range_with_len (n + 1) more) ∙ ap (λ z. front ++ z) (filter_yes q n (range_with_len (n + 1) more) mine))) in
      earlier-is ns s p n front behind h list ∙ sym (filter_no q 0 (range_with_len 1 i) (ap (λ o. is_number o p) s.root))

  earlier_by : (i : ℕ) (o : Option ℕ) → suc i < length ns → parent_of ns (suc i) ≡ o → earlier_of ns (suc i) ≡ filter (stands_in ns o) (range_with_len 0 (suc i))
  earlier_by i None b h = absurd (let c : i < length es = omega (arith, nodes_of-length (e ∷ es)) in let k = sym h ∙ parent_is i c in cc)
  earlier_by i (Some p) b h = earlier_some i p b h

earlier_listed : (es : List NodeAt) → IsSound (nodes_of es) → (n : ℕ) → n < length (nodes_of es) → earlier_of (nodes_of es) n ≡ filter (stands_in (nodes_of es) (parent_of (nodes_of es) n)) (range_with_len 0 n)
earlier_listed [] s n b = absurd (omega arith)
earlier_listed (e ∷ es) s zero b = ap (earlier_in (nodes_of (e ∷ es)) 0) s.root
earlier_listed (e ∷ es) s (suc i) b = earlier_by e es s i (parent_of (nodes_of (e ∷ es)) (suc i)) b refl

pub earlier_are_smaller : EarlierAreSmaller
earlier_are_smaller f i h n b =
    let e : nodes_of h.entries ≡ f.nodes = sym h.are_nodes in
    let P : List Node → Type 0 = λ ns. n < length ns → earlier_of ns n ≡ filter (stands_in ns (parent_of ns n)) (range_with_len 0 n) in
    subst P e (earlier_listed h.entries (subst IsSound (sym e) i.sound) n) b

-- parents have smaller numbers, where the nodes are numbered
rising_by : (j n : ℕ) (t u : Trees) (i : ℕ) (d : Numbered) → ((k : ℕ) → k < length (numbered_below n (suc n) t) → (get_or (numbered_below n (suc n) t) k d).parent < suc n + k) → ((k : ℕ) → k < length (numbered_below j (number_after (suc n) t) u) → (get_or (numbered_below j (number_after (suc n) t) u) k d).parent < number_after (suc n) t + k)
    → i < length (numbered_below n (suc n) t ++ numbered_below j (number_after (suc n) t) u) → (i < length (numbered_below n (suc n) t)) ⊎ (length (numbered_below n (suc n) t) ≤ i) → (get_or (numbered_below n (suc n) t ++ numbered_below j (number_after (suc n) t) u) i d).parent < n + suc i
rising_by j n t u i d f g b (inl c) =
    let A : List Numbered = numbered_below n (suc n) t in
    let B : List Numbered = numbered_below j (number_after (suc n) t) u in
    omega (arith, f i c, ap (λ x. x.parent) (get_or_append_left A B d i c))
rising_by j n t u i d f g b (inr c) =
    let A : List Numbered = numbered_below n (suc n) t in
    let B : List Numbered = numbered_below j (number_after (suc n) t) u in
    let k : ℕ = i - length A in
    let l : k < length B = omega (arith, length-append A B) in
    omega (arith, g k l, ap (λ x. x.parent) (get_or-append_right A B (length A) i d refl c), numbered-length n (suc n) t)

rising : (j n : ℕ) (f : Trees) (i : ℕ) (d : Numbered) → j < n → i < length (numbered_below j n f) → (get_or (numbered_below j n f) i d).parent < n + i
unfolding numbered_below
rising j n none i d l b = absurd (omega arith)
rising j n (node t s k r) zero d l b = omega arith
rising j n (node t s k r) (suc i) d l b =
    rising_by j n k r i d (λ q c. rising n (suc n) k q d (omega arith) c) (λ q c. rising j (number_after (suc n) k) r q d (let g = numbered-length n (suc n) k in omega (arith, g)) c) (omega arith) (cases_lt i (length (numbered_below n (suc n) k)))

smaller_listed : (es : List NodeAt) (t : Tree) → map numbered_of es ≡ numbered t → (n p : ℕ) → n < length (nodes_of es) → parent_of (nodes_of es) n ≡ Some p → p < n
unfolding numbered
smaller_listed [] t h n p b e = absurd (omega arith)
smaller_listed (x ∷ es) t h zero p b e = absurd (let k : None ≡ Some p = sym (ap (λ y. y.parent) (nodes_of-at (x ∷ es) 0 (omega arith))) ∙ e in cc)
smaller_listed (x ∷ es) t h (suc i) p b e =
    let inside : i < length es = omega (arith, nodes_of-length (x ∷ es)) in
    let there : (entry_at es i).parent ≡ p = let k : Some (entry_at es i).parent ≡ Some p = sym (ap (λ y. y.parent) (nodes_of-at (x ∷ es) (suc i) (omega arith))) ∙ e in cc in
    let d : Numbered = numbered_of no_entry in
    let same : map numbered_of es ≡ numbered_below 0 1 t.children = cc in
    let read : numbered_of (entry_at es i) ≡ get_or (numbered_below 0 1 t.children) i d = sym (get_or-map numbered_of es i no_entry d inside) ∙ ap (λ z. get_or z i d) same in
    omega (arith, rising 0 1 t.children i d (omega arith) (omega (arith, ap length same, length-map es numbered_of)), ap (λ y. y.parent) read)

pub parents_are_smaller : ParentsAreSmaller
parents_are_smaller f h n p e =
    let g : f.nodes ≡ nodes_of h.entries = h.are_nodes in
    let k : parent_of (nodes_of h.entries) n ≡ Some p = ap (λ ns. parent_of ns n) (sym g) ∙ e in
    smaller_listed h.entries h.tree h.are_numbered n p (parent-inside (nodes_of h.entries) n p k) k
