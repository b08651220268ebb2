-- The nodes of a list, one after another.
use Rattle.std.proofs.Common.{◌≡◌, ◌≢◌, ℕ, zero, suc, ◌+◌, ◌<◌, ◌≤◌, List, [], ◌∷◌, ◌++◌, Bool, true, false, length, map, Option, Some, refl, ap, sym, ◌∙◌, subst, arith, eqb, cond, get_or, insert, length-append, append-nil, append_assoc, ◌⊎◌, inl, inr}
use Rattle.std.specs.List.{list_any}
use Rattle.std.proofs.lemmas.Bool.{and_parts, cases_lt, cases_eq, ne_eqb, false≢true}
use Rattle.std.proofs.lemmas.List.{ext_get_or}
use Rattle.std.proofs.lemmas.List.Edits.{insert_end}
use Rattle.std.proofs.Common.{eq-eqb}
use Rattle.std.proofs.Math.ListN.{get_or-append}
use Rattle.std.proofs.Math.Seq.{get_or-append_seam}
use Rattle.node_rows.specs.declared.node_list.NodeAt.{NodeAt}
use Rattle.node_rows.specs.Nodes.{Node, node_at, no_node, new_node, parent_of, children_of, linked, with_children}
use Rattle.node_rows.specs.NodeList.{no_entry, entry_at, path_from, are_ordered, is_document_order, parents_in, children_from, children_in, parent_in, nodes_from, nodes_of, Earlier}
use Rattle.node_rows.specs.Appended.{added, appended, IsAppendable}
use Rattle.node_rows.proofs.Climb.{or_cases, same_from_eqb}
use Rattle.node_rows.proofs.Edits.{Relinked, Relinked-writes}
use Rattle.node_rows.proofs.Fields.{field_kept}
use Rattle.node_rows.proofs.Join.{node-same}
use Rattle.node_rows.proofs.Levels.{Each}

each_member : (P : ℕ → Type 0) (q : ℕ) (path : List ℕ) → Each P path → list_any (eqb q) path ≡ true → P q
each_member P q [] a h = absurd (false≢true h)
each_member P q (m ∷ ms) a h = elim (or_cases (eqb q m) (list_any (eqb q) ms) h) [ inl t ↦ subst P (sym (same_from_eqb q m t)) a.0 | inr f ↦ each_member P q ms a.1 f ]

below_more : (n : ℕ) (ms : List ℕ) → Each (λ m. m < n) ms → Each (λ m. m < n + 1) ms
below_more n [] h = tt
below_more n (m ∷ ms) h = (omega (arith, h.0), below_more n ms h.1)

path_more : (b : Bool) (n m p : ℕ) (ms : List ℕ) → m < n → Each (λ k. k < n) ms → Each (λ k. k < n + 1) (path_from p ms) → Each (λ k. k < n + 1) (cond b (m ∷ ms) (path_from p ms))
path_more true n m p ms a h i = (omega (arith, a), below_more n ms h)
path_more false n m p ms a h i = i

path_below : (n p : ℕ) (ms : List ℕ) → Each (λ m. m < n) ms → Each (λ m. m < n + 1) (path_from p ms)
path_below n p [] h = tt
path_below n p (m ∷ ms) h = path_more (eqb m p) n m p ms h.0 h.1 (path_below n p ms h.1)

ordered_below : (path : List ℕ) (n : ℕ) (ps : List ℕ) → Each (λ m. m < n) path → are_ordered path n ps ≡ true → (k : ℕ) → k < length ps → get_or ps k 0 < n + k
ordered_below path n [] a h k b = absurd (omega arith)
ordered_below path n (p ∷ ps) a h zero b =
    let i = each_member (λ m. m < n) p path a (and_parts (list_any (eqb p) path) (are_ordered (n ∷ path_from p path) (n + 1) ps) h).0 in omega arith
ordered_below path n (p ∷ ps) a h (suc k) b =
    let i = ordered_below (n ∷ path_from p path) (n + 1) ps (omega arith, path_below n p path a) (and_parts (list_any (eqb p) path) (are_ordered (n ∷ path_from p path) (n + 1) ps) h).1 k (omega arith) in omega arith

parent_read : (es : List NodeAt) (k : ℕ) → k < length es → get_or (map (λ e. e.parent) es) k 0 ≡ (entry_at es k).parent
parent_read [] k b = absurd (omega arith)
parent_read (e ∷ es) zero b = refl
parent_read (e ∷ es) (suc k) b = parent_read es k (omega arith)

map_length : (es : List NodeAt) → length (map (λ e. e.parent) es) ≡ length es
map_length [] = refl
map_length (e ∷ es) = ap suc (map_length es)

pub order-earlier : (es : List NodeAt) → is_document_order (parents_in es) ≡ true → Earlier es
order-earlier [] h k z b = absurd (omega arith)
order-earlier (e ∷ es) h zero z b = absurd (omega arith)
order-earlier (e ∷ es) h (suc k) z b =
    let i = ordered_below (0 ∷ []) 1 (map (λ x. x.parent) es) (omega arith, tt) h k (omega (arith, map_length es)) in
    omega (arith, parent_read es k (omega arith))

abbrev pub entry_node : List NodeAt → ℕ → NodeAt → Node
entry_node all n e = record { text = e.text; span = Some e.span; parent = parent_in n e; children = children_in all n; dirty = true }

nodes_from-at : (all : List NodeAt) (n : ℕ) (es : List NodeAt) (k : ℕ) → k < length es → node_at (nodes_from all n es) k ≡ entry_node all (n + k) (entry_at es k)
nodes_from-at all n [] k b = absurd (omega arith)
nodes_from-at all n (e ∷ es) zero b = ap (λ m. entry_node all m e) (omega arith)
nodes_from-at all n (e ∷ es) (suc k) b = nodes_from-at all (n + 1) es k (omega arith) ∙ ap (λ m. entry_node all m (entry_at es k)) (omega arith)

pub nodes_of-at : (es : List NodeAt) (k : ℕ) → k < length es → node_at (nodes_of es) k ≡ entry_node es k (entry_at es k)
nodes_of-at es k b = nodes_from-at es 0 es k b ∙ ap (λ m. entry_node es m (entry_at es k)) (omega arith)

nodes_from-length : (all : List NodeAt) (n : ℕ) (es : List NodeAt) → length (nodes_from all n es) ≡ length es
nodes_from-length all n [] = refl
nodes_from-length all n (e ∷ es) = ap suc (nodes_from-length all (n + 1) es)

pub nodes_of-length : (es : List NodeAt) → length (nodes_of es) ≡ length es
nodes_of-length es = nodes_from-length es 0 es

-- the children after one entry more
abbrev pub last_child : ℕ → ℕ → NodeAt → List ℕ
last_child n p e = cond (eqb e.parent p) (n ∷ []) []

children_step : (b : Bool) (n : ℕ) (xs ys l : List ℕ) → ys ≡ xs ++ l → cond b (n ∷ ys) ys ≡ cond b (n ∷ xs) xs ++ l
children_step true n xs ys l h = ap (λ z. n ∷ z) h
children_step false n xs ys l h = h

children_from-push : (n p : ℕ) (es : List NodeAt) (e : NodeAt) → children_from n p (es ++ e ∷ []) ≡ children_from n p es ++ last_child (n + length es) p e
children_from-push n p [] e = ap (λ m. last_child m p e) (omega arith)
children_from-push n p (x ∷ xs) e =
    children_step (eqb x.parent p) n (children_from (n + 1) p xs) (children_from (n + 1) p (xs ++ e ∷ [])) (last_child (n + length (x ∷ xs)) p e)
    (children_from-push (n + 1) p xs e ∙ ap (λ m. children_from (n + 1) p xs ++ last_child m p e) (omega arith))

children_in-push : (x : NodeAt) (es : List NodeAt) (e : NodeAt) (p : ℕ) → children_in ((x ∷ es) ++ e ∷ []) p ≡ children_in (x ∷ es) p ++ last_child (length (x ∷ es)) p e
children_in-push x es e p = children_from-push 1 p es e ∙ ap (λ m. children_from 1 p es ++ last_child m p e) (omega arith)

-- a number past the parents has no children
children_from-none : (n p : ℕ) (es : List NodeAt) → ((k : ℕ) → k < length es → (entry_at es k).parent < p) → children_from n p es ≡ []
children_from-none n p [] h = refl
children_from-none n p (e ∷ es) h =
    let d : eqb e.parent p ≡ false = ne_eqb e.parent p (λ i. let b = h 0 (omega arith) in omega arith) in
    rw d (children_from-none (n + 1) p es (λ k b. h (suc k) (omega arith)))

last_here : (n p : ℕ) (e : NodeAt) → e.parent ≡ p → last_child n p e ≡ n ∷ []
last_here n p e i = rw (eq-eqb e.parent p i) refl

last_other : (n p : ℕ) (e : NodeAt) → e.parent ≢ p → last_child n p e ≡ []
last_other n p e d = rw (ne_eqb e.parent p d) refl

module _ (x : NodeAt) (xs : List NodeAt) (e : NodeAt) (h : Earlier ((x ∷ xs) ++ e ∷ [])) where
  abbrev pub before : List NodeAt
  before = x ∷ xs

  abbrev pub after : List NodeAt
  after = before ++ e ∷ []

  abbrev pub mid : List Node
  mid = added (nodes_of before) e

  abbrev pub grown : List Node
  grown = linked mid e.parent (length (children_of mid e.parent)) (length (nodes_of before))

  count : length (nodes_of before) ≡ length before
  count = nodes_of-length before

  wide : length after ≡ length before + 1
  wide = length-append before (e ∷ [])

  mid_count : length mid ≡ length before + 1
  mid_count = length-append (nodes_of before) (new_node e.text (Some e.span) ∷ []) ∙ omega (arith, count)

  last_entry : entry_at after (length before) ≡ e
  last_entry = get_or-append_seam before e [] no_entry

  parent_before : e.parent < length before
  parent_before =
      let i = h (length before) (omega arith) (omega (arith, wide)) in
      omega (arith, ap (λ y. y.parent) last_entry)

  relinked : Relinked mid grown e.parent (length (nodes_of before)) (insert (children_of mid e.parent) (length (children_of mid e.parent)) (length (nodes_of before))) (Some e.parent)
  relinked = Relinked-writes mid e.parent (length (nodes_of before)) (insert (children_of mid e.parent) (length (children_of mid e.parent)) (length (nodes_of before))) (Some e.parent) (omega (arith, parent_before, mid_count)) (omega (arith, count, mid_count))

  kept : {A : Type 0} (f : Node → A) → ((y : Node) (o : Option ℕ) → f (record y { parent = o }) ≡ f y) → ((y : Node) (l : List ℕ) → f (record y { children = l }) ≡ f y) → (k : ℕ) → f (node_at grown k) ≡ f (node_at mid k)
  kept f p c k = field_kept f (with_children mid e.parent (insert (children_of mid e.parent) (length (children_of mid e.parent)) (length (nodes_of before)))) (length (nodes_of before)) _ (p _ (Some e.parent)) k ∙ field_kept f mid e.parent _ (c (node_at mid e.parent) _) k

  old : (k : ℕ) → k < length before → node_at mid k ≡ entry_node before k (entry_at before k)
  old k b = get_or-append (nodes_of before) (new_node e.text (Some e.span) ∷ []) no_node k (omega (arith, count)) ∙ nodes_of-at before k b

  new : node_at mid (length before) ≡ new_node e.text (Some e.span)
  new = ap (node_at mid) (sym count) ∙ get_or-append_seam (nodes_of before) (new_node e.text (Some e.span)) [] no_node

  children_here : (k : ℕ) → k < length before → children_in after k ≡ children_of grown k
  children_here k b =
      let was : children_of mid k ≡ children_in before k = ap (λ y. y.children) (old k b) in
      elim (cases_eq k e.parent) [
        | inl i ↦
            let here : children_of grown k ≡ children_of mid k ++ length (nodes_of before) ∷ [] =
            ap (children_of grown) i ∙ (relinked.list_here ∙ (insert_end (children_of mid e.parent) (length (nodes_of before)) ∙ ap (λ m. children_of mid m ++ length (nodes_of before) ∷ []) (sym i))) in
            children_in-push x xs e k ∙ (ap (λ l. children_in before k ++ l) (last_here (length before) k e (sym i))
            ∙ (ap (λ l. l ++ length before ∷ []) (sym was) ∙ (ap (λ n. children_of mid k ++ n ∷ []) (sym count) ∙ sym here)))
        | inr d ↦
            children_in-push x xs e k ∙ (ap (λ l. children_in before k ++ l) (last_other (length before) k e (λ i. d (sym i)))
            ∙ (append-nil (children_in before k) ∙ (sym was ∙ sym (relinked.list_other k d))))
      ]

  children_new : children_in after (length before) ≡ children_of grown (length before)
  children_new =
      let d : length before ≢ e.parent = λ i. let b = parent_before in omega arith in
      children_from-none 1 (length before) (xs ++ e ∷ []) (λ k b. let j = h (suc k) (omega arith) (omega arith) in omega (arith, length-append xs (e ∷ [])))
      ∙ sym (relinked.list_other (length before) d ∙ ap (λ y. y.children) new)

  node_before : (k : ℕ) → k < length before → node_at (nodes_of after) k ≡ node_at grown k
  node_before k b =
      let entry : entry_at after k ≡ entry_at before k = get_or-append before (e ∷ []) no_entry k b in
      let made = nodes_of-at after k (omega (arith, wide)) ∙ ap (entry_node after k) entry in
      let was = old k b in
      let other : k ≢ length (nodes_of before) = λ i. omega (arith, count) in
      node-same _ _
      (ap (λ y. y.text) made ∙ sym (kept (λ y. y.text) (λ y o. refl) (λ y l. refl) k ∙ ap (λ y. y.text) was))
      (ap (λ y. y.span) made ∙ sym (kept (λ y. y.span) (λ y o. refl) (λ y l. refl) k ∙ ap (λ y. y.span) was))
      (ap (λ y. y.parent) made ∙ sym (relinked.parent_other k other ∙ ap (λ y. y.parent) was))
      (ap (λ y. y.children) made ∙ children_here k b)
      (ap (λ y. y.dirty) made ∙ sym (kept (λ y. y.dirty) (λ y o. refl) (λ y l. refl) k ∙ ap (λ y. y.dirty) was))

  node_last : node_at (nodes_of after) (length before) ≡ node_at grown (length before)
  node_last =
      let made = nodes_of-at after (length before) (omega (arith, wide)) ∙ ap (entry_node after (length before)) last_entry in
      node-same _ _
      (ap (λ y. y.text) made ∙ sym (kept (λ y. y.text) (λ y o. refl) (λ y l. refl) (length before) ∙ ap (λ y. y.text) new))
      (ap (λ y. y.span) made ∙ sym (kept (λ y. y.span) (λ y o. refl) (λ y l. refl) (length before) ∙ ap (λ y. y.span) new))
      (ap (λ y. y.parent) made ∙ sym (ap (parent_of grown) (sym count) ∙ relinked.parent_here))
      (ap (λ y. y.children) made ∙ children_new)
      (ap (λ y. y.dirty) made ∙ sym (kept (λ y. y.dirty) (λ y o. refl) (λ y l. refl) (length before) ∙ ap (λ y. y.dirty) new))

  node_each : (k : ℕ) → k < length after → (k < length before) ⊎ (length before ≤ k) → node_at (nodes_of after) k ≡ node_at grown k
  node_each k b (inl i) = node_before k i
  node_each k b (inr i) = let e : k ≡ length before = omega (arith, wide) in rw e node_last

  grown_is : nodes_of after ≡ grown
  grown_is =
      ext_get_or no_node _ _ (nodes_of-length after ∙ (wide ∙ (sym mid_count ∙ sym relinked.same_length)))
      (λ k b. node_each k (omega (arith, nodes_of-length after)) (cases_lt k (length before)))

-- the nodes of a list with one entry more
pub nodes_of-push : (es : List NodeAt) (e : NodeAt) → Earlier (es ++ e ∷ []) → nodes_of (es ++ e ∷ []) ≡ appended (nodes_of es) e
nodes_of-push [] e h = refl
nodes_of-push (x ∷ xs) e h = grown_is x xs e h

-- the front of a list in document order
pub Earlier-front : (es ys : List NodeAt) → Earlier (es ++ ys) → Earlier es
Earlier-front es ys h k z b =
    let i = h k z (omega (arith, length-append es ys)) in omega (arith, ap (λ y. y.parent) (get_or-append es ys no_entry k b))

-- the entry behind a list has an earlier parent
pub parent-earlier : (es : List NodeAt) (e : NodeAt) → Earlier (es ++ e ∷ []) → 0 < length es → e.parent < length es
parent-earlier [] e h b = absurd (omega arith)
parent-earlier (x ∷ xs) e h b = parent_before x xs e h

-- what the next entry of a list meets
pub next-earlier : (es rest all : List NodeAt) (e : NodeAt) → es ++ e ∷ rest ≡ all → is_document_order (parents_in all) ≡ true → Earlier (es ++ e ∷ [])
next-earlier es rest all e h o =
    Earlier-front (es ++ e ∷ []) rest (subst Earlier (sym h ∙ sym (append_assoc es (e ∷ []) rest)) (order-earlier all o))

pub next-appendable : (es rest all : List NodeAt) (e : NodeAt) → es ++ e ∷ rest ≡ all → is_document_order (parents_in all) ≡ true → length all ≤ 67108865 → IsAppendable (nodes_of es) e
next-appendable es rest all e h o few = record {
  few = omega (arith, nodes_of-length es, ap length h, length-append es (e ∷ rest));
  earlier = λ b. let i = parent-earlier es e (next-earlier es rest all e h o) (omega (arith, nodes_of-length es)) in omega (arith, nodes_of-length es);
}
