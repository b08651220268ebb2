-- A forest whose nodes are numbered in document order has the tree that was numbered.
use Rattle.std.proofs.Common.{◌≡◌, ℕ, suc, ◌+◌, ◌<◌, ◌≤◌, List, [], ◌∷◌, ◌++◌, Bool, true, false, length, map, Option, refl, ap, sym, ◌∙◌, subst, arith, eqb, cond, append_assoc, append-nil, length-append, ◌⊎◌, inl, inr}
use Rattle.std.proofs.lemmas.Bool.{ne_eqb}
use Rattle.std.proofs.lemmas.Grind.{common_steps}
use Rattle.css_text.specs.declared.lexer.Span.{Span}
use Rattle.css_tree.specs.declared.node.NodeText.{NodeText}
use Rattle.css_tree.specs.Tree.{Trees, none, node, Tree}
use Rattle.css_tree.specs.Numbered.{Numbered, number_after, numbered_below, numbered}
use Rattle.node_rows.specs.declared.node_list.NodeAt.{NodeAt}
use Rattle.node_rows.specs.Nodes.{Node, node_at, text_of, span_of, children_of}
use Rattle.node_rows.specs.NodeList.{entry_at, children_from, nodes_of}
use Rattle.node_rows.specs.NumberTrees.{number_trees, plain, tree_at}
use Rattle.node_rows.specs.Sound.{IsSound}
use Rattle.node_store.specs.Forest.{Forest, IsForest, tree_of}
use Rattle.node_store.specs.Fresh.{IsFresh, numbered_of}
use Rattle.node_rows.proofs.Levels.{number_trees-more, number_trees-none}
use Rattle.node_rows.proofs.Built.{nodes_of-at, nodes_of-length, entry_node}

-- the numbers of the nodes whose parent is p, where the first node has the number n
abbrev pub kids : ℕ → ℕ → List Numbered → List ℕ
kids n p [] = []
kids n p (x ∷ xs) = cond (eqb x.parent p) (n ∷ kids (n + 1) p xs) (kids (n + 1) p xs)

-- the numbers of the trees beside one another, of which the first has the number n
abbrev pub tops : ℕ → Trees → List ℕ
tops n none = []
tops n (node t s k r) = n ∷ tops (number_after (suc n) k) r

-- no node has a parent from lo on and below hi
abbrev pub Outside : ℕ → ℕ → List Numbered → Type 0
Outside lo hi [] = Unit {0}
Outside lo hi (x ∷ xs) = ((x.parent < lo) ⊎ (hi ≤ x.parent)) × Outside lo hi xs

outside-append : (lo hi : ℕ) (xs ys : List Numbered) → Outside lo hi xs → Outside lo hi ys → Outside lo hi (xs ++ ys)
outside-append lo hi [] ys a b = b
outside-append lo hi (x ∷ xs) ys a b = (a.0, outside-append lo hi xs ys a.1 b)

outside-less : (lo hi a b : ℕ) (xs : List Numbered) → lo ≤ a → b ≤ hi → Outside lo hi xs → Outside a b xs
outside-less lo hi a b [] l h o = tt
outside-less lo hi a b (x ∷ xs) l h o = (by o.0, outside-less lo hi a b xs l h o.1)
  where
    by : (x.parent < lo) ⊎ (hi ≤ x.parent) → (x.parent < a) ⊎ (b ≤ x.parent)
    by (inl q) = inl (omega arith)
    by (inr q) = inr (omega arith)

other : (lo hi p q : ℕ) → (q < lo) ⊎ (hi ≤ q) → lo ≤ p → p < hi → eqb q p ≡ false
other lo hi p q (inl h) a b = ne_eqb q p (λ e. absurd (omega (arith, e)))
other lo hi p q (inr h) a b = ne_eqb q p (λ e. absurd (omega (arith, e)))

-- nodes with other parents are passed
kids-passed : (lo hi m p : ℕ) (xs ys : List Numbered) → Outside lo hi xs → lo ≤ p → p < hi → kids m p (xs ++ ys) ≡ kids (m + length xs) p ys
kids-passed lo hi m p [] ys o a b = ap (λ k. kids k p ys) (omega arith)
kids-passed lo hi m p (x ∷ xs) ys o a b =
    rw (other lo hi p x.parent o.0 a b) (kids-passed lo hi (m + 1) p xs ys o.1 a b ∙ ap (λ k. kids k p ys) (omega arith))

kids-none : (lo hi m p : ℕ) (xs : List Numbered) → Outside lo hi xs → lo ≤ p → p < hi → kids m p xs ≡ []
kids-none lo hi m p xs o a b = ap (kids m p) (sym (append-nil xs)) ∙ kids-passed lo hi m p xs [] o a b

after-grows : (n : ℕ) (f : Trees) → n ≤ number_after n f
unfolding number_after
after-grows n none = omega arith
after-grows n (node t s k r) = let a = after-grows (suc n) k in let b = after-grows (number_after (suc n) k) r in omega (arith, a, b)

-- numbered trees have parents of their own, or the one that is given
numbered-outside : (j n lo hi : ℕ) (f : Trees) → (j < lo) ⊎ (hi ≤ j) → hi ≤ n → Outside lo hi (numbered_below j n f)
unfolding numbered_below number_after
numbered-outside j n lo hi none h l = tt
numbered-outside j n lo hi (node t s k r) h l = (
  h,
  outside-append lo hi (numbered_below n (suc n) k) (numbered_below j (number_after (suc n) k) r)
      (numbered-outside n (suc n) lo hi k (inr l) (omega arith))
      (numbered-outside j (number_after (suc n) k) lo hi r h (let a = after-grows (suc n) k in omega (arith, a))),
)

-- they are as many as their numbers
numbered-length : (j n : ℕ) (f : Trees) → n + length (numbered_below j n f) ≡ number_after n f
unfolding numbered_below number_after
numbered-length j n none = omega arith
numbered-length j n (node t s k r) =
    let a = numbered-length n (suc n) k in
    let b = numbered-length j (number_after (suc n) k) r in
    omega (arith, a, b, length-append (numbered_below n (suc n) k) (numbered_below j (number_after (suc n) k) r))

-- each parent is below n
abbrev pub Under : ℕ → List Numbered → Type 0
Under n [] = Unit {0}
Under n (x ∷ xs) = (x.parent < n) × Under n xs

under-append : (n : ℕ) (xs ys : List Numbered) → Under n xs → Under n ys → Under n (xs ++ ys)
under-append n [] ys a b = b
under-append n (x ∷ xs) ys a b = (a.0, under-append n xs ys a.1 b)

under-more : (n m : ℕ) (xs : List Numbered) → n ≤ m → Under n xs → Under m xs
under-more n m [] l u = tt
under-more n m (x ∷ xs) l u = (omega (arith, u.0), under-more n m xs l u.1)

under-outside : (n lo hi : ℕ) (xs : List Numbered) → n ≤ lo → Under n xs → Outside lo hi xs
under-outside n lo hi [] l u = tt
under-outside n lo hi (x ∷ xs) l u = (inl (omega (arith, u.0)), under-outside n lo hi xs l u.1)

-- and their parents are numbers before the last
numbered-under : (j n : ℕ) (f : Trees) → j < n → Under (number_after n f) (numbered_below j n f)
unfolding numbered_below number_after
numbered-under j n none b = tt
numbered-under j n (node t s k r) b =
    let m : ℕ = number_after (suc n) k in
    let a = after-grows (suc n) k in
    let c = after-grows m r in (
      omega (arith, a, c),
      under-append (number_after m r) (numbered_below n (suc n) k) (numbered_below j m r)
          (under-more m (number_after m r) (numbered_below n (suc n) k) c (numbered-under n (suc n) k (omega arith)))
          (numbered-under j m r (omega (arith, a))),
    )

same_number : (j : ℕ) → eqb j j ≡ true
same_number j = grind (arith, common_steps)

-- the children of the node that the trees were numbered below
kids-tops : (j n : ℕ) (f : Trees) (ys : List Numbered) → j < n → kids n j (numbered_below j n f ++ ys) ≡ tops n f ++ kids (number_after n f) j ys
unfolding numbered_below number_after
kids-tops j n none ys b = refl
kids-tops j n (node t s k r) ys b =
    let m : ℕ = number_after (suc n) k in
    rw (same_number j) (ap (λ l. n ∷ l)
    (ap (kids (n + 1) j) (append_assoc (numbered_below n (suc n) k) (numbered_below j m r) ys)
    ∙ kids-passed j n (n + 1) j (numbered_below n (suc n) k) (numbered_below j m r ++ ys) (numbered-outside n (suc n) j n k (inr (omega arith)) (omega arith)) (omega arith) b
    ∙ ap (λ i. kids i j (numbered_below j m r ++ ys)) (let l = numbered-length n (suc n) k in omega (arith, l))
    ∙ kids-tops j m r ys (let a = after-grows (suc n) k in omega (arith, a))))

-- the children of a node among all
kids-of : (j n : ℕ) (pre rest : List Numbered) (x : Numbered) (k : Trees) → suc (length pre) ≡ n → j < n → x.parent ≡ j → Under n pre → Outside n (suc n) rest
    → kids 1 n (pre ++ x ∷ (numbered_below n (suc n) k ++ rest)) ≡ tops (suc n) k
kids-of j n pre rest x k e b p u o =
    kids-passed n (suc n) 1 n pre (x ∷ (numbered_below n (suc n) k ++ rest)) (under-outside n n (suc n) pre (omega arith) u) (omega arith) (omega arith)
    ∙ ap (λ i. kids i n (x ∷ (numbered_below n (suc n) k ++ rest))) (omega (arith, e))
    ∙ skip
    ∙ ap (λ i. kids i n (numbered_below n (suc n) k ++ rest)) (omega arith)
    ∙ kids-tops n (suc n) k rest (omega arith)
    ∙ ap (λ l. tops (suc n) k ++ l) (kids-none n (suc n) (number_after (suc n) k) n rest o (omega arith) (omega arith))
    ∙ append-nil (tops (suc n) k)
  where
    skip : kids n n (x ∷ (numbered_below n (suc n) k ++ rest)) ≡ kids (n + 1) n (numbered_below n (suc n) k ++ rest)
    skip = rw (ne_eqb x.parent n (λ q. absurd (omega (arith, q, p, b)))) refl

kids-map : (n p : ℕ) (es : List NodeAt) → children_from n p es ≡ kids n p (map numbered_of es)
kids-map n p [] = refl
kids-map n p (e ∷ es) = by (eqb e.parent p) (kids-map (n + 1) p es)
  where
    by : (b : Bool) → children_from (n + 1) p es ≡ kids (n + 1) p (map numbered_of es) → cond b (n ∷ children_from (n + 1) p es) (children_from (n + 1) p es) ≡ cond b (n ∷ kids (n + 1) p (map numbered_of es)) (kids (n + 1) p (map numbered_of es))
    by true h = ap (λ l. n ∷ l) h
    by false h = h

head_same : (x y : Numbered) (xs ys : List Numbered) → x ∷ xs ≡ y ∷ ys → x ≡ y
head_same x y xs ys e = cc

tail_same : (x y : Numbered) (xs ys : List Numbered) → x ∷ xs ≡ y ∷ ys → xs ≡ ys
tail_same x y xs ys e = cc

-- the entry behind some others
entry_is : (es : List NodeAt) (pre rest : List Numbered) (x : Numbered) → map numbered_of es ≡ pre ++ x ∷ rest → (length pre < length es) × (numbered_of (entry_at es (length pre)) ≡ x)
entry_is [] [] rest x h = absurd (cc)
entry_is [] (y ∷ pre) rest x h = absurd (cc)
entry_is (e ∷ es) [] rest x h = (omega arith, head_same (numbered_of e) x (map numbered_of es) rest h)
entry_is (e ∷ es) (y ∷ pre) rest x h =
    let i = entry_is es pre rest x (tail_same (numbered_of e) y (map numbered_of es) (pre ++ x ∷ rest) h) in (omega (arith, i.0), i.1)

-- what stands at a number behind the first
node_is : (e : NodeAt) (es : List NodeAt) (i : ℕ) → i < length es → node_at (nodes_of (e ∷ es)) (suc i) ≡ entry_node (e ∷ es) (suc i) (entry_at es i)
node_is e es i b = nodes_of-at (e ∷ es) (suc i) (omega arith)

text_is : (e : NodeAt) (es : List NodeAt) (i : ℕ) (x : Numbered) → i < length es → numbered_of (entry_at es i) ≡ x → text_of (nodes_of (e ∷ es)) (suc i) ≡ x.text
text_is e es i x b h = ap (λ n. n.text) (node_is e es i b) ∙ ap (λ y. y.text) h

span_is : (e : NodeAt) (es : List NodeAt) (i : ℕ) (x : Numbered) → i < length es → numbered_of (entry_at es i) ≡ x → span_of (nodes_of (e ∷ es)) (suc i) ≡ x.span
span_is e es i x b h = ap (λ n. n.span) (node_is e es i b) ∙ ap (λ y. y.span) h

children_are : (e : NodeAt) (es : List NodeAt) (i : ℕ) → i < length es → children_of (nodes_of (e ∷ es)) (suc i) ≡ kids 1 (suc i) (map numbered_of es)
children_are e es i b = ap (λ n. n.children) (node_is e es i b) ∙ kids-map 1 (suc i) es

node-same : (t u : NodeText) (s q : Option Span) (k l r o : Trees) → t ≡ u → s ≡ q → k ≡ l → r ≡ o → node t s k r ≡ node u q l o
node-same t u s q k l r o a b c d = cc

-- trees that were numbered stand in the forest
plain-tops : (e : NodeAt) (es : List NodeAt) → IsSound (nodes_of (e ∷ es)) → (f : Trees) (j n : ℕ) (pre post : List Numbered)
    → map numbered_of es ≡ pre ++ (numbered_below j n f ++ post) → suc (length pre) ≡ n → j < n → Under n pre → Outside n (number_after n f) post
    → plain (nodes_of (e ∷ es)) (number_trees (nodes_of (e ∷ es)) (tops n f)) ≡ f
unfolding numbered_below number_after
plain-tops e es sound none j n pre post h l b u o = ap (plain (nodes_of (e ∷ es))) (number_trees-none (nodes_of (e ∷ es)))
plain-tops e es sound (node t s k r) j n pre post h l b u o =
    let ns : List Node = nodes_of (e ∷ es) in
    let m : ℕ = number_after (suc n) k in
    let x : Numbered = record { parent = j; text = t; span = s } in
    let below_k : List Numbered = numbered_below n (suc n) k in
    let below_r : List Numbered = numbered_below j m r in
    let grown = after-grows (suc n) k in
    let more = after-grows m r in
    let rest : List Numbered = below_r ++ post in
    let all : map numbered_of es ≡ pre ++ x ∷ (below_k ++ rest) = h ∙ ap (λ q. pre ++ x ∷ q) (append_assoc below_k below_r post) in
    let found = entry_is es pre (below_k ++ rest) x all in
    let inside : n < length ns = omega (arith, l, found.0, nodes_of-length (e ∷ es)) in
    let outside : Outside n m rest = outside-append n m below_r post (numbered-outside j m n m r (inl b) (omega arith)) (outside-less n (number_after m r) n m post (omega arith) more o) in
    let texts : text_of ns n ≡ t = ap (text_of ns) (sym l) ∙ text_is e es (length pre) x found.0 found.1 in
    let spans : span_of ns n ≡ s = ap (span_of ns) (sym l) ∙ span_is e es (length pre) x found.0 found.1 in
    let children : children_of ns n ≡ tops (suc n) k = ap (children_of ns) (sym l) ∙ children_are e es (length pre) found.0 ∙ ap (λ q. kids 1 q (map numbered_of es)) l ∙ ap (kids 1 n) all
    ∙ kids-of j n pre rest x k l b refl u (outside-less n m n (suc n) rest (omega arith) (omega (arith, grown)) outside) in
    let first : plain ns (number_trees ns (children_of ns n)) ≡ k = ap (λ q. plain ns (number_trees ns q)) children
    ∙ plain-tops e es sound k n (suc n) (pre ++ x ∷ []) rest (all ∙ sym (append_assoc pre (x ∷ []) (below_k ++ rest))) (omega (arith, l, length-append pre (x ∷ [])))
    (omega arith) (under-append (suc n) pre (x ∷ []) (under-more n (suc n) pre (omega arith) u) (omega (arith, b), tt)) (outside-less n m (suc n) m rest (omega arith) (omega arith) outside) in
    let others : plain ns (number_trees ns (tops m r)) ≡ r = plain-tops e es sound r j m (pre ++ x ∷ below_k) post
    (all ∙ sym (append_assoc pre (x ∷ below_k) rest))
    (omega (arith, l, length-append pre (x ∷ below_k), numbered-length n (suc n) k)) (omega (arith, grown, b))
    (under-append m pre (x ∷ below_k) (under-more n m pre (omega (arith, grown)) u) (omega (arith, b, grown), numbered-under n (suc n) k (omega arith)))
    (outside-less n (number_after m r) m (number_after m r) post (omega (arith, grown)) (omega arith) o) in
    ap (plain ns) (number_trees-more ns sound n (tops m r) inside) ∙ node-same (text_of ns n) t (span_of ns n) s (plain ns (number_trees ns (children_of ns n))) k (plain ns (number_trees ns (tops m r))) r texts spans first others

abbrev tree_with : NodeText → Option Span → Trees → Tree
tree_with text span children = record { text = text; span = span; children = children }

tree-same : (t u : Tree) → t.text ≡ u.text → t.span ≡ u.span → t.children ≡ u.children → t ≡ u
tree-same t u a b c = ap (λ x. tree_with x t.span t.children) a ∙ ap (λ y. tree_with u.text y t.children) b ∙ ap (λ z. tree_with u.text u.span z) c

listed_tree : (es : List NodeAt) (t : Tree) → IsSound (nodes_of es) → map numbered_of es ≡ numbered t → tree_at (nodes_of es) 0 ≡ t
unfolding numbered
listed_tree [] t s h = absurd (cc)
listed_tree (e ∷ es) t s h =
    let ns : List Node = nodes_of (e ∷ es) in
    let x : Numbered = record { parent = 0; text = t.text; span = t.span } in
    let is_first : numbered_of e ≡ x = head_same (numbered_of e) x (map numbered_of es) (numbered_below 0 1 t.children) h in
    let others : map numbered_of es ≡ numbered_below 0 1 t.children = tail_same (numbered_of e) x (map numbered_of es) (numbered_below 0 1 t.children) h in
    let first = nodes_of-at (e ∷ es) 0 (omega arith) in
    let children : children_of ns 0 ≡ tops 1 t.children = ap (λ n. n.children) first ∙ kids-map 1 0 es ∙ ap (kids 1 0) (others ∙ sym (append-nil (numbered_below 0 1 t.children)))
    ∙ kids-tops 0 1 t.children [] (omega arith) ∙ append-nil (tops 1 t.children) in
    tree-same (tree_at ns 0) t (ap (λ n. n.text) first ∙ ap (λ y. y.text) is_first) (ap (λ n. n.span) first ∙ ap (λ y. y.span) is_first)
    (ap (λ q. plain ns (number_trees ns q)) children
    ∙ plain-tops e es s t.children 0 1 [] [] (others ∙ sym (append-nil (numbered_below 0 1 t.children))) refl (omega arith) tt tt)

pub fresh_tree : (f : Forest) → IsForest f → (h : IsFresh f) → tree_of f ≡ h.tree
fresh_tree f i h =
    ap (λ ns. tree_at ns 0) h.are_nodes ∙ listed_tree h.entries h.tree (subst IsSound h.are_nodes i.sound) h.are_numbered
