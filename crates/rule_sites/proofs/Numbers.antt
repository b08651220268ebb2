-- The numbers of a sheet that was just read, in document order, are 0, 1, 2 and so on.
use Rattle.std.proofs.Common.{◌≡◌, ℕ, zero, suc, ◌+◌, ◌<◌, ◌≤◌, List, [], ◌∷◌, ◌++◌, Bool, true, false, length, map, refl, ap, sym, ◌∙◌, subst, arith, eqb, cond, append_assoc, append-nil, length-append, ◌⊎◌, inl, inr}
use Rattle.std.specs.List.{range_with_len}
use Rattle.std.proofs.lemmas.Bool.{ne_eqb}
use Rattle.std.proofs.lemmas.List.{length-map}
use Rattle.std.proofs.lemmas.Grind.{common_steps}
use Rattle.css_tree.specs.Tree.{Trees, none, node, Tree}
use Rattle.css_tree.specs.Numbered.{Numbered, number_after, numbered_below, numbered}
use Rattle.node_rows.specs.declared.node_list.NodeAt.{NodeAt}
use Rattle.node_rows.specs.Nodes.{Node, node_at, children_of}
use Rattle.node_rows.specs.NodeList.{entry_at, children_from, nodes_of}
use Rattle.node_rows.specs.NumberTrees.{number_trees, numbers, numbers_below}
use Rattle.node_rows.specs.Sound.{IsSound}
use Rattle.node_store.specs.Forest.{Forest, IsForest}
use Rattle.node_store.specs.Fresh.{IsFresh, numbered_of}
use Rattle.node_rows.proofs.Levels.{number_trees-more, number_trees-none}
use Rattle.node_rows.proofs.Built.{nodes_of-at, nodes_of-length, entry_node}
use Rattle.node_store.proofs.FreshTree.{kids, tops, Outside, Under}

outside-append : (lo hi : ℕ) (xs ys : List Numbered) → Outside lo hi xs → Outside lo hi ys → Outside lo hi (xs ++ ys)
outside-append lo hi [] ys a b = b
outside-append lo hi (x ∷ xs) ys a b = (a.0, outside-append lo hi xs ys a.1 b)

outside-less : (lo hi a b : ℕ) (xs : List Numbered) → lo ≤ a → b ≤ hi → Outside lo hi xs → Outside a b xs
outside-less lo hi a b [] l h o = tt
outside-less lo hi a b (x ∷ xs) l h o = (by o.0, outside-less lo hi a b xs l h o.1)
  where
    by : (x.parent < lo) ⊎ (hi ≤ x.parent) → (x.parent < a) ⊎ (b ≤ x.parent)
    by (inl q) = inl (omega arith)
    by (inr q) = inr (omega arith)

other : (lo hi p q : ℕ) → (q < lo) ⊎ (hi ≤ q) → lo ≤ p → p < hi → eqb q p ≡ false
other lo hi p q (inl h) a b = ne_eqb q p (λ e. absurd (omega (arith, e)))
other lo hi p q (inr h) a b = ne_eqb q p (λ e. absurd (omega (arith, e)))

-- nodes with other parents are passed
kids-passed : (lo hi m p : ℕ) (xs ys : List Numbered) → Outside lo hi xs → lo ≤ p → p < hi → kids m p (xs ++ ys) ≡ kids (m + length xs) p ys
kids-passed lo hi m p [] ys o a b = ap (λ k. kids k p ys) (omega arith)
kids-passed lo hi m p (x ∷ xs) ys o a b =
    rw (other lo hi p x.parent o.0 a b) (kids-passed lo hi (m + 1) p xs ys o.1 a b ∙ ap (λ k. kids k p ys) (omega arith))

kids-none : (lo hi m p : ℕ) (xs : List Numbered) → Outside lo hi xs → lo ≤ p → p < hi → kids m p xs ≡ []
kids-none lo hi m p xs o a b = ap (kids m p) (sym (append-nil xs)) ∙ kids-passed lo hi m p xs [] o a b

after-grows : (n : ℕ) (f : Trees) → n ≤ number_after n f
unfolding number_after
after-grows n none = omega arith
after-grows n (node t s k r) = let a = after-grows (suc n) k in let b = after-grows (number_after (suc n) k) r in omega (arith, a, b)

-- numbered trees have parents of their own, or the one that is given
numbered-outside : (j n lo hi : ℕ) (f : Trees) → (j < lo) ⊎ (hi ≤ j) → hi ≤ n → Outside lo hi (numbered_below j n f)
unfolding numbered_below number_after
numbered-outside j n lo hi none h l = tt
numbered-outside j n lo hi (node t s k r) h l = (
  h,
  outside-append lo hi (numbered_below n (suc n) k) (numbered_below j (number_after (suc n) k) r)
      (numbered-outside n (suc n) lo hi k (inr l) (omega arith))
      (numbered-outside j (number_after (suc n) k) lo hi r h (let a = after-grows (suc n) k in omega (arith, a))),
)

-- they are as many as their numbers
pub numbered-length : (j n : ℕ) (f : Trees) → n + length (numbered_below j n f) ≡ number_after n f
unfolding numbered_below number_after
numbered-length j n none = omega arith
numbered-length j n (node t s k r) =
    let a = numbered-length n (suc n) k in
    let b = numbered-length j (number_after (suc n) k) r in
    omega (arith, a, b, length-append (numbered_below n (suc n) k) (numbered_below j (number_after (suc n) k) r))

under-append : (n : ℕ) (xs ys : List Numbered) → Under n xs → Under n ys → Under n (xs ++ ys)
under-append n [] ys a b = b
under-append n (x ∷ xs) ys a b = (a.0, under-append n xs ys a.1 b)

under-more : (n m : ℕ) (xs : List Numbered) → n ≤ m → Under n xs → Under m xs
under-more n m [] l u = tt
under-more n m (x ∷ xs) l u = (omega (arith, u.0), under-more n m xs l u.1)

under-outside : (n lo hi : ℕ) (xs : List Numbered) → n ≤ lo → Under n xs → Outside lo hi xs
under-outside n lo hi [] l u = tt
under-outside n lo hi (x ∷ xs) l u = (inl (omega (arith, u.0)), under-outside n lo hi xs l u.1)

-- and their parents are numbers before the last
numbered-under : (j n : ℕ) (f : Trees) → j < n → Under (number_after n f) (numbered_below j n f)
unfolding numbered_below number_after
numbered-under j n none b = tt
numbered-under j n (node t s k r) b =
    let m : ℕ = number_after (suc n) k in
    let a = after-grows (suc n) k in
    let c = after-grows m r in (
      omega (arith, a, c),
      under-append (number_after m r) (numbered_below n (suc n) k) (numbered_below j m r)
          (under-more m (number_after m r) (numbered_below n (suc n) k) c (numbered-under n (suc n) k (omega arith)))
          (numbered-under j m r (omega (arith, a))),
    )

same_number : (j : ℕ) → eqb j j ≡ true
same_number j = grind (arith, common_steps)

-- the children of the node that the trees were numbered below
kids-tops : (j n : ℕ) (f : Trees) (ys : List Numbered) → j < n → kids n j (numbered_below j n f ++ ys) ≡ tops n f ++ kids (number_after n f) j ys
unfolding numbered_below number_after
kids-tops j n none ys b = refl
kids-tops j n (node t s k r) ys b =
    let m : ℕ = number_after (suc n) k in
    rw (same_number j) (ap (λ l. n ∷ l)
    (ap (kids (n + 1) j) (append_assoc (numbered_below n (suc n) k) (numbered_below j m r) ys)
    ∙ kids-passed j n (n + 1) j (numbered_below n (suc n) k) (numbered_below j m r ++ ys) (numbered-outside n (suc n) j n k (inr (omega arith)) (omega arith)) (omega arith) b
    ∙ ap (λ i. kids i j (numbered_below j m r ++ ys)) (let l = numbered-length n (suc n) k in omega (arith, l))
    ∙ kids-tops j m r ys (let a = after-grows (suc n) k in omega (arith, a))))

-- the children of a node among all
kids-of : (j n : ℕ) (pre rest : List Numbered) (x : Numbered) (k : Trees) → suc (length pre) ≡ n → j < n → x.parent ≡ j → Under n pre → Outside n (suc n) rest
    → kids 1 n (pre ++ x ∷ (numbered_below n (suc n) k ++ rest)) ≡ tops (suc n) k
kids-of j n pre rest x k e b p u o =
    kids-passed n (suc n) 1 n pre (x ∷ (numbered_below n (suc n) k ++ rest)) (under-outside n n (suc n) pre (omega arith) u) (omega arith) (omega arith)
    ∙ ap (λ i. kids i n (x ∷ (numbered_below n (suc n) k ++ rest))) (omega (arith, e))
    ∙ skip
    ∙ ap (λ i. kids i n (numbered_below n (suc n) k ++ rest)) (omega arith)
    ∙ kids-tops n (suc n) k rest (omega arith)
    ∙ ap (λ l. tops (suc n) k ++ l) (kids-none n (suc n) (number_after (suc n) k) n rest o (omega arith) (omega arith))
    ∙ append-nil (tops (suc n) k)
  where
    skip : kids n n (x ∷ (numbered_below n (suc n) k ++ rest)) ≡ kids (n + 1) n (numbered_below n (suc n) k ++ rest)
    skip = rw (ne_eqb x.parent n (λ q. absurd (omega (arith, q, p, b)))) refl

kids-map : (n p : ℕ) (es : List NodeAt) → children_from n p es ≡ kids n p (map numbered_of es)
kids-map n p [] = refl
kids-map n p (e ∷ es) = by (eqb e.parent p) (kids-map (n + 1) p es)
  where
    by : (b : Bool) → children_from (n + 1) p es ≡ kids (n + 1) p (map numbered_of es) → cond b (n ∷ children_from (n + 1) p es) (children_from (n + 1) p es) ≡ cond b (n ∷ kids (n + 1) p (map numbered_of es)) (kids (n + 1) p (map numbered_of es))
    by true h = ap (λ l. n ∷ l) h
    by false h = h

head_same : (x y : Numbered) (xs ys : List Numbered) → x ∷ xs ≡ y ∷ ys → x ≡ y
head_same x y xs ys e = cc

tail_same : (x y : Numbered) (xs ys : List Numbered) → x ∷ xs ≡ y ∷ ys → xs ≡ ys
tail_same x y xs ys e = cc

-- the entry behind some others
entry_is : (es : List NodeAt) (pre rest : List Numbered) (x : Numbered) → map numbered_of es ≡ pre ++ x ∷ rest → (length pre < length es) × (numbered_of (entry_at es (length pre)) ≡ x)
entry_is [] [] rest x h = absurd (cc)
entry_is [] (y ∷ pre) rest x h = absurd (cc)
entry_is (e ∷ es) [] rest x h = (omega arith, head_same (numbered_of e) x (map numbered_of es) rest h)
entry_is (e ∷ es) (y ∷ pre) rest x h =
    let i = entry_is es pre rest x (tail_same (numbered_of e) y (map numbered_of es) (pre ++ x ∷ rest) h) in (omega (arith, i.0), i.1)

-- what stands at a number behind the first
node_is : (e : NodeAt) (es : List NodeAt) (i : ℕ) → i < length es → node_at (nodes_of (e ∷ es)) (suc i) ≡ entry_node (e ∷ es) (suc i) (entry_at es i)
node_is e es i b = nodes_of-at (e ∷ es) (suc i) (omega arith)

children_are : (e : NodeAt) (es : List NodeAt) (i : ℕ) → i < length es → children_of (nodes_of (e ∷ es)) (suc i) ≡ kids 1 (suc i) (map numbered_of es)
children_are e es i b = ap (λ n. n.children) (node_is e es i b) ∙ kids-map 1 (suc i) es

-- a range in two parts
pub range-append : (a k l : ℕ) → range_with_len a (k + l) ≡ range_with_len a k ++ range_with_len (a + k) l
range-append a zero l = let e : zero + l ≡ l = omega arith in let f : a + zero ≡ a = omega arith in rw (e, f) refl
range-append a (suc k) l =
    let e : suc k + l ≡ suc (k + l) = omega arith in
    let f : a + suc k ≡ (a + 1) + k = omega arith in
    rw (e, f) (ap (λ z. a ∷ z) (range-append (a + 1) k l))

-- trees that were numbered have the numbers from the first one's on
counted : (e : NodeAt) (es : List NodeAt) → IsSound (nodes_of (e ∷ es)) → (f : Trees) (j n : ℕ) (pre post : List Numbered)
    → map numbered_of es ≡ pre ++ (numbered_below j n f ++ post) → suc (length pre) ≡ n → j < n → Under n pre → Outside n (number_after n f) post
    → numbers (number_trees (nodes_of (e ∷ es)) (tops n f)) ≡ range_with_len n (length (numbered_below j n f))
unfolding numbered_below number_after
counted e es sound none j n pre post h l b u o = ap numbers (number_trees-none (nodes_of (e ∷ es)))
counted e es sound (node t s k r) j n pre post h l b u o =
    let ns : List Node = nodes_of (e ∷ es) in
    let m : ℕ = number_after (suc n) k in
    let x : Numbered = record { parent = j; text = t; span = s } in
    let below_k : List Numbered = numbered_below n (suc n) k in
    let below_r : List Numbered = numbered_below j m r in
    let grown = after-grows (suc n) k in
    let more = after-grows m r in
    let rest : List Numbered = below_r ++ post in
    let all : map numbered_of es ≡ pre ++ x ∷ (below_k ++ rest) = h ∙ ap (λ q. pre ++ x ∷ q) (append_assoc below_k below_r post) in
    let found = entry_is es pre (below_k ++ rest) x all in
    let inside : n < length ns = omega (arith, l, found.0, nodes_of-length (e ∷ es)) in
    let outside : Outside n m rest = outside-append n m below_r post (numbered-outside j m n m r (inl b) (omega arith)) (outside-less n (number_after m r) n m post (omega arith) more o) in
    let children : children_of ns n ≡ tops (suc n) k = ap (children_of ns) (sym l) ∙ children_are e es (length pre) found.0 ∙ ap (λ q. kids 1 q (map numbered_of es)) l ∙ ap (kids 1 n) all
    ∙ kids-of j n pre rest x k l b refl u (outside-less n m n (suc n) rest (omega arith) (omega (arith, grown)) outside) in
    let first : numbers (number_trees ns (children_of ns n)) ≡ range_with_len (suc n) (length below_k) = ap (λ q. numbers (number_trees ns q)) children
    ∙ counted e es sound k n (suc n) (pre ++ x ∷ []) rest (all ∙ sym (append_assoc pre (x ∷ []) (below_k ++ rest))) (omega (arith, l, length-append pre (x ∷ [])))
    (omega arith) (under-append (suc n) pre (x ∷ []) (under-more n (suc n) pre (omega arith) u) (omega (arith, b), tt)) (outside-less n m (suc n) m rest (omega arith) (omega arith) outside) in
    let others : numbers (number_trees ns (tops m r)) ≡ range_with_len m (length below_r) = counted e es sound r j m (pre ++ x ∷ below_k) post
    (all ∙ sym (append_assoc pre (x ∷ below_k) rest))
    (omega (arith, l, length-append pre (x ∷ below_k), numbered-length n (suc n) k)) (omega (arith, grown, b))
    (under-append m pre (x ∷ below_k) (under-more n m pre (omega (arith, grown)) u) (omega (arith, b, grown), numbered-under n (suc n) k (omega arith)))
    (outside-less n (number_after m r) m (number_after m r) post (omega (arith, grown)) (omega arith) o) in
    let next : n + 1 + length below_k ≡ m = omega (arith, numbered-length n (suc n) k) in
    let one : suc n ≡ n + 1 = omega arith in
    ap numbers (number_trees-more ns sound n (tops m r) inside)
    ∙ ap (λ q. n ∷ (q ++ numbers (number_trees ns (tops m r)))) (first ∙ ap (λ q. range_with_len q (length below_k)) one)
    ∙ ap (λ q. n ∷ (range_with_len (n + 1) (length below_k) ++ q)) (others ∙ ap (λ q. range_with_len q (length below_r)) (sym next))
    ∙ ap (λ q. n ∷ q) (sym (range-append (n + 1) (length below_k) (length below_r)) ∙ ap (range_with_len (n + 1)) (sym (length-append below_k below_r)))

listed_numbers : (es : List NodeAt) (t : Tree) → IsSound (nodes_of es) → map numbered_of es ≡ numbered t → 0 ∷ numbers_below (nodes_of es) 0 ≡ range_with_len 0 (length (nodes_of es))
unfolding numbered
listed_numbers [] t s h = absurd (cc)
listed_numbers (e ∷ es) t s h =
    let ns : List Node = nodes_of (e ∷ es) in
    let x : Numbered = record { parent = 0; text = t.text; span = t.span } in
    let others : map numbered_of es ≡ numbered_below 0 1 t.children = tail_same (numbered_of e) x (map numbered_of es) (numbered_below 0 1 t.children) h in
    let first = nodes_of-at (e ∷ es) 0 (omega arith) in
    let children : children_of ns 0 ≡ tops 1 t.children = ap (λ n. n.children) first ∙ kids-map 1 0 es ∙ ap (kids 1 0) (others ∙ sym (append-nil (numbered_below 0 1 t.children)))
    ∙ kids-tops 0 1 t.children [] (omega arith) ∙ append-nil (tops 1 t.children) in
    let size : length (numbered_below 0 1 t.children) ≡ length es = ap length (sym others) ∙ length-map es numbered_of in
    let inner : numbers_below ns 0 ≡ range_with_len 1 (length es) = ap (λ q. numbers (number_trees ns q)) children
    ∙ counted e es s t.children 0 1 [] [] (others ∙ sym (append-nil (numbered_below 0 1 t.children))) refl (omega arith) tt tt
    ∙ ap (range_with_len 1) size in
    ap (λ q. 0 ∷ q) inner ∙ sym (ap (range_with_len 0) (nodes_of-length (e ∷ es)))

-- the root and the numbers below it, of a sheet that was just read
pub numbers_in_order : (f : Forest) → IsForest f → IsFresh f → 0 ∷ numbers_below f.nodes 0 ≡ range_with_len 0 (length f.nodes)
numbers_in_order f i h =
    let e : f.nodes ≡ nodes_of h.entries = h.are_nodes in
    ap (λ ns. 0 ∷ numbers_below ns 0) e ∙ listed_numbers h.entries h.tree (subst IsSound e i.sound) h.are_numbered ∙ ap (λ ns. range_with_len 0 (length ns)) (sym e)
