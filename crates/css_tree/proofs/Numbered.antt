-- The nodes made so far, the open containers among them, and what is left, make the numbered list of the whole.
use Rattle.std.proofs.Common.{◌≡◌, ℕ, suc, zero, ◌+◌, ◌<◌, List, [], ◌∷◌, ◌++◌, Option, Some, None, Bool, false, length, refl, sym, ap, append_assoc, length-append, arith}
use Rattle.css_tree.specs.Pieces.{Lexeme, Shape, shape, end_of, join}
use Rattle.css_text.specs.declared.lexer.Span.{Span}
use Rattle.css_tree.specs.declared.node.Block.{Block}
use Rattle.css_tree.specs.declared.node.NodeText.{NodeText}
use Rattle.css_tree.specs.declared.node.NodeText.TheVariants as N
use Rattle.css_tree.specs.Tree.{Trees}
use Rattle.css_tree.specs.Nodes.{Nodes, comment, leaf, block, ends_with_semicolon, has_piece}
use Rattle.css_tree.specs.Fields.{span_of, begins_at}
use Rattle.css_tree.specs.Reads.{block_of_nodes}
use Rattle.css_tree.specs.Numbered.{Numbered, number_after, numbered_below}
use Rattle.css_tree.proofs.TreeOf.{trees, comment_text, comment_span, leaf_text, leaf_span, block_text, block_text_by}
use Rattle.css_tree.proofs.Reader.{Rest, finish, closed, map_first, enclose}

-- the same text with that end of its block, where it has one
abbrev pub with_block : NodeText → Block → NodeText
with_block (N.Root bom b) blk = N.Root bom blk
with_block (N.AtRule before n a p t None) blk = N.AtRule before n a p t None
with_block (N.AtRule before n a p t (Some b)) blk = N.AtRule before n a p t (Some blk)
with_block (N.Rule before s t b) blk = N.Rule before s t blk
with_block (N.Declaration before p t v f i l) blk = N.Declaration before p t v f i l
with_block (N.Comment before l t r) blk = N.Comment before l t r

-- an open container: its number, and whether a `;` stands behind its last child so far that isn't a comment and has no block
pub record Open : Type 0 where
  pub number : ℕ
  pub semicolon : Bool

pub alter : ℕ → (Numbered → Numbered) → List Numbered → List Numbered
alter j h [] = []
alter zero h (x ∷ xs) = h x ∷ xs
alter (suc j) h (x ∷ xs) = x ∷ alter j h xs

-- a container at its end
abbrev pub seal_root : Bool → List Lexeme → Numbered → Numbered
seal_root s a x = record x { text = with_block x.text (record { semicolon = s; after = Some (join a) }) }

abbrev pub stop_at : ℕ → Option Span → Option Span
stop_at e None = None
stop_at e (Some sp) = Some (record sp { end = e })

abbrev pub seal : Bool → List Lexeme → Lexeme → Numbered → Numbered
seal s a c x = record { parent = x.parent; text = with_block x.text (record { semicolon = s; after = Some (join a) }); span = stop_at (end_of c) x.span }

abbrev pub top : List Open → Open
top [] = record { number = 0; semicolon = false }
top (x ∷ xs) = x

abbrev pub below : List Open → List Open
below [] = []
below (x ∷ xs) = xs

-- the whole list, by the nodes so far, the open containers, innermost first, and what is left
unfoldable pub resume : List Numbered → List Open → Rest → List Numbered
resume ns os (finish f a) =
    alter (top os).number (seal_root (ends_with_semicolon (top os).semicolon f) a) ns ++ numbered_below (top os).number (length ns) (trees f)
resume ns os (closed f a c r) =
    resume (alter (top os).number (seal (ends_with_semicolon (top os).semicolon f) a c) ns ++ numbered_below (top os).number (length ns) (trees f)) (below os) r

alter-append : (j : ℕ) (h : Numbered → Numbered) (ns ms : List Numbered) → j < length ns → alter j h (ns ++ ms) ≡ alter j h ns ++ ms
unfolding alter
alter-append j h [] ms l = absurd (omega arith)
alter-append zero h (x ∷ ns) ms l = refl
alter-append (suc j) h (x ∷ ns) ms l = ap (λ z. x ∷ z) (alter-append j h ns ms (omega arith))

alter-last : (h : Numbered → Numbered) (ns : List Numbered) (x : Numbered) → alter (length ns) h (ns ++ x ∷ []) ≡ ns ++ h x ∷ []
unfolding alter
alter-last h [] x = refl
alter-last h (y ∷ ns) x = ap (λ z. y ∷ z) (alter-last h ns x)

length-alter : (j : ℕ) (h : Numbered → Numbered) (ns : List Numbered) → length (alter j h ns) ≡ length ns
unfolding alter
length-alter j h [] = refl
length-alter zero h (x ∷ ns) = refl
length-alter (suc j) h (x ∷ ns) = ap suc (length-alter j h ns)

length-snoc : (ns : List Numbered) (x : Numbered) → length (ns ++ x ∷ []) ≡ suc (length ns)
length-snoc [] x = refl
length-snoc (y ∷ ns) x = ap suc (length-snoc ns x)

pub count-length : (t : Trees) (j n : ℕ) → number_after n t ≡ n + length (numbered_below j n t)
unfolding number_after numbered_below
count-length Trees.none j n = omega arith
count-length (Trees.node x s k r) j n =
    omega (arith, count-length k n (suc n), count-length r j (number_after (suc n) k), length-append (numbered_below n (suc n) k) (numbered_below j (number_after (suc n) k) r))

-- a node at the front that isn't a container: its node, and the container's flag after it
abbrev IsFront : (Nodes → Nodes) → ℕ → Numbered → Bool → Bool → Type 0
IsFront h j x s s' = ((n : ℕ) (f : Nodes) → numbered_below j n (trees (h f)) ≡ x ∷ numbered_below j (suc n) (trees f)) × ((f : Nodes) → ends_with_semicolon s (h f) ≡ ends_with_semicolon s' f)

append-front : (h : Numbered → Numbered) (j : ℕ) (ns : List Numbered) (x : Numbered) (rest : List Numbered) → j < length ns
    → alter j h ns ++ (x ∷ rest) ≡ alter j h (ns ++ x ∷ []) ++ rest
append-front h j ns x rest l = rw (alter-append j h ns (x ∷ []) l) (sym (append_assoc (alter j h ns) (x ∷ []) rest))

one-front : (h : Nodes → Nodes) (ns : List Numbered) (j : ℕ) (x : Numbered) (s s' : Bool) (f : Nodes) (fix : Bool → Numbered → Numbered)
    → j < length ns → IsFront h j x s s'
    → alter j (fix (ends_with_semicolon s (h f))) ns ++ numbered_below j (length ns) (trees (h f)) ≡ alter j (fix (ends_with_semicolon s' f)) (ns ++ x ∷ []) ++ numbered_below j (length (ns ++ x ∷ [])) (trees f)
one-front h ns j x s s' f fix l e = rw (e.0 (length ns) f, e.1 f, length-snoc ns x) (append-front _ j ns x _ l)

pub push : (h : Nodes → Nodes) (ns : List Numbered) (j : ℕ) (x : Numbered) (s s' : Bool) (os : List Open) (r : Rest)
    → j < length ns → IsFront h j x s s'
    → resume ns (record { number = j; semicolon = s } ∷ os) (map_first h r) ≡ resume (ns ++ x ∷ []) (record { number = j; semicolon = s' } ∷ os) r
unfolding resume
push h ns j x s s' os (finish f a) l e = one-front h ns j x s s' f (λ b. seal_root b a) l e
push h ns j x s s' os (closed f a c r) l e = ap (λ z. resume z os r) (one-front h ns j x s s' f (λ b. seal b a c) l e)

abbrev pub comment_node : ℕ → List Lexeme → Lexeme → Numbered
comment_node j g p = record { parent = j; text = comment_text g p; span = comment_span p }

abbrev pub leaf_node : ℕ → List Lexeme → List Lexeme → Numbered
leaf_node j g r = record { parent = j; text = leaf_text g r; span = leaf_span r }

pub push_comment : (ns : List Numbered) (j : ℕ) (s : Bool) (os : List Open) (g : List Lexeme) (p : Lexeme) (r : Rest) → j < length ns
    → resume ns (record { number = j; semicolon = s } ∷ os) (map_first (comment g p) r) ≡ resume (ns ++ comment_node j g p ∷ []) (record { number = j; semicolon = s } ∷ os) r
unfolding trees numbered_below ends_with_semicolon number_after
push_comment ns j s os g p r l = push (comment g p) ns j (comment_node j g p) s s os r l ((λ n f. refl), (λ f. refl))

pub push_leaf : (ns : List Numbered) (j : ℕ) (s : Bool) (os : List Open) (g q e : List Lexeme) (r : Rest) → j < length ns
    → resume ns (record { number = j; semicolon = s } ∷ os) (map_first (leaf g q e) r) ≡ resume (ns ++ leaf_node j g q ∷ []) (record { number = j; semicolon = has_piece e } ∷ os) r
unfolding trees numbered_below ends_with_semicolon number_after
push_leaf ns j s os g q e r l = push (leaf g q e) ns j (leaf_node j g q) s (has_piece e) os r l ((λ n f. refl), (λ f. refl))

-- an open container, before its end is known
abbrev pub open_block : Block
open_block = record { semicolon = false; after = None }

abbrev pub open_node : ℕ → List Lexeme → List Lexeme → Lexeme → Numbered
open_node j g r p = record { parent = j; text = block_text g r open_block; span = span_of (begins_at r p) (end_of p) }

block_text-with : (g r : List Lexeme) (b c : Block) → with_block (block_text g r b) c ≡ block_text g r c
block_text-with g [] b c = refl
block_text-with g (w ∷ r) b c = by_shape (shape w)
  where
    by_shape : (s : Shape) → with_block (block_text_by s g w r b) c ≡ block_text_by s g w r c
    by_shape Shape.at_name = refl
    by_shape _ = refl

abbrev closed_node : ℕ → List Lexeme → List Lexeme → Lexeme → Nodes → List Lexeme → Lexeme → Numbered
closed_node j g r p k a c = record { parent = j; text = block_text g r (block_of_nodes k a); span = span_of (begins_at r p) (end_of c) }

seal-open : (j : ℕ) (g r : List Lexeme) (p : Lexeme) (k : Nodes) (a : List Lexeme) (c : Lexeme)
    → seal (ends_with_semicolon false k) a c (open_node j g r p) ≡ closed_node j g r p k a c
seal-open j g r p k a c = rw (block_text-with g r open_block (block_of_nodes k a)) refl

-- the nodes of a block, sealed
block-nodes : (ns : List Numbered) (j : ℕ) (g r : List Lexeme) (p : Lexeme) (k : Nodes) (a : List Lexeme) (c : Lexeme)
    → alter (length ns) (seal (ends_with_semicolon false k) a c) (ns ++ open_node j g r p ∷ []) ++ numbered_below (length ns) (length (ns ++ open_node j g r p ∷ [])) (trees k)
    ≡ ns ++ closed_node j g r p k a c ∷ numbered_below (length ns) (suc (length ns)) (trees k)
block-nodes ns j g r p k a c =
    rw (alter-last (seal (ends_with_semicolon false k) a c) ns (open_node j g r p), length-snoc ns (open_node j g r p), seal-open j g r p k a c)
    (append_assoc ns (closed_node j g r p k a c ∷ []) (numbered_below (length ns) (suc (length ns)) (trees k)))

block-length : (ns : List Numbered) (x : Numbered) (k : Nodes)
    → length (ns ++ x ∷ numbered_below (length ns) (suc (length ns)) (trees k)) ≡ number_after (suc (length ns)) (trees k)
block-length ns x k =
    omega (arith, length-append ns (x ∷ numbered_below (length ns) (suc (length ns)) (trees k)), count-length (trees k) (length ns) (suc (length ns)))

-- what is left of a container with a block at its front, and that of the container with the block sealed
block-front : (ns : List Numbered) (j : ℕ) (s : Bool) (g r : List Lexeme) (p : Lexeme) (k : Nodes) (a : List Lexeme) (c : Lexeme) (f : Nodes)
    (fix : Bool → Numbered → Numbered) → j < length ns
    → alter j (fix (ends_with_semicolon s (block g r p k a c f))) ns ++ numbered_below j (length ns) (trees (block g r p k a c f))
    ≡ let ms = alter (length ns) (seal (ends_with_semicolon false k) a c) (ns ++ open_node j g r p ∷ []) ++ numbered_below (length ns) (length (ns ++ open_node j g r p ∷ [])) (trees k) in
    alter j (fix (ends_with_semicolon false f)) ms ++ numbered_below j (length ms) (trees f)
unfolding trees numbered_below ends_with_semicolon
block-front ns j s g r p k a c f fix l =
    let x : Numbered = closed_node j g r p k a c in
    let kids : List Numbered = numbered_below (length ns) (suc (length ns)) (trees k) in
    rw (block-nodes ns j g r p k a c)
    (rw (alter-append j (fix (ends_with_semicolon false f)) ns (x ∷ kids) l, block-length ns x k)
    (sym (append_assoc (alter j (fix (ends_with_semicolon false f)) ns) (x ∷ kids) (numbered_below j (number_after (suc (length ns)) (trees k)) (trees f)))))

pub push_block : (ns : List Numbered) (j : ℕ) (s : Bool) (os : List Open) (g r : List Lexeme) (p : Lexeme) (k : Nodes) (a : List Lexeme) (c : Lexeme) (rest : Rest)
    → j < length ns
    → resume ns (record { number = j; semicolon = s } ∷ os) (enclose g r p (closed k a c rest))
    ≡ resume (ns ++ open_node j g r p ∷ []) (record { number = length ns; semicolon = false } ∷ record { number = j; semicolon = false } ∷ os) (closed k a c rest)
unfolding resume
push_block ns j s os g r p k a c (finish f b) l = block-front ns j s g r p k a c f (λ y. seal_root y b) l
push_block ns j s os g r p k a c (closed f b d rest) l = ap (λ z. resume z os rest) (block-front ns j s g r p k a c f (λ y. seal y b d) l)
