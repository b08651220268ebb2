-- What the list of a reading's nodes meets: kinds, containers and spans.
use Rattle.std.proofs.Common.{◌≡◌, ◌≢◌, ℕ, zero, suc, ◌+◌, ◌<◌, ◌≤◌, List, [], ◌∷◌, ◌++◌, length, drop, IsSome, false, refl, ◌∙◌, sym, ap, subst, append_assoc, length-append, add-zero, arith, get_or}
use Rattle.std.specs.Str.{chars, IsUtf8, IsCharBoundary}
use Rattle.css_text.specs.declared.lexer.Span.{Span}
use Rattle.css_text.specs.Pieces.{Token, cut, joined}
use Rattle.css_text.specs.Ahead.{byte_len, bom_len, without_bom, pieces}
use Rattle.css_text.proofs.Slices.{IsFrom, from_boundary, from_back}
use Rattle.css_text.proofs.ReaderStart.{at_start}
use Rattle.css_tree.specs.declared.node.Kind.TheVariants as K
use Rattle.css_tree.specs.declared.node.Block.{Block}
use Rattle.css_tree.specs.Parts.{kind_of, block_of}
use Rattle.css_tree.specs.Pieces.{Lexeme, Shape, shape, located, pieces_of, join, end_of, last_end}
use Rattle.css_tree.specs.Fields.{begins_at}
use Rattle.css_tree.specs.Laws.{HasTwoBytes, EachHasTwoBytes}
use Rattle.css_tree.specs.Nodes.{Nodes, none, comment, leaf, block, line, ends_with_semicolon}
use Rattle.css_tree.proofs.Split.{hack}
use Rattle.css_tree.proofs.TreeOf.{leaf_text, leaf_text_by, leaf_span, block_text, block_text_by, hack_of_shape, trees}
use Rattle.node_rows.specs.declared.node_list.NodeAt.{NodeAt}
use Rattle.node_rows.specs.Ends.{with_block}
use Rattle.css_parse.specs.Gaps.{gap_of}
use Rattle.css_parse.specs.Machine.{comment_node, leaf_node, leaf_start, leaf_bytes, open_node, open_end, seal, count, flat}
use Rattle.css_parse.proofs.Ascii.{hack-all, hack-size}

abbrev pub All : (NodeAt → Type 0) → List NodeAt → Type 0
All P [] = Unit {0}
All P (e ∷ es) = P e × All P es

all-append : (P : NodeAt → Type 0) (xs ys : List NodeAt) → All P xs → All P ys → All P (xs ++ ys)
all-append P [] ys a b = b
all-append P (x ∷ xs) ys a b = (a.0, all-append P xs ys a.1 b)

pub all-at : (P : NodeAt → Type 0) (es : List NodeAt) (n : ℕ) (d : NodeAt) → n < length es → All P es → P (get_or es n d)
all-at P [] n d l h = absurd (omega arith)
all-at P (e ∷ es) zero d l h = h.0
all-at P (e ∷ es) (suc n) d l h = all-at P es n d (omega arith) h.1

-- Kinds.

abbrev pub IsNoRoot : NodeAt → Type 0
IsNoRoot e = kind_of e.text ≢ K.Root

leaf-kind : (s : Shape) (b : List Lexeme) (w : Lexeme) (r : List Lexeme) → kind_of (leaf_text_by s b w r) ≢ K.Root
leaf-kind Shape.at_name b w r e = cc
leaf-kind _ b w r e = cc

leaf-no_root : (b r : List Lexeme) → kind_of (leaf_text b r) ≢ K.Root
leaf-no_root b [] e = cc
leaf-no_root b (w ∷ r) e = leaf-kind (shape w) b w r e

block-kind : (s : Shape) (b : List Lexeme) (w : Lexeme) (r : List Lexeme) (x y : Block) → kind_of (with_block (block_text_by s b w r x) y) ≢ K.Root
block-kind Shape.at_name b w r x y e = cc
block-kind _ b w r x y e = cc

block-no_root : (b r : List Lexeme) (x y : Block) → kind_of (with_block (block_text b r x) y) ≢ K.Root
block-no_root b [] x y e = cc
block-no_root b (w ∷ r) x y e = block-kind (shape w) b w r x y e

pub no_roots : (f : Nodes) (j n : ℕ) → All IsNoRoot (flat j n f)
unfolding flat
no_roots none j n = tt
no_roots (comment b p f) j n = ((λ e. cc), no_roots f j (suc n))
no_roots (leaf b r e f) j n = (leaf-no_root (gap_of (join b)) r, no_roots f j (suc n))
no_roots (block b r o k a c f) j n = (block-no_root (gap_of (join b)) r open_end _, all-append IsNoRoot (flat n (suc n) k) (flat j (count (suc n) k) f) (no_roots k n (suc n)) (no_roots f j (count (suc n) k)))

-- Containers.

block-some : (s : Shape) (b : List Lexeme) (w : Lexeme) (r : List Lexeme) (x y : Block) → IsSome (block_of (with_block (block_text_by s b w r x) y))
block-some Shape.at_name b w r x y = refl
block-some _ b w r x y = refl

block-container : (b r : List Lexeme) (x y : Block) → IsSome (block_of (with_block (block_text b r x) y))
block-container b [] x y = refl
block-container b (w ∷ r) x y = block-some (shape w) b w r x y

-- the entry at the number is a container
abbrev pub IsContainer : List NodeAt → NodeAt → ℕ → Type 0
IsContainer es d p = IsSome (block_of (get_or es p d).text)

get-behind : (pre post : List NodeAt) (x d : NodeAt) (n : ℕ) → length pre ≡ n → get_or (pre ++ x ∷ post) n d ≡ x
get-behind [] post x d zero e = refl
get-behind [] post x d (suc n) e = absurd (cc)
get-behind (y ∷ pre) post x d zero e = absurd (cc)
get-behind (y ∷ pre) post x d (suc n) e = get-behind pre post x d n (omega arith)

snoc-len : (pre : List NodeAt) (x : NodeAt) (n : ℕ) → length pre ≡ n → length (pre ++ x ∷ []) ≡ suc n
snoc-len pre x n e = omega (arith, length-append pre (x ∷ []), e)

snoc-all : (es pre post : List NodeAt) (x : NodeAt) → es ≡ pre ++ x ∷ post → es ≡ (pre ++ x ∷ []) ++ post
snoc-all es pre post x e = e ∙ sym (append_assoc pre (x ∷ []) post)

pub count-length : (f : Nodes) (j n : ℕ) → count n f ≡ n + length (flat j n f)
unfolding count flat
count-length none j n = omega arith
count-length (comment b p f) j n = omega (arith, count-length f j (suc n))
count-length (leaf b r e f) j n = omega (arith, count-length f j (suc n))
count-length (block b r o k a c f) j n =
    omega (arith, count-length k n (suc n), count-length f j (count (suc n) k), length-append (flat n (suc n) k) (flat j (count (suc n) k) f))

-- the parents of the nodes are containers of the whole list, where theirs is one
contained : (f : Nodes) (j n : ℕ) (es pre post : List NodeAt) (d : NodeAt) → es ≡ pre ++ (flat j n f ++ post) → length pre ≡ n → IsContainer es d j → All (λ e. IsContainer es d e.parent) (flat j n f)
unfolding flat
contained none j n es pre post d e l h = tt
contained (comment b p f) j n es pre post d e l h =
    let x = comment_node j (join b) p in
    (h, contained f j (suc n) es (pre ++ x ∷ []) post d (snoc-all es pre (flat j (suc n) f ++ post) x e) (snoc-len pre x n l) h)
contained (leaf b r y f) j n es pre post d e l h =
    let x = leaf_node j (join b) r in
    (h, contained f j (suc n) es (pre ++ x ∷ []) post d (snoc-all es pre (flat j (suc n) f ++ post) x e) (snoc-len pre x n l) h)
contained (block b r o k a c f) j n es pre post d e l h =
    let x = seal (ends_with_semicolon false k) (join a) c (open_node j (join b) r o) in
    let kids = flat n (suc n) k in
    let m = count (suc n) k in
    let tail = flat j m f ++ post in
    let at : get_or es n d ≡ x = ap (λ z. get_or z n d) e ∙ get-behind pre ((kids ++ flat j m f) ++ post) x d n l in
    let own : IsContainer es d n = subst (λ z. IsSome (block_of z.text)) (sym at) (block-container (gap_of (join b)) r open_end _) in
    let e1 : es ≡ (pre ++ x ∷ []) ++ (kids ++ tail) = snoc-all es pre ((kids ++ flat j m f) ++ post) x e ∙ ap (λ z. (pre ++ x ∷ []) ++ z) (append_assoc kids (flat j m f) post) in
    let e2 : es ≡ ((pre ++ x ∷ []) ++ kids) ++ tail = e1 ∙ sym (append_assoc (pre ++ x ∷ []) kids tail) in
    let l2 : length ((pre ++ x ∷ []) ++ kids) ≡ m = omega (arith, length-append (pre ++ x ∷ []) kids, snoc-len pre x n l, count-length k n (suc n)) in
    (h, all-append (λ e. IsContainer es d e.parent) kids (flat j m f) (contained k n (suc n) es (pre ++ x ∷ []) tail d e1 (snoc-len pre x n l) own) (contained f j m es ((pre ++ x ∷ []) ++ kids) post d e2 l2 h))

pub in_containers : (f : Nodes) (root d : NodeAt) → IsSome (block_of root.text) → All (λ e. IsContainer (root ∷ flat 0 1 f) d e.parent) (flat 0 1 f)
in_containers f root d h = contained f 0 1 (root ∷ flat 0 1 f) (root ∷ []) [] d (ap (λ z. root ∷ z) (sym (append-none (flat 0 1 f)))) refl h
  where
    append-none : (xs : List NodeAt) → xs ++ [] ≡ xs
    append-none [] = refl
    append-none (x ∷ xs) = ap (λ z. x ∷ z) (append-none xs)

-- Spans.

-- a text may be cut at both ends of the piece, and behind its hack
pub record Sits (bs : List ℕ) (p : Lexeme) : Type 0 where
  pub low : IsCharBoundary bs p.at
  pub high : IsCharBoundary bs (end_of p)
  pub hacked : IsCharBoundary bs (p.at + length (hack p.text))

abbrev pub AllSit : List ℕ → List Lexeme → Type 0
AllSit bs [] = Unit {0}
AllSit bs (p ∷ ps) = Sits bs p × AllSit bs ps

token-sits : (bs : List ℕ) (at : ℕ) (t : Token) (rest : List ℕ) → IsFrom bs at (t.text ++ rest) → Sits bs (record { kind = t.kind; at = at; text = t.text })
token-sits bs at t rest h =
    let e : t.text ++ rest ≡ hack t.text ++ (drop (length (hack t.text)) t.text ++ rest) = ap (λ z. z ++ rest) (sym (hack-all t.text)) ∙ append_assoc (hack t.text) (drop (length (hack t.text)) t.text) rest in
    record {
      low = from_boundary bs at (t.text ++ rest) h;
      high = from_boundary bs (at + byte_len t.text) rest (from_back bs at t.text rest h);
      hacked = subst (λ n. IsCharBoundary bs (at + n)) (hack-size t.text) (from_boundary bs (at + byte_len (hack t.text)) (drop (length (hack t.text)) t.text ++ rest) (from_back bs at (hack t.text) _ (subst (IsFrom bs at) e h)));
    }

located-sit : (bs : List ℕ) (ts : List Token) (at : ℕ) (rest : List ℕ) → IsFrom bs at (joined ts ++ rest) → AllSit bs (located at ts)
located-sit bs [] at rest h = tt
located-sit bs (t ∷ ts) at rest h =
    let k : IsFrom bs at (t.text ++ (joined ts ++ rest)) = subst (IsFrom bs at) (append_assoc t.text (joined ts) rest) h in
    (token-sits bs at t (joined ts ++ rest) k, located-sit bs ts (at + byte_len t.text) rest (from_back bs at t.text (joined ts ++ rest) k))

pub pieces-sit : (bs : List ℕ) → IsUtf8 bs → AllSit bs (pieces_of (chars bs)) × IsCharBoundary bs (bom_len (chars bs))
unfolding pieces_of
pieces-sit bs u =
    let b = at_start bs (pieces (chars bs)) u refl in
    (located-sit bs (cut (without_bom (chars bs))).tokens (bom_len (chars bs)) b.rest b.at.here, from_boundary bs (bom_len (chars bs)) _ b.at.here)

pub sit-front : (bs : List ℕ) (xs ys : List Lexeme) → AllSit bs (xs ++ ys) → AllSit bs xs
sit-front bs [] ys h = tt
sit-front bs (x ∷ xs) ys h = (h.0, sit-front bs xs ys h.1)

sit-back : (bs : List ℕ) (xs ys : List Lexeme) → AllSit bs (xs ++ ys) → AllSit bs ys
sit-back bs [] ys h = h
sit-back bs (x ∷ xs) ys h = sit-back bs xs ys h.1

pub last-boundary : (bs : List ℕ) (ps : List Lexeme) (at : ℕ) → IsCharBoundary bs at → AllSit bs ps → IsCharBoundary bs (last_end at ps)
last-boundary bs [] at b h = b
last-boundary bs (p ∷ ps) at b h = last-boundary bs ps (end_of p) h.0.high h.1

hack-boundary : (bs : List ℕ) (s : Shape) (w : Lexeme) → Sits bs w → IsCharBoundary bs (w.at + length (hack_of_shape s w.text))
hack-boundary bs Shape.at_name w h = subst (IsCharBoundary bs) (sym (add-zero w.at)) h.low
hack-boundary bs _ w h = h.hacked

-- what is known of a span
pub record IsCutAt (bs : List ℕ) (span : Span) : Type 0 where
  pub order : span.start ≤ span.end
  pub low : IsCharBoundary bs span.start
  pub high : IsCharBoundary bs span.end

abbrev LeafTwo : List Lexeme → Type 0
LeafTwo [] = Unit {0}
LeafTwo (w ∷ r) = leaf_start w + 2 ≤ last_end (end_of w) r

leaf-two-of : (r : List Lexeme) → HasTwoBytes (leaf_span r) → LeafTwo r
leaf-two-of [] h = tt
leaf-two-of (w ∷ r) h = h

leaf-cut : (bs : List ℕ) (r : List Lexeme) → IsCharBoundary bs 0 → AllSit bs r → LeafTwo r → IsCutAt bs (leaf_bytes r)
leaf-cut bs [] z h t = record { order = omega arith; low = z; high = z }
leaf-cut bs (w ∷ r) z h t = record { order = omega (arith, t); low = hack-boundary bs (shape w) w h.0; high = last-boundary bs r (end_of w) h.0.high h.1 }

first-boundary : (bs : List ℕ) (r : List Lexeme) (o : Lexeme) → AllSit bs r → Sits bs o → IsCharBoundary bs (begins_at r o)
first-boundary bs [] o h k = k.low
first-boundary bs (w ∷ r) o h k = h.0.low

pub cuts : (bs : List ℕ) (f : Nodes) (j n : ℕ) → IsCharBoundary bs 0 → AllSit bs (line f) → EachHasTwoBytes (trees f) → All (λ e. IsCutAt bs e.span) (flat j n f)
unfolding flat line trees
cuts bs none j n z h t = tt
cuts bs (comment b p f) j n z h t =
    let k = sit-back bs b (p ∷ line f) h in
    (record { order = omega (arith, t.0); low = k.0.low; high = k.0.high }, cuts bs f j (suc n) z k.1 t.2)
cuts bs (leaf b r e f) j n z h t =
    let k = sit-back bs b (r ++ (e ++ line f)) h in
    let m = sit-back bs e (line f) (sit-back bs r (e ++ line f) k) in
    (leaf-cut bs r z (sit-front bs r (e ++ line f) k) (leaf-two-of r t.0), cuts bs f j (suc n) z m t.2)
cuts bs (block b r o k a c f) j n z h t =
    let x = sit-back bs b (r ++ o ∷ (line k ++ (a ++ c ∷ line f))) h in
    let y = sit-back bs r (o ∷ (line k ++ (a ++ c ∷ line f))) x in
    let v = sit-back bs (line k) (a ++ c ∷ line f) y.1 in
    let w = sit-back bs a (c ∷ line f) v in (
      record { order = omega (arith, t.0); low = first-boundary bs r o (sit-front bs r (o ∷ (line k ++ (a ++ c ∷ line f))) x) y.0; high = w.0.high },
      all-append (λ e. IsCutAt bs e.span) (flat n (suc n) k) (flat j (count (suc n) k) f) (cuts bs k n (suc n) z (sit-front bs (line k) (a ++ c ∷ line f) y.1) t.1) (cuts bs f j (count (suc n) k) z w.1 t.2),
    )
