-- The list of a reading's nodes: its tree, and what it has to meet.
use Rattle.std.proofs.Common.{◌≡◌, ℕ, suc, List, [], ◌∷◌, ◌++◌, false, map, Some, refl, ◌∙◌, sym, ap}
use Rattle.css_text.specs.Ahead.{byte_len, begins_bom}
use Rattle.css_tree.specs.declared.node.Block.{Block}
use Rattle.css_tree.specs.Pieces.{Lexeme, Shape, shape, join, end_of, pieces_of}
use Rattle.css_tree.specs.Fault.{Fault, lexical_fault, fault}
use Rattle.css_tree.specs.Fields.{begins_at, span_of}
use Rattle.css_tree.specs.Nodes.{Nodes, none, comment, leaf, block, ends_with_semicolon}
use Rattle.css_tree.specs.Reads.{block_of_nodes}
use Rattle.css_tree.specs.Numbered.{number_after, numbered_below, numbered}
use Rattle.css_tree.proofs.TreeOf.{comment_text, comment_span, leaf_text, leaf_text_by, leaf_span, block_text, block_text_by, trees, tree_of}
use Rattle.css_tree.proofs.Reader.{finish, closed, Outcome, fails, ok}
use Rattle.css_tree.proofs.Sound.{Holds}
use Rattle.css_tree.proofs.Agrees.{fault_in}
use Rattle.css_tree.proofs.Reading.{read, read-holds, fault-is}
use Rattle.node_rows.specs.declared.node_list.NodeAt.{NodeAt}
use Rattle.node_rows.specs.Ends.{with_block}
use Rattle.node_store.specs.Fresh.{numbered_of}
use Rattle.css_parse.specs.Gaps.{gap_of}
use Rattle.css_parse.specs.Machine.{leaf_node, open_end, seal_root, root_node, count, flat, alter, resume, faulty, done, final, answer, start}
use Rattle.css_parse.specs.Reading.{whole}
use Rattle.css_parse.proofs.Joins.{join-nil}
use Rattle.css_parse.proofs.MachineSteps.{same, gap-join}

-- The nodes are those of the tree.

leaf-alike : (s : Shape) (b c : List Lexeme) (w : Lexeme) (r : List Lexeme) → join b ≡ join c → leaf_text_by s b w r ≡ leaf_text_by s c w r
leaf-alike Shape.at_name b c w r e = rw e refl
leaf-alike _ b c w r e = rw e refl

leaf-text : (b c r : List Lexeme) → join b ≡ join c → leaf_text b r ≡ leaf_text c r
leaf-text b c [] e = refl
leaf-text b c (w ∷ r) e = leaf-alike (shape w) b c w r e

block-alike : (s : Shape) (b c : List Lexeme) (w : Lexeme) (r : List Lexeme) (x y : Block) → join b ≡ join c → with_block (block_text_by s b w r x) y ≡ block_text_by s c w r y
block-alike Shape.at_name b c w r x y e = rw e refl
block-alike _ b c w r x y e = rw e refl

block-text : (b c r : List Lexeme) (x y : Block) → join b ≡ join c → with_block (block_text b r x) y ≡ block_text c r y
block-text b c [] x y e = rw e refl
block-text b c (w ∷ r) x y e = block-alike (shape w) b c w r x y e

leaf-numbered : (j : ℕ) (b r : List Lexeme) → numbered_of (leaf_node j (join b) r) ≡ record { parent = j; text = leaf_text b r; span = leaf_span r }
leaf-numbered j b [] = refl
leaf-numbered j b (w ∷ r) = ap (λ z. record { parent = j; text = z; span = leaf_span (w ∷ r) }) (leaf-text (gap_of (join b)) b (w ∷ r) (gap-join (join b)))

comment-text : (b c : List Lexeme) (p : Lexeme) → join b ≡ join c → comment_text b p ≡ comment_text c p
comment-text b c p e = rw e refl

pub count-trees : (f : Nodes) (n : ℕ) → count n f ≡ number_after n (trees f)
unfolding count number_after trees
count-trees none n = refl
count-trees (comment b p f) n = count-trees f (suc n)
count-trees (leaf b r e f) n = count-trees f (suc n)
count-trees (block b r o k a c f) n = ap (λ z. count z f) (count-trees k (suc n)) ∙ count-trees f (number_after (suc n) (trees k))

map-append : (xs ys : List NodeAt) → map numbered_of (xs ++ ys) ≡ map numbered_of xs ++ map numbered_of ys
map-append [] ys = refl
map-append (x ∷ xs) ys = ap (λ z. numbered_of x ∷ z) (map-append xs ys)

flat-numbered : (f : Nodes) (j n : ℕ) → map numbered_of (flat j n f) ≡ numbered_below j n (trees f)
unfolding flat numbered_below trees number_after
flat-numbered none j n = refl
flat-numbered (comment b p f) j n =
    ap (λ z. record { parent = j; text = z; span = comment_span p } ∷ map numbered_of (flat j (suc n) f)) (comment-text (gap_of (join b)) b p (gap-join (join b)))
    ∙ ap (λ z. record { parent = j; text = comment_text b p; span = comment_span p } ∷ z) (flat-numbered f j (suc n))
flat-numbered (leaf b r e f) j n =
    ap (λ z. z ∷ map numbered_of (flat j (suc n) f)) (leaf-numbered j b r) ∙ ap (λ z. record { parent = j; text = leaf_text b r; span = leaf_span r } ∷ z) (flat-numbered f j (suc n))
flat-numbered (block b r o k a c f) j n =
    let t = block_of_nodes k a in
    ap (λ z. record { parent = j; text = z; span = span_of (begins_at r o) (end_of c) } ∷ map numbered_of (flat n (suc n) k ++ flat j (count (suc n) k) f)) (block-text (gap_of (join b)) b r open_end t (gap-join (join b)))
    ∙ ap (λ z. record { parent = j; text = block_text b r t; span = span_of (begins_at r o) (end_of c) } ∷ z)
    (map-append (flat n (suc n) k) (flat j (count (suc n) k) f) ∙ (ap (λ z. z ++ map numbered_of (flat j (count (suc n) k) f)) (flat-numbered k n (suc n))
    ∙ (ap (λ z. numbered_below n (suc n) (trees k) ++ z) (flat-numbered f j (count (suc n) k)) ∙ ap (λ z. numbered_below n (suc n) (trees k) ++ numbered_below j z (trees f)) (count-trees k (suc n)))))

abbrev pub root_of : List ℕ → Nodes → List Lexeme → NodeAt
root_of s f a = seal_root (ends_with_semicolon false f) (join a) (root_node (begins_bom s) (byte_len s))

pub all-numbered : (s : List ℕ) (f : Nodes) (a : List Lexeme) → map numbered_of (root_of s f a ∷ flat 0 1 f) ≡ numbered (tree_of s f a)
unfolding numbered
all-numbered s f a = ap (λ z. numbered_of (root_of s f a) ∷ z) (flat-numbered f 0 1)

-- What the machine comes to over a text.

fault-inj : (f g : Fault) → faulty f ≡ faulty g → f ≡ g
fault-inj f g e = cc

done-inj : (f g : List NodeAt) → done f ≡ done g → f ≡ g
done-inj f g e = cc

whole-read : (s : List ℕ) → whole s ≡ final (start (begins_bom s) (byte_len s)) (read s)
unfolding answer
whole-read s = same (pieces_of s) (lexical_fault s) (start (begins_bom s) (byte_len s)) [] (gap_of []) [] [] [] (gap-join [] ∙ sym join-nil)

-- the nodes of a reading
pub record IsReading (s : List ℕ) (es : List NodeAt) : Type 0 where
  pub nodes : Nodes
  pub behind : List Lexeme
  pub is_read : read s ≡ ok (finish nodes behind)
  pub entries : es ≡ root_of s nodes behind ∷ flat 0 1 nodes

ok_by : (s : List ℕ) (es : List NodeAt) (x : Outcome) → read s ≡ x → Holds [] (pieces_of s) x → final (start (begins_bom s) (byte_len s)) x ≡ done es → IsReading s es
unfolding resume alter
ok_by s es (fails f) r h e = absurd (cc)
ok_by s es (ok (finish f a)) r h e = record { nodes = f; behind = a; is_read = r; entries = sym (done-inj _ _ e) }
ok_by s es (ok (closed f a c x)) r h e = absurd h.0

pub reading_of : (s : List ℕ) (es : List NodeAt) → whole s ≡ done es → IsReading s es
reading_of s es e = ok_by s es (read s) refl (read-holds s) (sym (whole-read s) ∙ e)

err_by : (s : List ℕ) (f : Fault) (x : Outcome) → final (start (begins_bom s) (byte_len s)) x ≡ faulty f → fault_in x ≡ Some f
err_by s f (fails g) e = ap (λ z. Some z) (fault-inj _ _ e)
err_by s f (ok r) e = absurd (cc)

pub fault_of : (s : List ℕ) (f : Fault) → whole s ≡ faulty f → fault s ≡ Some f
fault_of s f e = sym (fault-is s) ∙ err_by s f (read s) (sym (whole-read s) ∙ e)
