-- In the text of a reading each node's body stands at its span.
use Rattle.std.proofs.Common.{◌≡◌, inl, inr, ℕ, suc, ◌+◌, List, [], ◌∷◌, ◌++◌, Option, Some, Bool, true, false, length, refl, ◌∙◌, sym, ap, subst, arith, append_assoc, append-nil}
use Rattle.std.specs.Prelude.{if◌then◌else◌}
use Rattle.css_text.specs.declared.lexer.Span.{Span}
use Rattle.css_text.specs.Ahead.{byte_len, bom_len, begins_bom}
use Rattle.css_tree.specs.declared.node.Block.{Block}
use Rattle.css_tree.specs.declared.node.NodeText.{NodeText}
use Rattle.css_tree.specs.declared.node.NodeText.TheVariants as N
use Rattle.css_tree.specs.Tree.{Trees, Tree}
use Rattle.css_tree.specs.Print.{container_of, opening, closing, print_children, print, body}
use Rattle.css_tree.specs.Pieces.{Lexeme, Shape, join, end_of, last_end}
use Rattle.css_tree.specs.Nodes.{Nodes, none, comment, leaf, block, line, AreNodes}
use Rattle.css_tree.specs.Fields.{IsLeaf, IsBlock, begins_at, span_of}
use Rattle.css_tree.specs.Reads.{Reads, AreTrees, block_of_nodes}
use Rattle.css_tree.proofs.Formed.{AllFormed, formed-front, formed-back, formed-of, StandAt}
use Rattle.css_tree.proofs.Printed.{join-append, join-cons, Shows, comment-shows, leaf-shows, block-shows, comment-kind, leaf-kind, block-kind, printed, none-printed, comment-line, leaf-line, block-line}
use Rattle.css_tree.proofs.Reading.{pieces-formed, pieces-join}
use Rattle.css_tree.proofs.Starts.{bytes-append, ends-at, stand-behind, stand-front, text_before, or_empty, hack-bytes, pieces-stand}
use Rattle.visitor_machine.specs.Altered.{StandsIn}

-- each of the trees stands in the text
abbrev pub AllStand : List ℕ → Trees → Type 0
AllStand s Trees.none = Unit {0}
AllStand s (Trees.node text span children rest) = StandsIn s (record { text = text; span = span; children = children }) × AllStand s children × AllStand s rest

span-same : (a b c d : ℕ) → a ≡ c → b ≡ d → span_of a b ≡ span_of c d
span-same a b c d e f = ap (λ x. span_of x b) e ∙ ap (λ y. span_of c y) f

-- The spans of the kinds of nodes: from behind `before`, for the bytes of their pieces.

first-stands : (at : ℕ) (b run rest : List Lexeme) (w : Lexeme) (r : List Lexeme) → run ≡ w ∷ r → StandAt at (b ++ (run ++ rest)) → w.at ≡ at + byte_len (join b)
first-stands at b run rest w r e h = (subst (λ z. StandAt (at + byte_len (join b)) (z ++ rest)) e (stand-behind at b (run ++ rest) h)).0

run-ends : (at : ℕ) (b run rest : List Lexeme) (w : Lexeme) (r : List Lexeme) → run ≡ w ∷ r → StandAt at (b ++ (run ++ rest)) → last_end (end_of w) r ≡ at + byte_len (join b) + byte_len (join run)
run-ends at b run rest w r e h =
    let y = at + byte_len (join b) in
    let s : StandAt y (w ∷ r) = subst (λ z. StandAt y z) e (stand-front y run rest (stand-behind at b (run ++ rest) h)) in
    omega (arith, ends-at (end_of w) r s.1, s.0, ap (λ z. byte_len (join z)) e, ap byte_len (join-cons w r), bytes-append w.text (join r))

leaf-span : (at : ℕ) (b run rest : List Lexeme) (t : NodeText) (sp : Option Span) → IsLeaf b run t sp → StandAt at (b ++ (run ++ rest)) → sp ≡ span_of (at + byte_len (text_before t)) (at + byte_len (join b) + byte_len (join run))
leaf-span at b run rest t sp (inl h) s =
    let r = h.after_name ++ (h.params ++ h.between) in
    let f : text_before t ≡ join b = rw h.is_node refl in
    h.is_span ∙ span-same h.word.at (last_end 0 run) _ _ (first-stands at b run rest h.word r h.all s ∙ ap (λ z. at + byte_len z) (sym f)) (ap (λ z. last_end 0 z) h.all ∙ run-ends at b run rest h.word r h.all s)
leaf-span at b run rest t sp (inr h) s =
    let r = h.front ++ h.colon ∷ (h.back ++ (h.body ++ h.tail)) in
    let f : text_before t ≡ join b ++ h.hack = rw h.is_node refl in
    let w = first-stands at b run rest h.word r h.all s in
    let k = hack-bytes h.hack h.word.text h.prop h.word_text h.hack_class in
    h.is_span ∙ span-same (h.word.at + length h.hack) (last_end (end_of h.word) r) _ _ (omega (arith, w, k, ap byte_len f, bytes-append (join b) h.hack)) (run-ends at b run rest h.word r h.all s)

block-before : (b run : List Lexeme) (o : Lexeme) (blk : Block) (end : ℕ) (t : NodeText) (sp : Option Span) → IsBlock b run o blk end t sp → (text_before t ≡ join b) × (sp ≡ span_of (begins_at run o) end)
block-before b run o blk end t sp (inl h) = (rw h.is_node refl, h.is_span ∙ ap (λ z. span_of (begins_at z o) end) (sym h.all))
block-before b run o blk end t sp (inr h) = (rw h.is_node refl, h.is_span)

opening-stands : (at : ℕ) (run rest : List Lexeme) (o : Lexeme) → StandAt at (run ++ o ∷ rest) → begins_at run o ≡ at
opening-stands at [] rest o h = h.0
opening-stands at (q ∷ r) rest o h = h.0

-- A node whose body up to its children is shown, and what is printed behind that, at every depth.
stands-by : (s front behind : List ℕ) (t : NodeText) (sp : Option Span) (k : Trees) (b : List Lexeme) (head inner : List ℕ) (h : Shows t b head) (end : ℕ)
    → s ≡ front ++ (join b ++ (head ++ (inner ++ behind)))
    → ((depth : ℕ) → print_children (container_of depth t k) true k ++ closing depth t k ≡ inner)
    → sp ≡ span_of (byte_len front + byte_len (text_before t)) end → end ≡ byte_len front + byte_len (join b) + byte_len head + byte_len inner
    → StandsIn s (record { text = t; span = sp; children = k })
unfolding body
stands-by s front behind t sp k b head inner h end e f g l =
    let first = front ++ h.before in
    let text = opening t ++ inner in
    let w : text_before t ≡ h.before = ap or_empty h.is_before in
    let shown : byte_len h.before + byte_len (opening t) ≡ byte_len (join b) + byte_len head = sym (bytes-append h.before (opening t)) ∙ (ap byte_len h.shows ∙ bytes-append (join b) head) in
    let start : byte_len front + byte_len (text_before t) ≡ byte_len first = ap (λ z. byte_len front + byte_len z) w ∙ sym (bytes-append front h.before) in
    let ends : end ≡ byte_len (first ++ text) = omega (arith, l, shown, bytes-append first text, bytes-append front h.before, bytes-append (opening t) inner) in
    let split : join b ++ (head ++ (inner ++ behind)) ≡ (h.before ++ opening t) ++ (inner ++ behind) = sym (append_assoc (join b) head (inner ++ behind)) ∙ ap (λ z. z ++ (inner ++ behind)) (sym h.shows) in
    record {
      front = first;
      text = text;
      behind = behind;
      all = e ∙ (ap (λ z. front ++ z) split ∙ simp append_assoc);
      span = g ∙ span-same _ end _ _ start ends;
      prints = λ depth. ap (λ z. opening t ++ z) (f depth);
    }

none-inside : (t : NodeText) → ((d : ℕ) (k : Trees) → closing d t k ≡ []) → (depth : ℕ) → print_children (container_of depth t Trees.none) true Trees.none ++ closing depth t Trees.none ≡ []
none-inside t h depth = ap (λ z. z ++ closing depth t Trees.none) (none-printed (container_of depth t Trees.none) true) ∙ h depth Trees.none

one-bytes : (p : Lexeme) (ps : List Lexeme) → byte_len (join (p ∷ ps)) ≡ byte_len p.text + byte_len (join ps)
one-bytes p ps = ap byte_len (join-cons p ps) ∙ bytes-append p.text (join ps)

two-bytes : (xs ys : List Lexeme) → byte_len (join (xs ++ ys)) ≡ byte_len (join xs) + byte_len (join ys)
two-bytes xs ys = ap byte_len (join-append xs ys) ∙ bytes-append (join xs) (join ys)

pub stood : (f : Nodes) (ts : Trees) (a : List Lexeme) (n at : ℕ) (s front behind : List ℕ)
    → AreNodes n f a → AllFormed (line f) → AreTrees f ts → at ≡ byte_len front → StandAt at (line f) → s ≡ front ++ (join (line f) ++ behind) → AllStand s ts
unfolding line
stood none Trees.none a n at s front behind h m t i st e = tt
stood none (Trees.node x sp k r) a n at s front behind h m t i st e = absurd t
stood (comment b p f) Trees.none a n at s front behind h m t i st e = absurd t
stood (comment b p f) (Trees.node x sp Trees.none r) a n at s front behind h m t i st e =
    let mp = formed-back b (p ∷ line f) m in
    let sb = stand-behind at b (p ∷ line f) st in
    let w : text_before x ≡ join b = rw t.0.is_node refl in
    let all : s ≡ front ++ (join b ++ (p.text ++ ([] ++ (join (line f) ++ behind)))) = e ∙ (ap (λ z. front ++ (z ++ behind)) (sym (comment-line b p (line f))) ∙ simp append_assoc) in (
      stands-by s front (join (line f) ++ behind) x sp Trees.none b p.text [] (comment-shows b p x sp t.0) (end_of p) all
          (none-inside x (comment-kind b p x sp t.0).closes)
          (t.0.is_span ∙ span-same p.at (end_of p) _ _ (omega (arith, sb.0, i, ap byte_len w)) refl) (omega (arith, sb.0, i)),
      tt,
      stood f r a n (end_of p) s (front ++ (join b ++ p.text)) behind h.2 mp.2 t.1
          (omega (arith, sb.0, i, bytes-append front (join b ++ p.text), bytes-append (join b) p.text)) sb.1 (all ∙ simp append_assoc),
    )
stood (comment b p f) (Trees.node x sp (Trees.node x' sp' k' r') r) a n at s front behind h m t i st e = absurd t
stood (leaf b q z f) Trees.none a n at s front behind h m t i st e = absurd t
stood (leaf b q z f) (Trees.node x sp Trees.none r) a n at s front behind h m t i st e =
    let mr = formed-back b (q ++ (z ++ line f)) m in
    let me = formed-back q (z ++ line f) mr in
    let y = at + byte_len (join b) in
    let sb : StandAt y (q ++ (z ++ line f)) = stand-behind at b (q ++ (z ++ line f)) st in
    let sz : StandAt (y + byte_len (join q)) (z ++ line f) = stand-behind y q (z ++ line f) sb in
    let w = leaf-span at b q (z ++ line f) x sp t.0 st in
    let all : s ≡ front ++ (join b ++ (join q ++ ([] ++ (join z ++ (join (line f) ++ behind))))) = e ∙ (ap (λ z. front ++ (z ++ behind)) (sym (leaf-line b q z (line f))) ∙ simp append_assoc) in (
      stands-by s front (join z ++ (join (line f) ++ behind)) x sp Trees.none b (join q) [] (leaf-shows b q x sp t.0) (y + byte_len (join q)) all
          (none-inside x (leaf-kind b q x sp t.0).closes)
          (w ∙ ap (λ j. span_of (j + byte_len (text_before x)) (y + byte_len (join q))) i) (omega (arith, i)),
      tt,
      stood f r a n (y + byte_len (join q) + byte_len (join z)) s (front ++ (join b ++ (join q ++ join z))) behind h.4 (formed-back z (line f) me) t.1
          (omega (arith, i, bytes-append front (join b ++ (join q ++ join z)), bytes-append (join b) (join q ++ join z), bytes-append (join q) (join z)))
          (stand-behind (y + byte_len (join q)) z (line f) sz) (all ∙ simp append_assoc),
    )
stood (leaf b q z f) (Trees.node x sp (Trees.node x' sp' k' r') r) a n at s front behind h m t i st e = absurd t
stood (block b q o v a' d f) Trees.none a n at s front behind h m t i st e = absurd t
stood (block b q o v a' d f) (Trees.node x sp k r) a n at s front behind h m t i st e =
    let mr = formed-back b (q ++ o ∷ (line v ++ (a' ++ d ∷ line f))) m in
    let mo = formed-back q (o ∷ (line v ++ (a' ++ d ∷ line f))) mr in
    let mk = formed-front (line v) (a' ++ d ∷ line f) mo.2 in
    let mc = formed-back a' (d ∷ line f) (formed-back (line v) (a' ++ d ∷ line f) mo.2) in
    let to = formed-of o Shape.brace_open h.2 mo.0 in
    let td = formed-of d Shape.brace_close h.5 mc.0 in
    let kind = block-kind b q o v a' (end_of d) x sp t.0 in
    let w = block-before b q o _ _ x sp t.0 in
    let y = at + byte_len (join b) in
    let sb : StandAt y (q ++ o ∷ (line v ++ (a' ++ d ∷ line f))) = stand-behind at b (q ++ o ∷ (line v ++ (a' ++ d ∷ line f))) st in
    let so : StandAt (y + byte_len (join q)) (o ∷ (line v ++ (a' ++ d ∷ line f))) = stand-behind y q (o ∷ (line v ++ (a' ++ d ∷ line f))) sb in
    let sa : StandAt (end_of o + byte_len (join (line v))) (a' ++ d ∷ line f) = stand-behind (end_of o) (line v) (a' ++ d ∷ line f) so.1 in
    let sd : StandAt (end_of o + byte_len (join (line v)) + byte_len (join a')) (d ∷ line f) = stand-behind (end_of o + byte_len (join (line v))) a' (d ∷ line f) sa in
    let begins = opening-stands y q (line v ++ (a' ++ d ∷ line f)) o sb in
    let head = join q ++ 123 ∷ [] in
    let end = join a' ++ 125 ∷ [] in
    let bo : byte_len o.text ≡ byte_len (123 ∷ []) = ap byte_len to in
    let bd : byte_len d.text ≡ byte_len (125 ∷ []) = ap byte_len td in
    let bh = bytes-append (join q) (123 ∷ []) in
    let be = bytes-append (join a') (125 ∷ []) in
    let bi = bytes-append (join (line v)) end in
    let all : s ≡ front ++ (join b ++ (head ++ ((join (line v) ++ end) ++ (join (line f) ++ behind)))) = e ∙ (ap (λ z. front ++ (z ++ behind)) (sym (block-line b q o (line v) a' d (line f) to td)) ∙ simp append_assoc) in (
      stands-by s front (join (line f) ++ behind) x sp k b head (join (line v) ++ end) (block-shows b q o _ _ x sp t.0) (end_of d) all
          (λ depth. ap (λ z. z ++ closing depth x k) (printed v k a' (suc n) (container_of depth x k) true false h.4 mk t.1 (kind.flag depth k)) ∙ ap (λ z. join (line v) ++ z) (kind.closes depth k))
          (w.1 ∙ span-same (begins_at q o) (end_of d) _ _ (omega (arith, begins, i, ap byte_len w.0)) refl)
          (omega (arith, i, so.0, sd.0, bo, bd, bh, be, bi)),
      stood v k a' (suc n) (end_of o) s (front ++ (join b ++ head)) (end ++ (join (line f) ++ behind)) h.4 mk t.1
          (omega (arith, i, so.0, bo, bh, bytes-append front (join b ++ head), bytes-append (join b) head))
          (stand-front (end_of o) (line v) (a' ++ d ∷ line f) so.1) (all ∙ simp append_assoc),
      stood f r a n (end_of d) s (front ++ (join b ++ (head ++ (join (line v) ++ end)))) behind h.6 mc.2 t.2
          (omega (arith, i, so.0, sd.0, bo, bd, bh, be, bi, bytes-append front (join b ++ (head ++ (join (line v) ++ end))), bytes-append (join b) (head ++ (join (line v) ++ end)), bytes-append head (join (line v) ++ end)))
          sd.1 (all ∙ simp append_assoc),
    )

mark-bytes : (b : Bool) (s : List ℕ) → begins_bom s ≡ b → bom_len s ≡ byte_len (if begins_bom s then 0xfeff ∷ [] else [])
mark-bytes true s e = rw e refl
mark-bytes false s e = rw e refl

root-body : (depth : ℕ) (bom : Bool) (blk : Block) (after : List ℕ) (t : Tree) → t.text ≡ N.Root bom blk → blk.after ≡ Some after → body depth t ≡ body 0 t
unfolding body
root-body depth bom blk after t e f = rw (e, f) refl

-- the root and all nodes below it stand in the text
pub reading-stands : (s : List ℕ) (t : Tree) → Reads s t → StandsIn s t × AllStand s t.children
unfolding print
reading-stands s t h =
    let m : AllFormed (line h.nodes ++ h.behind) = subst (λ z. AllFormed z) (sym h.are_all) (pieces-formed s) in
    let st : StandAt (bom_len s) (line h.nodes ++ h.behind) = subst (λ z. StandAt (bom_len s) z) (sym h.are_all) (pieces-stand s) in
    let mark : List ℕ = if begins_bom s then 0xfeff ∷ [] else [] in
    let all : s ≡ mark ++ (join (line h.nodes) ++ join h.behind) = sym (pieces-join s h.no_fault) ∙ ap (λ z. mark ++ z) (ap join (sym h.are_all) ∙ join-append (line h.nodes) h.behind) in (
      record {
        front = [];
        text = s;
        behind = [];
        all = sym (append-nil s);
        span = h.is_span;
        prints = λ depth. root-body depth (begins_bom s) (block_of_nodes h.nodes h.behind) (join h.behind) t h.is_root refl ∙ h.prints;
      },
      stood h.nodes t.children h.behind 0 (bom_len s) s mark (join h.behind) h.are_nodes (formed-front (line h.nodes) h.behind m) h.are_trees (mark-bytes (begins_bom s) s refl) (stand-front (bom_len s) (line h.nodes) h.behind st) all,
    )
