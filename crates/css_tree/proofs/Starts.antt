-- Each node of a reading starts in its printing where its span does.
use Rattle.std.proofs.Common.{◌≡◌, ◌⊎◌, inl, inr, ℕ, suc, ◌+◌, ◌==◌, ◌||◌, List, [], ◌∷◌, ◌++◌, Option, Some, None, Bool, true, false, length, refl, ◌∙◌, sym, ap, subst, arith, append_assoc, append-nil, true≢false}
use Rattle.std.proofs.lemmas.List.Sums.{sum_by-append}
use Rattle.std.proofs.lemmas.Bool.{eqb-true}
use Rattle.std.specs.Char.{len_utf8}
use Rattle.css_text.specs.declared.lexer.Span.{Span}
use Rattle.css_text.specs.Ahead.{byte_len, bom_len, begins_bom, without_bom}
use Rattle.css_text.specs.Pieces.{cut}
use Rattle.css_tree.specs.declared.node.Block.{Block}
use Rattle.css_tree.specs.declared.node.NodeText.{NodeText}
use Rattle.css_tree.specs.declared.node.NodeText.TheVariants as N
use Rattle.css_tree.specs.Tree.{Trees}
use Rattle.css_tree.specs.Parts.{before_of}
use Rattle.css_tree.specs.Print.{Container, container_of, before_text, opening, closing, semicolon_after, print_children, starts_children, starts_below, starts}
use Rattle.css_tree.specs.Pieces.{Lexeme, Shape, join, end_of, last_end, pieces_of}
use Rattle.css_tree.specs.Nodes.{Nodes, none, comment, leaf, block, line, AreNodes, has_piece, ends_with_semicolon}
use Rattle.css_tree.specs.Fields.{IsComment, IsAtRule, IsDeclaration, IsLeaf, IsBlock, IsHack, begins_hack, begins_at}
use Rattle.css_tree.specs.Reads.{AreTrees, block_of_nodes}
use Rattle.css_tree.specs.Laws.{span_starts, start_of, StartsAtSpans}
use Rattle.css_tree.proofs.Formed.{AllFormed, formed-front, formed-back, formed-of, StandAt, located-stand}
use Rattle.css_tree.proofs.Printed.{join-append, join-cons, join-nil, join-one, Shows, comment-shows, leaf-shows, block-shows, comment-kind, leaf-kind, block-kind, leaf-end, printed, none-printed}
use Rattle.css_tree.proofs.Reading.{pieces-formed}

pub bytes-append : (xs ys : List ℕ) → byte_len (xs ++ ys) ≡ byte_len xs + byte_len ys
bytes-append xs ys = sum_by-append len_utf8 xs ys

-- where pieces end that stand one behind another
pub ends-at : (at : ℕ) (ps : List Lexeme) → StandAt at ps → last_end at ps ≡ at + byte_len (join ps)
ends-at at [] h = omega (arith, ap byte_len join-nil)
ends-at at (p ∷ ps) h = omega (arith, ends-at (end_of p) ps h.1, h.0, ap byte_len (join-cons p ps), bytes-append p.text (join ps))

-- the pieces behind others stand where those end
pub stand-behind : (at : ℕ) (xs ys : List Lexeme) → StandAt at (xs ++ ys) → StandAt (at + byte_len (join xs)) ys
stand-behind at [] ys h = subst (λ z. StandAt z ys) (let e : at ≡ at + byte_len (join []) = omega (arith, ap byte_len join-nil) in e) h
stand-behind at (p ∷ xs) ys h =
    let e : end_of p + byte_len (join xs) ≡ at + byte_len (join (p ∷ xs)) = omega (arith, h.0, ap byte_len (join-cons p xs), bytes-append p.text (join xs)) in
    subst (λ z. StandAt z ys) e (stand-behind (end_of p) xs ys h.1)

pub stand-front : (at : ℕ) (xs ys : List Lexeme) → StandAt at (xs ++ ys) → StandAt at xs
stand-front at [] ys h = tt
stand-front at (p ∷ xs) ys h = (h.0, stand-front (end_of p) xs ys h.1)

-- What stands before a node.
abbrev pub or_empty : Option (List ℕ) → List ℕ
or_empty (Some b) = b
or_empty None = []

abbrev pub text_before : NodeText → List ℕ
text_before t = or_empty (before_of t)

-- its span starts behind that
abbrev pub SpanStarts : ℕ → NodeText → Option Span → Type 0
SpanStarts at t sp = start_of sp ≡ (at + byte_len (text_before t)) ∷ []

comment-starts : (at : ℕ) (b : List Lexeme) (p : Lexeme) (t : NodeText) (sp : Option Span) → IsComment b p t sp → p.at ≡ at + byte_len (join b) → SpanStarts at t sp
comment-starts at b p t sp h e = rw (h.is_span, h.is_node) (ap (λ z. z ∷ []) e)

first-stands : (at : ℕ) (b run rest : List Lexeme) (w : Lexeme) (r : List Lexeme) → run ≡ w ∷ r → StandAt at (b ++ (run ++ rest)) → w.at ≡ at + byte_len (join b)
first-stands at b run rest w r e h = (subst (λ z. StandAt (at + byte_len (join b)) (z ++ rest)) e (stand-behind at b (run ++ rest) h)).0

at_rule-starts : (at : ℕ) (b run rest : List Lexeme) (blk : Option Block) (end : ℕ) (t : NodeText) (sp : Option Span) → IsAtRule b run blk end t sp → StandAt at (b ++ (run ++ rest)) → SpanStarts at t sp
at_rule-starts at b run rest blk end t sp h s = rw (h.is_span, h.is_node) (ap (λ z. z ∷ []) (first-stands at b run rest h.word _ h.all s))

or-cases : (a b : Bool) → (a || b) ≡ true → (a ≡ true) ⊎ (b ≡ true)
or-cases true b e = inl refl
or-cases false b e = inr e

-- a hack is one byte
hack-byte : (c : ℕ) → (c == 42 || c == 95) ≡ true → byte_len (c ∷ []) ≡ 1
hack-byte c e = elim (or-cases (c == 42) (c == 95) e) [ inl h ↦ rw (eqb-true c 42 h) refl | inr h ↦ rw (eqb-true c 95 h) refl ]

hack-first : (c : ℕ) (prop : List ℕ) → begins_hack (c ∷ prop) ≡ true → byte_len (c ∷ []) ≡ 1
hack-first c [] e = absurd (true≢false (sym e))
hack-first c (d ∷ ds) e = hack-byte c e

pub hack-bytes : (h word prop : List ℕ) → word ≡ h ++ prop → IsHack h word → byte_len h ≡ length h
hack-bytes [] word prop e k = refl
hack-bytes (c ∷ []) word prop e k = hack-first c prop (sym (ap begins_hack e) ∙ k)
hack-bytes (c ∷ d ∷ cs) word prop e k = absurd k

declaration-starts : (at : ℕ) (b run rest : List Lexeme) (t : NodeText) (sp : Option Span) → IsDeclaration b run t sp → StandAt at (b ++ (run ++ rest)) → SpanStarts at t sp
declaration-starts at b run rest t sp h s =
    let w = first-stands at b run rest h.word _ h.all s in
    let k = hack-bytes h.hack h.word.text h.prop h.word_text h.hack_class in
    let e : h.word.at + length h.hack ≡ at + byte_len (join b ++ h.hack) = omega (arith, w, k, bytes-append (join b) h.hack) in
    rw (h.is_span, h.is_node) (ap (λ z. z ∷ []) e)

leaf-starts : (at : ℕ) (b run rest : List Lexeme) (t : NodeText) (sp : Option Span) → IsLeaf b run t sp → StandAt at (b ++ (run ++ rest)) → SpanStarts at t sp
leaf-starts at b run rest t sp (inl h) s = at_rule-starts at b run rest None _ t sp h s
leaf-starts at b run rest t sp (inr h) s = declaration-starts at b run rest t sp h s

opening-stands : (at : ℕ) (b run rest : List Lexeme) (o : Lexeme) → StandAt at (b ++ (run ++ o ∷ rest)) → begins_at run o ≡ at + byte_len (join b)
opening-stands at b [] rest o h = (stand-behind at b (o ∷ rest) h).0
opening-stands at b (q ∷ r) rest o h = (stand-behind at b ((q ∷ r) ++ o ∷ rest) h).0

block-starts : (at : ℕ) (b run rest : List Lexeme) (o : Lexeme) (blk : Block) (end : ℕ) (t : NodeText) (sp : Option Span) → IsBlock b run o blk end t sp
    → StandAt at (b ++ (run ++ o ∷ rest)) → SpanStarts at t sp
block-starts at b run rest o blk end t sp (inl h) s = at_rule-starts at b run (o ∷ rest) (Some blk) end t sp h s
block-starts at b run rest o blk end t sp (inr h) s = rw (h.is_span, h.is_node) (ap (λ z. z ∷ []) (opening-stands at b run rest o s))

-- One node.

starts-node : (at : ℕ) (c : Container) (first : Bool) (t : NodeText) (sp : Option Span) (k r : Trees) (x y z : ℕ) → x ≡ at + byte_len (before_text c first (before_of t))
    → y ≡ at + byte_len (before_text c first (before_of t)) + byte_len (opening t)
    → z ≡ at + byte_len (before_text c first (before_of t)) + byte_len (opening t) + byte_len (print_children (container_of c.depth t k) true k ++ (closing c.depth t k ++ semicolon_after c t r))
    → starts_children at c first (Trees.node t sp k r) ≡ x ∷ (starts_children y (container_of c.depth t k) true k ++ starts_children z c false r)
unfolding starts_children
starts-node at c first t sp k r x y z ex ey ez = rw (ex, ey, ez) refl

span-starts-node : (t : NodeText) (sp : Option Span) (k r : Trees) (x : ℕ) → start_of sp ≡ x ∷ [] → span_starts (Trees.node t sp k r) ≡ x ∷ (span_starts k ++ span_starts r)
unfolding span_starts
span-starts-node t sp k r x e = rw e refl

none-starts : (at : ℕ) (c : Container) (first : Bool) → starts_children at c first Trees.none ≡ span_starts Trees.none
unfolding starts_children span_starts
none-starts at c first = refl

before-is : (c : Container) (first : Bool) (t : NodeText) (b : List ℕ) → before_of t ≡ Some b → (before_text c first (before_of t) ≡ b) × (text_before t ≡ b)
before-is c first t b e = (rw e refl, ap or_empty e)

node-starts : (at : ℕ) (c : Container) (first : Bool) (t : NodeText) (sp : Option Span) (k r : Trees) (b : List Lexeme) (body inside close e : List ℕ) (s : Shows t b body) → SpanStarts at t sp
    → print_children (container_of c.depth t k) true k ≡ inside → closing c.depth t k ≡ close → semicolon_after c t r ≡ e
    → (y z : ℕ) → y ≡ at + byte_len (join b) + byte_len body → z ≡ y + byte_len (inside ++ (close ++ e))
    → starts_children y (container_of c.depth t k) true k ≡ span_starts k → starts_children z c false r ≡ span_starts r
    → starts_children at c first (Trees.node t sp k r) ≡ span_starts (Trees.node t sp k r)
node-starts at c first t sp k r b body inside close e s hs hi hc he y z ey ez hk hr =
    let w = before-is c first t s.before s.is_before in
    let x = at + byte_len s.before in
    let l : byte_len s.before + byte_len (opening t) ≡ byte_len (join b) + byte_len body = sym (bytes-append s.before (opening t)) ∙ (ap byte_len s.shows ∙ bytes-append (join b) body) in
    let wb : byte_len (before_text c first (before_of t)) ≡ byte_len s.before = ap byte_len w.0 in
    let ex : x ≡ at + byte_len (before_text c first (before_of t)) = omega (arith, wb) in
    let ey' : y ≡ at + byte_len (before_text c first (before_of t)) + byte_len (opening t) = omega (arith, wb, l, ey) in
    let li : byte_len (print_children (container_of c.depth t k) true k ++ (closing c.depth t k ++ semicolon_after c t r)) ≡ byte_len (inside ++ (close ++ e)) = rw (hi, hc, he) refl in
    let ez' : z ≡ at + byte_len (before_text c first (before_of t)) + byte_len (opening t) + byte_len (print_children (container_of c.depth t k) true k ++ (closing c.depth t k ++ semicolon_after c t r))
    = omega (arith, ey', ez, li) in
    starts-node at c first t sp k r x y z ex ey' ez'
    ∙ (ap (λ u. x ∷ (u ++ starts_children z c false r)) hk ∙ (ap (λ u. x ∷ (span_starts k ++ u)) hr
    ∙ sym (span-starts-node t sp k r x (hs ∙ ap (λ u. (at + byte_len u) ∷ []) w.1))))

comment-end : (at : ℕ) (b : List Lexeme) (p : Lexeme) → at + byte_len (join (b ++ p ∷ [])) ≡ at + byte_len (join b) + byte_len p.text
comment-end at b p = omega (arith, ap byte_len (join-append b (p ∷ [])), bytes-append (join b) (join (p ∷ [])), ap byte_len (join-one p))

leaf-stands : (at : ℕ) (b r e : List Lexeme) → at + byte_len (join (b ++ (r ++ e))) ≡ at + byte_len (join b) + byte_len (join r) + byte_len (join e)
leaf-stands at b r e =
    omega (arith, ap byte_len (join-append b (r ++ e)), bytes-append (join b) (join (r ++ e)), ap byte_len (join-append r e), bytes-append (join r) (join e))

inside-stands : (at : ℕ) (b r : List Lexeme) (o : Lexeme) → o.text ≡ 123 ∷ [] → at + byte_len (join (b ++ (r ++ o ∷ []))) ≡ at + byte_len (join b) + byte_len (join r ++ 123 ∷ [])
inside-stands at b r o e =
    omega (arith, leaf-stands at b r (o ∷ []), ap byte_len (join-one o ∙ e), bytes-append (join r) (123 ∷ []))

block-stands : (at : ℕ) (k a : List Lexeme) (d : Lexeme) → d.text ≡ 125 ∷ [] → at + byte_len (join (k ++ (a ++ d ∷ []))) ≡ at + byte_len (join k ++ ((join a ++ 125 ∷ []) ++ []))
block-stands at k a d e =
    omega (arith, leaf-stands at k a (d ∷ []), ap byte_len (join-one d ∙ e), bytes-append (join k) ((join a ++ 125 ∷ []) ++ []), ap byte_len (append-nil (join a ++ 125 ∷ [])), bytes-append (join a) (125 ∷ []))

plus-nil : (y : ℕ) → y ≡ y + byte_len ([] ++ ([] ++ []))
plus-nil y = omega arith

pub started : (f : Nodes) (ts : Trees) (a : List Lexeme) (n : ℕ) (c : Container) (first s : Bool) (at : ℕ)
    → AreNodes n f a → AllFormed (line f) → AreTrees f ts → c.semicolon ≡ ends_with_semicolon s f → StandAt at (line f) → starts_children at c first ts ≡ span_starts ts
unfolding line ends_with_semicolon
started none Trees.none a n c first s at h m t g st = none-starts at c first
started none (Trees.node x sp k r) a n c first s at h m t g st = absurd t
started (comment b p f) Trees.none a n c first s at h m t g st = absurd t
started (comment b p f) (Trees.node x sp Trees.none r) a n c first s at h m t g st =
    let mp = formed-back b (p ∷ line f) m in
    let k = comment-kind b p x sp t.0 in
    let z = at + byte_len (join (b ++ p ∷ [])) in
    let sz : StandAt z (line f) = stand-behind at (b ++ p ∷ []) (line f) (subst (λ u. StandAt at u) (sym (append_assoc b (p ∷ []) (line f))) st) in
    node-starts at c first x sp Trees.none r b p.text [] [] [] (comment-shows b p x sp t.0) (comment-starts at b p x sp t.0 (stand-behind at b (p ∷ line f) st).0)
    (none-printed _ true) (k.closes c.depth Trees.none) (rw k.takes refl) z z (comment-end at b p) (plus-nil z) (none-starts z _ true)
    (started f r a n c false s z h.2 mp.2 t.1 g sz)
started (comment b p f) (Trees.node x sp (Trees.node x' sp' k' r') r) a n c first s at h m t g st = absurd t
started (leaf b q e f) Trees.none a n c first s at h m t g st = absurd t
started (leaf b q e f) (Trees.node x sp Trees.none r) a n c first s at h m t g st =
    let mr = formed-back b (q ++ (e ++ line f)) m in
    let me = formed-back q (e ++ line f) mr in
    let k = leaf-kind b q x sp t.0 in
    let y = at + byte_len (join b) + byte_len (join q) in
    let z = at + byte_len (join (b ++ (q ++ e))) in
    let ez : z ≡ y + byte_len ([] ++ ([] ++ join e)) = leaf-stands at b q e in
    let sz : StandAt z (line f) = stand-behind at (b ++ (q ++ e)) (line f) (subst (λ u. StandAt at u) (sym (append_assoc b (q ++ e) (line f) ∙ ap (λ u. b ++ u) (append_assoc q e (line f)))) st) in
    node-starts at c first x sp Trees.none r b (join q) [] [] (join e) (leaf-shows b q x sp t.0) (leaf-starts at b q (e ++ line f) x sp t.0 st)
    (none-printed _ true) (k.closes c.depth Trees.none) (leaf-end c x q e f r a k h.3 t.1 (formed-front e (line f) me) g) y z refl ez (none-starts y _ true)
    (started f r a n c false (has_piece e) z h.4 (formed-back e (line f) me) t.1 g sz)
started (leaf b q e f) (Trees.node x sp (Trees.node x' sp' k' r') r) a n c first s at h m t g st = absurd t
started (block b q o v a' d f) Trees.none a n c first s at h m t g st = absurd t
started (block b q o v a' d f) (Trees.node x sp k r) a n c first s at h m t g st =
    let mr = formed-back b (q ++ o ∷ (line v ++ (a' ++ d ∷ line f))) m in
    let mo = formed-back q (o ∷ (line v ++ (a' ++ d ∷ line f))) mr in
    let mk = formed-front (line v) (a' ++ d ∷ line f) mo.2 in
    let mc = formed-back a' (d ∷ line f) (formed-back (line v) (a' ++ d ∷ line f) mo.2) in
    let w = block-kind b q o v a' (end_of d) x sp t.0 in
    let y = at + byte_len (join (b ++ (q ++ o ∷ []))) in
    let z = y + byte_len (join (line v ++ (a' ++ d ∷ []))) in
    let sy : StandAt y (line v ++ (a' ++ d ∷ line f)) =
    stand-behind at (b ++ (q ++ o ∷ [])) (line v ++ (a' ++ d ∷ line f))
    (subst (λ u. StandAt at u) (sym (append_assoc b (q ++ o ∷ []) (line v ++ (a' ++ d ∷ line f)) ∙ ap (λ u. b ++ u) (append_assoc q (o ∷ []) (line v ++ (a' ++ d ∷ line f))))) st) in
    let sz : StandAt z (line f) =
    stand-behind y (line v ++ (a' ++ d ∷ [])) (line f)
    (subst (λ u. StandAt y u) (sym (append_assoc (line v) (a' ++ d ∷ []) (line f) ∙ ap (λ u. line v ++ u) (append_assoc a' (d ∷ []) (line f)))) sy) in
    node-starts at c first x sp k r b (join q ++ 123 ∷ []) (join (line v)) (join a' ++ 125 ∷ []) [] (block-shows b q o _ _ x sp t.0)
    (block-starts at b q (line v ++ (a' ++ d ∷ line f)) o _ _ x sp t.0 st)
    (printed v k a' (suc n) (container_of c.depth x k) true false h.4 mk t.1 (w.flag c.depth k)) (w.closes c.depth k) (rw w.takes refl)
    y z (inside-stands at b q o (formed-of o Shape.brace_open h.2 mo.0)) (block-stands y (line v) a' d (formed-of d Shape.brace_close h.5 mc.0))
    (started v k a' (suc n) (container_of c.depth x k) true false y h.4 mk t.1 (w.flag c.depth k) (stand-front y (line v) (a' ++ d ∷ line f) sy))
    (started f r a n c false false z h.6 mc.2 t.2 g sz)

pub pieces-stand : (s : List ℕ) → StandAt (bom_len s) (pieces_of s)
unfolding pieces_of
pieces-stand s = located-stand (cut (without_bom s)).tokens (bom_len s)

root-opening : (s : List ℕ) (b : Bool) (blk : Block) → begins_bom s ≡ b → byte_len (opening (N.Root b blk)) ≡ bom_len s
root-opening s true blk e = rw e refl
root-opening s false blk e = rw e refl

-- the law
pub starts_at_spans : StartsAtSpans
unfolding starts starts_below
starts_at_spans s t h =
    let m : AllFormed (line h.nodes ++ h.behind) = subst (λ z. AllFormed z) (sym h.are_all) (pieces-formed s) in
    let st : StandAt (bom_len s) (line h.nodes ++ h.behind) = subst (λ z. StandAt (bom_len s) z) (sym h.are_all) (pieces-stand s) in
    let e : byte_len (opening t.text) ≡ bom_len s = ap (λ z. byte_len (opening z)) h.is_root ∙ root-opening s (begins_bom s) (block_of_nodes h.nodes h.behind) refl in
    let g : (container_of 0 t.text t.children).semicolon ≡ ends_with_semicolon false h.nodes = ap (λ z. (container_of 0 z t.children).semicolon) h.is_root in
    started h.nodes t.children h.behind 0 (container_of 0 t.text t.children) true false (byte_len (opening t.text)) h.are_nodes (formed-front (line h.nodes) h.behind m) h.are_trees g
    (subst (λ z. StandAt z (line h.nodes)) (sym e) (stand-front (bom_len s) (line h.nodes) h.behind st))
