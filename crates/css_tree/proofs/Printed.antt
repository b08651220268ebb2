-- Trees of nodes that are given by their pieces print these pieces.
use Rattle.std.proofs.Common.{◌≡◌, inl, inr, ℕ, suc, List, [], ◌∷◌, ◌++◌, Option, Some, None, Bool, true, false, if◌then◌else◌, take, drop, refl, ◌∙◌, sym, ap, append_assoc, append-nil, take-append-drop, true≢false}
use Rattle.css_text.specs.declared.lexer.Span.{Span}
use Rattle.css_tree.specs.declared.node.Block.{Block}
use Rattle.css_tree.specs.declared.node.NodeText.{NodeText}
use Rattle.css_tree.specs.Tree.{Trees}
use Rattle.css_tree.specs.Parts.{before_of, semicolon_text}
use Rattle.css_tree.specs.Print.{Container, container_of, opening, closing, takes_semicolon, is_comment, are_comments, semicolon_after, print_children}
use Rattle.css_tree.specs.Pieces.{Lexeme, Shape, join, end_of}
use Rattle.css_tree.specs.Nodes.{Nodes, none, comment, leaf, block, line, AreNodes, Ends, OnlyBlanks, has_piece, ends_with_semicolon}
use Rattle.css_tree.specs.Mark.{part, part_by, EndsInOne, EndsInTwo, EndsInMark}
use Rattle.css_tree.specs.Fields.{IsComment, IsAtRule, IsRule, IsDeclaration, IsLeaf, IsBlock, AreValueAndMark}
use Rattle.css_tree.specs.Reads.{AreTrees, block_of_nodes}
use Rattle.css_tree.proofs.Formed.{AllFormed, formed-front, formed-back, formed-of}

pub join-append : (xs ys : List Lexeme) → join (xs ++ ys) ≡ join xs ++ join ys
unfolding join
join-append [] ys = refl
join-append (p ∷ xs) ys = ap (λ z. p.text ++ z) (join-append xs ys) ∙ sym (append_assoc p.text (join xs) (join ys))

pub join-cons : (p : Lexeme) (ps : List Lexeme) → join (p ∷ ps) ≡ p.text ++ join ps
unfolding join
join-cons p ps = refl

pub join-nil : join [] ≡ []
unfolding join
join-nil = refl

pub join-one : (p : Lexeme) → join (p ∷ []) ≡ p.text
join-one p = join-cons p [] ∙ (ap (λ z. p.text ++ z) join-nil ∙ append-nil p.text)

-- The value and the mark.

join-part : (p : Lexeme) (t : List ℕ) → join (part_by p t) ≡ t
join-part p [] = join-nil
join-part p (c ∷ cs) = join-one _

-- a word that is cut within, between other pieces
cut-joins : (ps : List Lexeme) (w : Lexeme) (n : ℕ) (rest : List ℕ) → join (ps ++ part w n) ++ (drop n w.text ++ rest) ≡ join ps ++ (w.text ++ rest)
cut-joins ps w n rest =
    ap (λ z. z ++ (drop n w.text ++ rest)) (join-append ps (part w n) ∙ ap (λ z. join ps ++ z) (join-part w (take n w.text)))
    ∙ (append_assoc (join ps) (take n w.text) (drop n w.text ++ rest)
    ∙ ap (λ z. join ps ++ z) (sym (append_assoc (take n w.text) (drop n w.text) rest) ∙ ap (λ z. z ++ rest) (take-append-drop n w.text)))

one-joins : (body front : List Lexeme) (mark : List ℕ) (h : EndsInOne body front mark) → join front ++ mark ≡ join body
one-joins body front mark h =
    ap (λ z. join z ++ mark) h.is_front ∙ (ap (λ z. join (h.pieces ++ part h.word h.place) ++ z) (h.is_mark ∙ sym (append-nil (drop h.place h.word.text)))
    ∙ (cut-joins h.pieces h.word h.place [] ∙ (ap (λ z. join h.pieces ++ z) (append-nil h.word.text ∙ sym (join-one h.word))
    ∙ (sym (join-append h.pieces (h.word ∷ [])) ∙ ap join h.all))))

two-joins : (body front : List Lexeme) (mark : List ℕ) (h : EndsInTwo body front mark) → join front ++ mark ≡ join body
two-joins body front mark h =
    ap (λ z. join z ++ mark) h.is_front ∙ (ap (λ z. join (h.pieces ++ part h.word h.place) ++ z) h.is_mark
    ∙ (cut-joins h.pieces h.word h.place (join h.blanks ++ h.last.text)
    ∙ (ap (λ z. join h.pieces ++ (h.word.text ++ z)) (ap (λ z. join h.blanks ++ z) (sym (join-one h.last)) ∙ sym (join-append h.blanks (h.last ∷ [])))
    ∙ (ap (λ z. join h.pieces ++ z) (sym (join-cons h.word (h.blanks ++ h.last ∷ [])))
    ∙ (sym (join-append h.pieces (h.word ∷ (h.blanks ++ h.last ∷ []))) ∙ ap join h.all)))))

mark-joins : (body front : List Lexeme) (mark : List ℕ) → EndsInMark body front mark → join front ++ mark ≡ join body
mark-joins body front mark (inl h) = one-joins body front mark h
mark-joins body front mark (inr h) = two-joins body front mark h

value-joins : (body value : List Lexeme) (marked : Bool) (important : List ℕ) → AreValueAndMark body value marked important
    → join value ++ (if marked then important else []) ≡ join body
value-joins body value true important h =
    ap (λ z. join value ++ z) h.is_important ∙ (sym (append_assoc (join value) (join h.blanks) h.mark)
    ∙ (ap (λ z. z ++ h.mark) (sym (join-append value h.blanks)) ∙ mark-joins body (value ++ h.blanks) h.mark h.found))
value-joins body value false important h = append-nil (join value) ∙ ap join h.is_value

-- `before` and the body up to its children show these pieces, which stand before the node, and that text
pub record Shows (t : NodeText) (b : List Lexeme) (body : List ℕ) : Type 0 where
  pub before : List ℕ
  pub is_before : before_of t ≡ Some before
  pub shows : before ++ opening t ≡ join b ++ body

pub comment-shows : (b : List Lexeme) (p : Lexeme) (t : NodeText) (sp : Option Span) → IsComment b p t sp → Shows t b p.text
comment-shows b p t sp h = record { before = join b; is_before = rw h.is_node refl; shows = rw h.is_node (ap (λ z. join b ++ z) (sym h.all)) }

at_rule-joins : (w : Lexeme) (name : List ℕ) (a p c : List Lexeme) (e : List ℕ) → w.text ≡ 64 ∷ name → 64 ∷ (name ++ (join a ++ (join p ++ (join c ++ e)))) ≡ join (w ∷ (a ++ (p ++ c))) ++ e
at_rule-joins w name a p c e h =
    ap (λ z. z ++ (join a ++ (join p ++ (join c ++ e)))) (sym h)
    ∙ sym (ap (λ z. z ++ e) (join-cons w (a ++ (p ++ c)) ∙ ap (λ z. w.text ++ z) (join-append a (p ++ c) ∙ ap (λ z. join a ++ z) (join-append p c))) ∙ simp append_assoc)

at_rule-shows : (b run : List Lexeme) (end : ℕ) (t : NodeText) (sp : Option Span) → IsAtRule b run None end t sp → Shows t b (join run)
at_rule-shows b run end t sp h = record {
  before = join b;
  is_before = rw h.is_node refl;
  shows = rw h.is_node (ap (λ z. join b ++ z) (at_rule-joins h.word h.name h.after_name h.params h.between [] h.word_text ∙ (append-nil _ ∙ ap join (sym h.all))));
}

at_block-shows : (b run : List Lexeme) (blk : Block) (end : ℕ) (t : NodeText) (sp : Option Span) → IsAtRule b run (Some blk) end t sp → Shows t b (join run ++ 123 ∷ [])
at_block-shows b run blk end t sp h = record {
  before = join b;
  is_before = rw h.is_node refl;
  shows = rw h.is_node (ap (λ z. join b ++ z) (at_rule-joins h.word h.name h.after_name h.params h.between (123 ∷ []) h.word_text ∙ ap (λ z. join z ++ 123 ∷ []) (sym h.all)));
}

rule-shows : (b run : List Lexeme) (o : Lexeme) (blk : Block) (end : ℕ) (t : NodeText) (sp : Option Span) → IsRule b run o blk end t sp → Shows t b (join run ++ 123 ∷ [])
rule-shows b run o blk end t sp h = record {
  before = join b;
  is_before = rw h.is_node refl;
  shows = rw h.is_node (ap (λ z. join b ++ z) (sym (append_assoc (join h.selector) (join h.between) (123 ∷ [])) ∙ ap (λ z. z ++ 123 ∷ []) (sym (join-append h.selector h.between) ∙ ap join (sym h.all))));
}

between-joins : (front : List Lexeme) (c : Lexeme) (back : List Lexeme) → join (front ++ c ∷ back) ≡ join front ++ (c.text ++ join back)
between-joins front c back = join-append front (c ∷ back) ∙ ap (λ z. join front ++ z) (join-cons c back)

declaration-joins : (w : Lexeme) (h prop : List ℕ) (front : List Lexeme) (c : Lexeme) (back body tl : List Lexeme) (v i : List ℕ) → w.text ≡ h ++ prop → v ++ i ≡ join body
    → h ++ (prop ++ (join (front ++ c ∷ back) ++ (v ++ (i ++ join tl)))) ≡ join (w ∷ (front ++ c ∷ (back ++ (body ++ tl))))
declaration-joins w h prop front c back body tl v i e k =
    sym (append_assoc h prop _) ∙ (ap (λ z. z ++ (join (front ++ c ∷ back) ++ (v ++ (i ++ join tl)))) (sym e)
    ∙ (ap (λ z. w.text ++ (join (front ++ c ∷ back) ++ z)) (sym (append_assoc v i (join tl)) ∙ (ap (λ z. z ++ join tl) k ∙ sym (join-append body tl)))
    ∙ (ap (λ z. w.text ++ z) (sym (join-append (front ++ c ∷ back) (body ++ tl)) ∙ ap join (append_assoc front (c ∷ back) (body ++ tl))) ∙ sym (join-cons w _))))

declaration-shows : (b run : List Lexeme) (t : NodeText) (sp : Option Span) → IsDeclaration b run t sp → Shows t b (join run)
declaration-shows b run t sp h = record {
  before = join b ++ h.hack;
  is_before = rw h.is_node refl;
  shows = rw h.is_node (append_assoc (join b) h.hack _ ∙ ap (λ z. join b ++ z)
      (declaration-joins h.word h.hack h.prop h.front h.colon h.back h.body h.tail (join h.value) _ h.word_text (value-joins h.body h.value h.marked h.important h.value_and_mark) ∙ ap join (sym h.all)));
}

pub leaf-shows : (b run : List Lexeme) (t : NodeText) (sp : Option Span) → IsLeaf b run t sp → Shows t b (join run)
leaf-shows b run t sp (inl h) = at_rule-shows b run _ t sp h
leaf-shows b run t sp (inr h) = declaration-shows b run t sp h

pub block-shows : (b run : List Lexeme) (o : Lexeme) (blk : Block) (end : ℕ) (t : NodeText) (sp : Option Span) → IsBlock b run o blk end t sp → Shows t b (join run ++ 123 ∷ [])
block-shows b run o blk end t sp (inl h) = at_block-shows b run blk end t sp h
block-shows b run o blk end t sp (inr h) = rule-shows b run o blk end t sp h

-- What printing asks of a node's text.

pub record CommentKind (t : NodeText) : Type 0 where
  pub takes : takes_semicolon t ≡ false
  pub is : is_comment t ≡ true
  pub closes : (d : ℕ) (k : Trees) → closing d t k ≡ []

pub record LeafKind (t : NodeText) : Type 0 where
  pub takes : takes_semicolon t ≡ true
  pub is : is_comment t ≡ false
  pub closes : (d : ℕ) (k : Trees) → closing d t k ≡ []

pub record BlockKind (t : NodeText) (a : List Lexeme) (semicolon : Bool) : Type 0 where
  pub takes : takes_semicolon t ≡ false
  pub is : is_comment t ≡ false
  pub closes : (d : ℕ) (k : Trees) → closing d t k ≡ join a ++ 125 ∷ []
  pub flag : (d : ℕ) (k : Trees) → (container_of d t k).semicolon ≡ semicolon

pub comment-kind : (b : List Lexeme) (p : Lexeme) (t : NodeText) (sp : Option Span) → IsComment b p t sp → CommentKind t
comment-kind b p t sp h = record { takes = rw h.is_node refl; is = rw h.is_node refl; closes = λ d k. rw h.is_node refl }

pub leaf-kind : (b run : List Lexeme) (t : NodeText) (sp : Option Span) → IsLeaf b run t sp → LeafKind t
leaf-kind b run t sp (inl h) = record { takes = rw h.is_node refl; is = rw h.is_node refl; closes = λ d k. rw h.is_node refl }
leaf-kind b run t sp (inr h) = record { takes = rw h.is_node refl; is = rw h.is_node refl; closes = λ d k. rw h.is_node refl }

pub block-kind : (b run : List Lexeme) (o : Lexeme) (f : Nodes) (a : List Lexeme) (end : ℕ) (t : NodeText) (sp : Option Span) → IsBlock b run o (block_of_nodes f a) end t sp
    → BlockKind t a (ends_with_semicolon false f)
block-kind b run o f a end t sp (inl h) = record { takes = rw h.is_node refl; is = rw h.is_node refl; closes = λ d k. rw h.is_node refl; flag = λ d k. rw h.is_node refl }
block-kind b run o f a end t sp (inr h) = record { takes = rw h.is_node refl; is = rw h.is_node refl; closes = λ d k. rw h.is_node refl; flag = λ d k. rw h.is_node refl }

-- The `;` behind a leaf.

comments-flag : (f : Nodes) (ts : Trees) (s : Bool) → AreTrees f ts → are_comments ts ≡ true → ends_with_semicolon s f ≡ s
unfolding ends_with_semicolon
comments-flag none Trees.none s h e = refl
comments-flag none (Trees.node t sp k r) s h e = absurd h
comments-flag (comment b p f) Trees.none s h e = absurd h
comments-flag (comment b p f) (Trees.node t sp Trees.none r) s h e = comments-flag f r s h.1 (rw (comment-kind b p t sp h.0).is at e)
comments-flag (comment b p f) (Trees.node t sp (Trees.node t' sp' k' r') r) s h e = absurd h
comments-flag (leaf b q x f) Trees.none s h e = absurd h
comments-flag (leaf b q x f) (Trees.node t sp Trees.none r) s h e = absurd (true≢false (sym (rw (leaf-kind b q t sp h.0).is at e)))
comments-flag (leaf b q x f) (Trees.node t sp (Trees.node t' sp' k' r') r) s h e = absurd h
comments-flag (block b q o x a c f) Trees.none s h e = absurd h
comments-flag (block b q o x a c f) (Trees.node t sp k r) s h e = absurd (true≢false (sym (rw (block-kind b q o x a (end_of c) t sp h.0).is at e)))

only-blanks : (f : Nodes) (ts : Trees) (a : List Lexeme) → AreTrees f ts → OnlyBlanks f a → (are_comments ts ≡ true) × (ends_with_semicolon false f ≡ false)
unfolding ends_with_semicolon
only-blanks none Trees.none a h o = (refl, refl)
only-blanks none (Trees.node t sp k r) a h o = absurd h
only-blanks (comment b p f) Trees.none a h o = absurd h
only-blanks (comment b p f) (Trees.node t sp Trees.none r) a h o = let k = only-blanks f r a h.1 o.1 in (rw (comment-kind b p t sp h.0).is k.0, k.1)
only-blanks (comment b p f) (Trees.node t sp (Trees.node t' sp' k' r') r) a h o = absurd h
only-blanks (leaf b q x f) ts a h o = absurd o
only-blanks (block b q y x a' c f) ts a h o = absurd o

by-flag : (b semicolon : Bool) → (b ≡ true → semicolon ≡ true) → (if b then semicolon_text semicolon else 59 ∷ []) ≡ 59 ∷ []
by-flag true semicolon h = rw (h refl) refl
by-flag false semicolon h = refl

pub leaf-end : (c : Container) (t : NodeText) (r e : List Lexeme) (f : Nodes) (ts : Trees) (a : List Lexeme) → LeafKind t → Ends r e f a → AreTrees f ts → AllFormed e
    → c.semicolon ≡ ends_with_semicolon (has_piece e) f → semicolon_after c t ts ≡ join e
leaf-end c t r [] f ts a k h m g s =
    let o = only-blanks f ts a m h.1 in rw (k.takes, o.0, s, o.1) (sym join-nil)
leaf-end c t r (p ∷ []) f ts a k h m g s =
    rw (k.takes) (by-flag (are_comments ts) c.semicolon (λ e. s ∙ comments-flag f ts true m e) ∙ (sym (formed-of p Shape.semicolon h g.0) ∙ sym (join-one p)))
leaf-end c t r (p ∷ q ∷ e) f ts a k h m g s = absurd h

-- one node printed: what stands before it, its body up to its children, these, its end, its `;`, and the nodes behind it
one : (c : Container) (first : Bool) (t : NodeText) (sp : Option Span) (k r : Trees) (b : List Lexeme) (body inside close e rest : List ℕ)
    → Shows t b body → print_children (container_of c.depth t k) true k ≡ inside → closing c.depth t k ≡ close → semicolon_after c t r ≡ e → print_children c false r ≡ rest
    → print_children c first (Trees.node t sp k r) ≡ join b ++ (body ++ (inside ++ (close ++ (e ++ rest))))
unfolding print_children
one c first t sp k r b body inside close e rest s hi hc he hr =
    rw (s.is_before, hi, hc, he, hr)
    (sym (append_assoc s.before (opening t) (inside ++ (close ++ (e ++ rest)))) ∙ (ap (λ z. z ++ (inside ++ (close ++ (e ++ rest)))) s.shows
    ∙ append_assoc (join b) body (inside ++ (close ++ (e ++ rest)))))

pub none-printed : (c : Container) (first : Bool) → print_children c first Trees.none ≡ []
unfolding print_children
none-printed c first = refl

pub comment-line : (b : List Lexeme) (p : Lexeme) (rest : List Lexeme) → join b ++ (p.text ++ ([] ++ ([] ++ ([] ++ join rest)))) ≡ join (b ++ p ∷ rest)
comment-line b p rest = ap (λ z. join b ++ z) (sym (join-cons p rest)) ∙ sym (join-append b (p ∷ rest))

pub leaf-line : (b r e rest : List Lexeme) → join b ++ (join r ++ ([] ++ ([] ++ (join e ++ join rest)))) ≡ join (b ++ (r ++ (e ++ rest)))
leaf-line b r e rest = sym (join-append b (r ++ (e ++ rest)) ∙ ap (λ z. join b ++ z) (join-append r (e ++ rest) ∙ ap (λ z. join r ++ z) (join-append e rest)))

pub block-line : (b r : List Lexeme) (o : Lexeme) (k a : List Lexeme) (c : Lexeme) (rest : List Lexeme) → o.text ≡ 123 ∷ [] → c.text ≡ 125 ∷ []
    → join b ++ ((join r ++ 123 ∷ []) ++ (join k ++ ((join a ++ 125 ∷ []) ++ ([] ++ join rest)))) ≡ join (b ++ (r ++ o ∷ (k ++ (a ++ c ∷ rest))))
block-line b r o k a c rest eo ec =
    sym (join-append b (r ++ o ∷ (k ++ (a ++ c ∷ rest))) ∙ ap (λ z. join b ++ z)
    (join-append r (o ∷ (k ++ (a ++ c ∷ rest))) ∙ (ap (λ z. join r ++ z) (join-cons o (k ++ (a ++ c ∷ rest)) ∙ (ap (λ z. z ++ join (k ++ (a ++ c ∷ rest))) eo
    ∙ ap (λ z. 123 ∷ z) (join-append k (a ++ c ∷ rest) ∙ ap (λ z. join k ++ z) (join-append a (c ∷ rest) ∙ (ap (λ z. join a ++ z) (join-cons c rest ∙ ap (λ z. z ++ join rest) ec)
    ∙ sym (append_assoc (join a) (125 ∷ []) (join rest)))))))
    ∙ sym (append_assoc (join r) (123 ∷ []) (join k ++ ((join a ++ 125 ∷ []) ++ join rest))))))

pub printed : (f : Nodes) (ts : Trees) (a : List Lexeme) (n : ℕ) (c : Container) (first s : Bool)
    → AreNodes n f a → AllFormed (line f) → AreTrees f ts → c.semicolon ≡ ends_with_semicolon s f → print_children c first ts ≡ join (line f)
unfolding line ends_with_semicolon
printed none Trees.none a n c first s h m t g = none-printed c first ∙ sym join-nil
printed none (Trees.node x sp k r) a n c first s h m t g = absurd t
printed (comment b p f) Trees.none a n c first s h m t g = absurd t
printed (comment b p f) (Trees.node x sp Trees.none r) a n c first s h m t g =
    let mp = formed-back b (p ∷ line f) m in
    let k = comment-kind b p x sp t.0 in
    one c first x sp Trees.none r b p.text [] [] [] (join (line f)) (comment-shows b p x sp t.0) (none-printed _ true) (k.closes c.depth Trees.none) (rw k.takes refl)
    (printed f r a n c false s h.2 mp.2 t.1 g)
    ∙ comment-line b p (line f)
printed (comment b p f) (Trees.node x sp (Trees.node x' sp' k' r') r) a n c first s h m t g = absurd t
printed (leaf b q e f) Trees.none a n c first s h m t g = absurd t
printed (leaf b q e f) (Trees.node x sp Trees.none r) a n c first s h m t g =
    let mr = formed-back b (q ++ (e ++ line f)) m in
    let me = formed-back q (e ++ line f) mr in
    let k = leaf-kind b q x sp t.0 in
    one c first x sp Trees.none r b (join q) [] [] (join e) (join (line f)) (leaf-shows b q x sp t.0) (none-printed _ true) (k.closes c.depth Trees.none)
    (leaf-end c x q e f r a k h.3 t.1 (formed-front e (line f) me) g) (printed f r a n c false (has_piece e) h.4 (formed-back e (line f) me) t.1 g)
    ∙ leaf-line b q e (line f)
printed (leaf b q e f) (Trees.node x sp (Trees.node x' sp' k' r') r) a n c first s h m t g = absurd t
printed (block b q o y a' d f) Trees.none a n c first s h m t g = absurd t
printed (block b q o y a' d f) (Trees.node x sp k r) a n c first s h m t g =
    let mr = formed-back b (q ++ o ∷ (line y ++ (a' ++ d ∷ line f))) m in
    let mo = formed-back q (o ∷ (line y ++ (a' ++ d ∷ line f))) mr in
    let mk = formed-front (line y) (a' ++ d ∷ line f) mo.2 in
    let mc = formed-back a' (d ∷ line f) (formed-back (line y) (a' ++ d ∷ line f) mo.2) in
    let z = block-kind b q o y a' (end_of d) x sp t.0 in
    one c first x sp k r b (join q ++ 123 ∷ []) (join (line y)) (join a' ++ 125 ∷ []) [] (join (line f)) (block-shows b q o _ _ x sp t.0)
    (printed y k a' (suc n) (container_of c.depth x k) true false h.4 mk t.1 (z.flag c.depth k)) (z.closes c.depth k) (rw z.takes refl)
    (printed f r a n c false false h.6 mc.2 t.2 g)
    ∙ block-line b q o (line y) a' d (line f) (formed-of o Shape.brace_open h.2 mo.0) (formed-of d Shape.brace_close h.5 mc.0)
