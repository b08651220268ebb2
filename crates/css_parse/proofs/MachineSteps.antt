-- A step of the machine leaves what it comes to.
use Rattle.std.proofs.Common.{◌≡◌, ℕ, suc, zero, ◌+◌, ◌<◌, ◌≤◌, List, [], ◌∷◌, ◌++◌, Option, Some, None, Bool, true, false, length, map, refl, ◌∙◌, sym, ap, subst, append_assoc, length-append, arith}
use Rattle.node_rows.specs.declared.node_list.NodeAt.{NodeAt}
use Rattle.css_parse.specs.declared.turn.Frame.{Frame}
use Rattle.css_tree.specs.Classes.{BeginsWithout}
use Rattle.css_tree.specs.Pieces.{Lexeme, Shape, shape, is_blank, is_blank_shape, join}
use Rattle.css_tree.specs.Turn.{Turn, within, gap, alone, ends, closes, opens, turn, idle}
use Rattle.css_tree.specs.Fault.{Fault, state, fits_by, outer, first_of_two, end_fault, fits_end, unclosed_awaited, unknown}
use Rattle.css_tree.specs.Nodes.{Nodes, none, comment, leaf, block, ends_with_semicolon, has_piece}
use Rattle.css_tree.proofs.Reader.{Group, settle, settle_by, last_nodes, Rest, finish, closed, Outcome, fails, ok, outcome, map_ok, map_first, enclose, closed_with, finish_with, checked, act}
use Rattle.css_tree.proofs.Split.{solid, solid_by, tail}
use Rattle.css_tree.proofs.Runs.{Told, told}
use Rattle.css_tree.proofs.Trim.{trim-all}
use Rattle.css_tree.proofs.Printed.{join-append}
use Rattle.css_parse.specs.Steps.{below, opening_of}
use Rattle.css_parse.specs.Gaps.{gap_of}
use Rattle.css_parse.specs.Machine.{comment_node, leaf_node, open_node, seal, seal_root, count, flat, alter, Open, top, resume, Machine, next, shut_with, opened, open_containers, faulty, done, final, answer, AllBelow, IsReady, open_of, given}
use Rattle.css_parse.proofs.Joins.{join-nil, join-one}

some-none : {f : Fault} → ◌≡◌ {A = Option Fault} (Some f) None → ⊥
some-none e = cc

first-none : (a b : Option Fault) → first_of_two a b ≡ None → (a ≡ None) × (b ≡ None)
first-none None b e = (refl, e)
first-none (Some f) b e = absurd (cc)

pub alter-append : (j : ℕ) (h : NodeAt → NodeAt) (ns ms : List NodeAt) → j < length ns → alter j h (ns ++ ms) ≡ alter j h ns ++ ms
unfolding alter
alter-append j h [] ms l = absurd (omega arith)
alter-append zero h (x ∷ ns) ms l = refl
alter-append (suc j) h (x ∷ ns) ms l = ap (λ z. x ∷ z) (alter-append j h ns ms (omega arith))

alter-last : (h : NodeAt → NodeAt) (ns : List NodeAt) (x : NodeAt) → alter (length ns) h (ns ++ x ∷ []) ≡ ns ++ h x ∷ []
unfolding alter
alter-last h [] x = refl
alter-last h (y ∷ ns) x = ap (λ z. y ∷ z) (alter-last h ns x)

pub length-alter : (j : ℕ) (h : NodeAt → NodeAt) (ns : List NodeAt) → length (alter j h ns) ≡ length ns
unfolding alter
length-alter j h [] = refl
length-alter zero h (x ∷ ns) = refl
length-alter (suc j) h (x ∷ ns) = ap suc (length-alter j h ns)

length-snoc : (ns : List NodeAt) (x : NodeAt) → length (ns ++ x ∷ []) ≡ suc (length ns)
length-snoc [] x = refl
length-snoc (y ∷ ns) x = ap suc (length-snoc ns x)

count-length : (t : Nodes) (j n : ℕ) → count n t ≡ n + length (flat j n t)
unfolding count flat
count-length none j n = omega arith
count-length (comment b p f) j n = omega (arith, count-length f j (suc n))
count-length (leaf b r e f) j n = omega (arith, count-length f j (suc n))
count-length (block b r o k a c f) j n =
    omega (arith, count-length k n (suc n), count-length f j (count (suc n) k), length-append (flat n (suc n) k) (flat j (count (suc n) k) f))

abbrev IsFront : (Nodes → Nodes) → ℕ → NodeAt → Bool → Bool → Type 0
IsFront h j x s s' = ((n : ℕ) (f : Nodes) → flat j n (h f) ≡ x ∷ flat j (suc n) f) × ((f : Nodes) → ends_with_semicolon s (h f) ≡ ends_with_semicolon s' f)

append-front : (h : NodeAt → NodeAt) (j : ℕ) (ns : List NodeAt) (x : NodeAt) (rest : List NodeAt) → j < length ns
    → alter j h ns ++ (x ∷ rest) ≡ alter j h (ns ++ x ∷ []) ++ rest
append-front h j ns x rest l = rw (alter-append j h ns (x ∷ []) l) (sym (append_assoc (alter j h ns) (x ∷ []) rest))

one-front : (h : Nodes → Nodes) (ns : List NodeAt) (j : ℕ) (x : NodeAt) (s s' : Bool) (f : Nodes) (fix : Bool → NodeAt → NodeAt)
    → j < length ns → IsFront h j x s s'
    → alter j (fix (ends_with_semicolon s (h f))) ns ++ flat j (length ns) (h f) ≡ alter j (fix (ends_with_semicolon s' f)) (ns ++ x ∷ []) ++ flat j (length (ns ++ x ∷ [])) f
one-front h ns j x s s' f fix l e = rw (e.0 (length ns) f, e.1 f, length-snoc ns x) (append-front _ j ns x _ l)

push : (h : Nodes → Nodes) (ns : List NodeAt) (j : ℕ) (x : NodeAt) (s s' : Bool) (os : List Open) (r : Rest)
    → j < length ns → IsFront h j x s s'
    → resume ns (record { number = j; semicolon = s } ∷ os) (map_first h r) ≡ resume (ns ++ x ∷ []) (record { number = j; semicolon = s' } ∷ os) r
unfolding resume
push h ns j x s s' os (finish f a) l e = one-front h ns j x s s' f (λ b. seal_root b (join a)) l e
push h ns j x s s' os (closed f a c r) l e = ap (λ z. resume z os r) (one-front h ns j x s s' f (λ b. seal b (join a) c) l e)

push_comment : (ns : List NodeAt) (j : ℕ) (s : Bool) (os : List Open) (g : List Lexeme) (p : Lexeme) (r : Rest) → j < length ns
    → resume ns (record { number = j; semicolon = s } ∷ os) (map_first (comment g p) r) ≡ resume (ns ++ comment_node j (join g) p ∷ []) (record { number = j; semicolon = s } ∷ os) r
unfolding flat ends_with_semicolon
push_comment ns j s os g p r l = push (comment g p) ns j (comment_node j (join g) p) s s os r l ((λ n f. refl), (λ f. refl))

push_leaf : (ns : List NodeAt) (j : ℕ) (s : Bool) (os : List Open) (g q e : List Lexeme) (r : Rest) → j < length ns
    → resume ns (record { number = j; semicolon = s } ∷ os) (map_first (leaf g q e) r) ≡ resume (ns ++ leaf_node j (join g) q ∷ []) (record { number = j; semicolon = has_piece e } ∷ os) r
unfolding flat ends_with_semicolon
push_leaf ns j s os g q e r l = push (leaf g q e) ns j (leaf_node j (join g) q) s (has_piece e) os r l ((λ n f. refl), (λ f. refl))

block-nodes : (ns : List NodeAt) (x : NodeAt) (k : Nodes) (a : List Lexeme) (c : Lexeme)
    → alter (length ns) (seal (ends_with_semicolon false k) (join a) c) (ns ++ x ∷ []) ++ flat (length ns) (length (ns ++ x ∷ [])) k
    ≡ ns ++ seal (ends_with_semicolon false k) (join a) c x ∷ flat (length ns) (suc (length ns)) k
block-nodes ns x k a c =
    rw (alter-last (seal (ends_with_semicolon false k) (join a) c) ns x, length-snoc ns x)
    (append_assoc ns (seal (ends_with_semicolon false k) (join a) c x ∷ []) (flat (length ns) (suc (length ns)) k))

block-length : (ns : List NodeAt) (x : NodeAt) (k : Nodes) → length (ns ++ x ∷ flat (length ns) (suc (length ns)) k) ≡ count (suc (length ns)) k
block-length ns x k = omega (arith, length-append ns (x ∷ flat (length ns) (suc (length ns)) k), count-length k (length ns) (suc (length ns)))

block-front : (ns : List NodeAt) (j : ℕ) (s : Bool) (g r : List Lexeme) (p : Lexeme) (k : Nodes) (a : List Lexeme) (c : Lexeme) (f : Nodes) (fix : Bool → NodeAt → NodeAt) → j < length ns
    → alter j (fix (ends_with_semicolon s (block g r p k a c f))) ns ++ flat j (length ns) (block g r p k a c f)
    ≡ let ms = alter (length ns) (seal (ends_with_semicolon false k) (join a) c) (ns ++ open_node j (join g) r p ∷ []) ++ flat (length ns) (length (ns ++ open_node j (join g) r p ∷ [])) k in
    alter j (fix (ends_with_semicolon false f)) ms ++ flat j (length ms) f
unfolding flat ends_with_semicolon
block-front ns j s g r p k a c f fix l =
    let x : NodeAt = seal (ends_with_semicolon false k) (join a) c (open_node j (join g) r p) in
    let kids : List NodeAt = flat (length ns) (suc (length ns)) k in
    rw (block-nodes ns (open_node j (join g) r p) k a c)
    (rw (alter-append j (fix (ends_with_semicolon false f)) ns (x ∷ kids) l, block-length ns x k)
    (sym (append_assoc (alter j (fix (ends_with_semicolon false f)) ns) (x ∷ kids) (flat j (count (suc (length ns)) k) f))))

push_block : (ns : List NodeAt) (j : ℕ) (s : Bool) (os : List Open) (g r : List Lexeme) (p : Lexeme) (k : Nodes) (a : List Lexeme) (c : Lexeme) (rest : Rest) → j < length ns
    → resume ns (record { number = j; semicolon = s } ∷ os) (enclose g r p (closed k a c rest))
    ≡ resume (ns ++ open_node j (join g) r p ∷ []) (record { number = length ns; semicolon = false } ∷ record { number = j; semicolon = false } ∷ os) (closed k a c rest)
unfolding resume
push_block ns j s os g r p k a c (finish f b) l = block-front ns j s g r p k a c f (λ y. seal_root y (join b)) l
push_block ns j s os g r p k a c (closed f b d rest) l = ap (λ z. resume z os rest) (block-front ns j s g r p k a c f (λ y. seal y (join b) d) l)

-- What is left has an end for each open block.

abbrev Deep : List Lexeme → Outcome → Type 0
Deep o (fails f) = Unit {0}
Deep [] (ok (finish f a)) = Unit {0}
Deep [] (ok (closed f a c r)) = ⊥
Deep (x ∷ o) (ok (finish f a)) = ⊥
Deep (x ∷ o) (ok (closed f a c r)) = Deep o (ok r)

deep-checked : (o : List Lexeme) (f : Option Fault) (x : Outcome) → (f ≡ None → Deep o x) → Deep o (checked f x)
deep-checked o (Some f) x h = tt
deep-checked o None x h = h refl

deep-first : (o : List Lexeme) (h : Nodes → Nodes) (x : Outcome) → Deep o x → Deep o (map_ok (map_first h) x)
deep-first o h (fails f) d = tt
deep-first [] h (ok (finish f a)) d = tt
deep-first [] h (ok (closed f a c r)) d = absurd d
deep-first (x ∷ o) h (ok (finish f a)) d = absurd d
deep-first (x ∷ o) h (ok (closed f a c r)) d = d

deep-shut : (y : Lexeme) (o : List Lexeme) (q : Group) (p : Lexeme) (x : Outcome) → Deep o x → Deep (y ∷ o) (map_ok (closed_with q p) x)
deep-shut y o q p (fails f) d = tt
deep-shut y o q p (ok r) d = d

deep-into : (p : Lexeme) (o g r : List Lexeme) (x : Outcome) → Deep (p ∷ o) x → Deep o (map_ok (enclose g r p) x)
deep-into p o g r (fails f) d = tt
deep-into p o g r (ok (finish f a)) d = absurd d
deep-into p [] g r (ok (closed k a c (finish f b))) d = tt
deep-into p (x ∷ o) g r (ok (closed k a c (finish f b))) d = absurd d
deep-into p [] g r (ok (closed k a c (closed f b e s))) d = absurd d
deep-into p (x ∷ o) g r (ok (closed k a c (closed f b e s))) d = d

deep-act : (t : Turn) (k : List Lexeme → List Lexeme → List Lexeme → List Lexeme → Outcome) → ((o g r aw : List Lexeme) → Deep o (k o g r aw))
    → (o g r : List Lexeme) (p : Lexeme) → fits_by o r p t ≡ None → Deep o (act t k o g r p)
deep-act (within aw) k h o g r p f = h o g (r ++ p ∷ []) aw
deep-act gap k h o g r p f = h o (g ++ p ∷ []) [] []
deep-act alone k h o g r p f = deep-first o _ _ (h o [] [] [])
deep-act ends k h o g r p f = deep-first o _ _ (h o [] [] [])
deep-act closes k h [] g r p f = absurd (some-none (first-none (unknown r) _ f).1)
deep-act closes k h (y ∷ o) g r p f = deep-shut y o (last_nodes g r) p _ (h o [] [] [])
deep-act opens k h o g r p f = deep-into p o g r _ (h (p ∷ o) [] [] [])

deep-end : (lex : Option Fault) (o g r aw : List Lexeme) → end_fault lex (state o aw r) ≡ None → Deep o (ok (finish_with (last_nodes g r)))
deep-end (Some f) o g r aw e = absurd (cc)
deep-end None [] g r aw e = tt
deep-end None (x ∷ o) g r aw e = absurd (some-none (first-none (unknown r) _ (first-none (unclosed_awaited aw) _ e).1).1)

deep : (ps : List Lexeme) (lex : Option Fault) (o g r aw : List Lexeme) → Deep o (outcome ps lex o g r aw)
unfolding outcome
deep [] lex o g r aw = deep-checked o (end_fault lex (state o aw r)) _ (λ e. deep-end lex o g r aw e)
deep (p ∷ ps) lex o g r aw = deep-checked o (fits_by o r p (turn r aw p)) _ (λ e. deep-act (turn r aw p) (λ o' g' r' aw'. outcome ps lex o' g' r' aw') (deep ps lex) o g r p e)

-- Two gaps with one text.

pub gap-join : (t : List ℕ) → join (gap_of t) ≡ t
gap-join t = join-one _

same-first : (h k : Nodes → Nodes) → ((j n : ℕ) (f : Nodes) → flat j n (h f) ≡ flat j n (k f)) → ((s : Bool) (f : Nodes) → ends_with_semicolon s (h f) ≡ ends_with_semicolon s (k f))
    → (ns : List NodeAt) (os : List Open) (r : Rest) → resume ns os (map_first h r) ≡ resume ns os (map_first k r)
unfolding resume
same-first h k e d ns os (finish f a) =
    ap (λ z. alter (top os).number (seal_root z (join a)) ns ++ flat (top os).number (length ns) (h f)) (d (top os).semicolon f)
    ∙ ap (λ z. alter (top os).number (seal_root (ends_with_semicolon (top os).semicolon (k f)) (join a)) ns ++ z) (e (top os).number (length ns) f)
same-first h k e d ns os (closed f a c r) =
    ap (λ z. resume (alter (top os).number (seal z (join a) c) ns ++ flat (top os).number (length ns) (h f)) (below os) r) (d (top os).semicolon f)
    ∙ ap (λ z. resume (alter (top os).number (seal (ends_with_semicolon (top os).semicolon (k f)) (join a) c) ns ++ z) (below os) r) (e (top os).number (length ns) f)

final-same : (s : Machine) (h k : Rest → Rest) (x : Outcome) → ((ns : List NodeAt) (os : List Open) (r : Rest) → resume ns os (h r) ≡ resume ns os (k r)) → final s (map_ok h x) ≡ final s (map_ok k x)
final-same s h k (fails f) e = refl
final-same s h k (ok r) e = ap done (e s.nodes (open_containers s) r)

same-closed : (g h r : List Lexeme) (p : Lexeme) → join g ≡ join h → (ns : List NodeAt) (os : List Open) (x : Rest) → resume ns os (closed_with (last_nodes g r) p x) ≡ resume ns os (closed_with (last_nodes h r) p x)
unfolding resume flat ends_with_semicolon
same-closed g h [] p e ns os x = ap (λ z. resume (alter (top os).number (seal (top os).semicolon z p) ns ++ []) (below os) x) e
same-closed g h (q ∷ r) p e ns os x =
    let n : Group = last_nodes g (q ∷ r) in
    let b : Nodes = (settle [] (tail (q ∷ r))).nodes in
    ap (λ z. resume (alter (top os).number (seal (ends_with_semicolon false b) (join (settle [] (tail (q ∷ r))).behind) p) ns
    ++ leaf_node (top os).number z (solid (q ∷ r)) ∷ flat (top os).number (suc (length ns)) b) (below os) x) e

same-finish : (g h r : List Lexeme) → join g ≡ join h → (ns : List NodeAt) (os : List Open) → resume ns os (finish_with (last_nodes g r)) ≡ resume ns os (finish_with (last_nodes h r))
unfolding resume flat ends_with_semicolon
same-finish g h [] e ns os = ap (λ z. alter (top os).number (seal_root (top os).semicolon z) ns ++ []) e
same-finish g h (q ∷ r) e ns os =
    let b : Nodes = (settle [] (tail (q ∷ r))).nodes in
    ap (λ z. alter (top os).number (seal_root (ends_with_semicolon false b) (join (settle [] (tail (q ∷ r))).behind)) ns
    ++ leaf_node (top os).number z (solid (q ∷ r)) ∷ flat (top os).number (suc (length ns)) b) e

same-enclose : (g h r : List Lexeme) (p : Lexeme) → join g ≡ join h → (ns : List NodeAt) (os : List Open) (x : Rest) → resume ns os (enclose g r p x) ≡ resume ns os (enclose h r p x)
unfolding resume flat ends_with_semicolon
same-enclose g h r p e ns os (finish f a) = refl
same-enclose g h r p e ns os (closed k a c (finish f b)) =
    ap (λ z. alter (top os).number (seal_root (ends_with_semicolon false f) (join b)) ns
    ++ seal (ends_with_semicolon false k) (join a) c (open_node (top os).number z r p) ∷ (flat (length ns) (suc (length ns)) k ++ flat (top os).number (count (suc (length ns)) k) f)) e
same-enclose g h r p e ns os (closed k a c (closed f b d s)) =
    ap (λ z. resume (alter (top os).number (seal (ends_with_semicolon false f) (join b) d) ns
    ++ seal (ends_with_semicolon false k) (join a) c (open_node (top os).number z r p) ∷ (flat (length ns) (suc (length ns)) k ++ flat (top os).number (count (suc (length ns)) k) f)) (below os) s) e

same-act : (t : Turn) (k : List Lexeme → List Lexeme → List Lexeme → List Lexeme → Outcome)
    → ((s : Machine) (o g h r aw : List Lexeme) → join g ≡ join h → final s (k o g r aw) ≡ final s (k o h r aw))
    → (s : Machine) (o g h r : List Lexeme) (p : Lexeme) → join g ≡ join h → final s (act t k o g r p) ≡ final s (act t k o h r p)
unfolding flat ends_with_semicolon
same-act (within aw) k ih s o g h r p e = ih s o g h (r ++ p ∷ []) aw e
same-act gap k ih s o g h r p e = ih s o (g ++ p ∷ []) (h ++ p ∷ []) [] [] (join-append g (p ∷ []) ∙ (ap (λ z. z ++ join (p ∷ [])) e ∙ sym (join-append h (p ∷ []))))
same-act alone k ih s o g h r p e =
    final-same s _ _ (k o [] [] []) (same-first (comment g p) (comment h p) (λ j n f. ap (λ z. comment_node j z p ∷ flat j (suc n) f) e) (λ b f. refl))
same-act ends k ih s o g h r p e =
    final-same s _ _ (k o [] [] []) (same-first (leaf g r (p ∷ [])) (leaf h r (p ∷ [])) (λ j n f. ap (λ z. leaf_node j z r ∷ flat j (suc n) f) e) (λ b f. refl))
same-act closes k ih s o g h r p e = final-same s _ _ (k (outer o) [] [] []) (same-closed g h r p e)
same-act opens k ih s o g h r p e = final-same s _ _ (k (p ∷ o) [] [] []) (same-enclose g h r p e)

same-checked : (s : Machine) (f : Option Fault) (x y : Outcome) → final s x ≡ final s y → final s (checked f x) ≡ final s (checked f y)
same-checked s (Some f) x y e = refl
same-checked s None x y e = e

-- what is left comes to the same behind two gaps with one text
pub same : (ps : List Lexeme) (lex : Option Fault) (s : Machine) (o g h r aw : List Lexeme) → join g ≡ join h → final s (outcome ps lex o g r aw) ≡ final s (outcome ps lex o h r aw)
unfolding outcome
same [] lex s o g h r aw e = same-checked s (end_fault lex (state o aw r)) _ _ (ap done (same-finish g h r e s.nodes (open_containers s)))
same (p ∷ ps) lex s o g h r aw e =
    same-checked s (fits_by o r p (turn r aw p)) _ _ (same-act (turn r aw p) (λ o' g' r' aw'. outcome ps lex o' g' r' aw') (λ s o g h r aw e. same ps lex s o g h r aw e) s o g h r p e)

fresh-gap : (ps : List Lexeme) (lex : Option Fault) (s : Machine) (o r aw : List Lexeme) → final s (outcome ps lex o [] r aw) ≡ final s (outcome ps lex o (gap_of []) r aw)
fresh-gap ps lex s o r aw = same ps lex s o [] (gap_of []) r aw (join-nil ∙ sym (gap-join []))

pub more-gap : (t : List ℕ) (p : Lexeme) → join (gap_of t ++ p ∷ []) ≡ join (gap_of (t ++ p.text))
more-gap t p = join-append (gap_of t) (p ∷ []) ∙ (ap (λ z. z ++ join (p ∷ [])) (gap-join t) ∙ (ap (λ z. t ++ z) (join-one p) ∙ sym (gap-join (t ++ p.text))))

abbrev machine : List NodeAt → ℕ → Bool → List Frame → List ℕ → List Lexeme → List Lexeme → Machine
machine ns j s fs g r aw = record { nodes = ns; number = j; semicolon = s; frames = fs; gap = g; run = r; awaited = aw }

final-first : (ns : List NodeAt) (j : ℕ) (s s' : Bool) (fs : List Frame) (g : List ℕ) (r aw : List Lexeme) (g' : List ℕ) (r' aw' : List Lexeme) (h : Nodes → Nodes) (x : NodeAt) (y : Outcome)
    → j < length ns → IsFront h j x s s' → final (machine ns j s fs g r aw) (map_ok (map_first h) y) ≡ final (machine (ns ++ x ∷ []) j s' fs g' r' aw') y
final-first ns j s s' fs g r aw g' r' aw' h x (fails f) l e = refl
final-first ns j s s' fs g r aw g' r' aw' h x (ok y) l e = ap done (push h ns j x s s' (map open_of fs) y l e)

final-shut : (ns : List NodeAt) (j : ℕ) (s : Bool) (f : Frame) (fs : List Frame) (g : List ℕ) (r aw : List Lexeme) (p : Lexeme) (q : Group) (y : Outcome)
    → final (machine ns j s (f ∷ fs) g r aw) (map_ok (closed_with q p) y) ≡ final (shut_with (machine ns j s (f ∷ fs) g r aw) p q) y
unfolding resume
final-shut ns j s f fs g r aw p q (fails x) = refl
final-shut ns j s f fs g r aw p q (ok y) = refl

final-into : (ns : List NodeAt) (j : ℕ) (s : Bool) (fs : List Frame) (g : List ℕ) (r aw : List Lexeme) (p : Lexeme) (o : List Lexeme) (y : Outcome) → j < length ns → Deep (p ∷ o) y
    → final (machine ns j s fs g r aw) (map_ok (enclose (gap_of g) r p) y) ≡ final (next (machine ns j s fs g r aw) p opens) y
final-into ns j s fs g r aw p o (fails x) l d = refl
final-into ns j s fs g r aw p o (ok (finish k a)) l d = absurd d
final-into ns j s fs g r aw p o (ok (closed k a c rest)) l d = ap done (push_block ns j s (map open_of fs) (gap_of g) r p k a c rest l ∙ ap (λ z. resume (ns ++ open_node j z r p ∷ []) (record { number = length ns; semicolon = false } ∷ record { number = j; semicolon = false } ∷ map open_of fs) (closed k a c rest)) (gap-join g))

by_turn : (t : Turn) (ns : List NodeAt) (j : ℕ) (s : Bool) (fs : List Frame) (g : List ℕ) (r aw : List Lexeme) (p : Lexeme) (ps : List Lexeme) (lex : Option Fault)
    → j < length ns → (r ≡ [] → aw ≡ []) → Told t r aw (shape p) → fits_by (map opening_of fs) r p t ≡ None
    → final (machine ns j s fs g r aw) (act t (λ o' g' r' aw'. outcome ps lex o' g' r' aw') (map opening_of fs) (gap_of g) r p)
    ≡ answer (next (machine ns j s fs g r aw) p t) ps lex
unfolding answer flat ends_with_semicolon
by_turn (within aw') ns j s fs g r aw p ps lex l i d f = refl
by_turn gap ns j s fs g r aw p ps lex l i d f = rw (d.0, i d.0) (same ps lex (machine ns j s fs g [] []) (map opening_of fs) (gap_of g ++ p ∷ []) (gap_of (g ++ p.text)) [] [] (more-gap g p))
by_turn alone ns j s fs g r aw p ps lex l i d f =
    rw (d.0, i d.0) (final-first ns j s s fs g [] [] [] [] [] (comment (gap_of g) p) (comment_node j g p) (outcome ps lex (map opening_of fs) [] [] []) l
    ((λ n x. ap (λ z. comment_node j z p ∷ flat j (suc n) x) (gap-join g)), (λ x. refl)) ∙ fresh-gap ps lex (machine (ns ++ comment_node j g p ∷ []) j s fs [] [] []) (map opening_of fs) [] [])
by_turn ends ns j s fs g r aw p ps lex l i d f =
    rw d.0 (final-first ns j s true fs g r [] [] [] [] (leaf (gap_of g) r (p ∷ [])) (leaf_node j g r) (outcome ps lex (map opening_of fs) [] [] []) l
    ((λ n x. ap (λ z. leaf_node j z r ∷ flat j (suc n) x) (gap-join g)), (λ x. refl)) ∙ fresh-gap ps lex (machine (ns ++ leaf_node j g r ∷ []) j true fs [] [] []) (map opening_of fs) [] [])
by_turn closes ns j s [] g r aw p ps lex l i d f = absurd (some-none (first-none (unknown r) _ f).1)
by_turn closes ns j s (y ∷ fs) g r aw p ps lex l i d f =
    rw d.0 (final-shut ns j s y fs g r [] p (last_nodes (gap_of g) r) (outcome ps lex (map opening_of fs) [] [] []) ∙ fresh-gap ps lex (shut_with (machine ns j s (y ∷ fs) g r []) p (last_nodes (gap_of g) r)) (map opening_of fs) [] [])
by_turn opens ns j s fs g r aw p ps lex l i d f =
    rw d.0 (final-into ns j s fs g r [] p (map opening_of fs) (outcome ps lex (p ∷ map opening_of fs) [] [] []) l (deep ps lex (p ∷ map opening_of fs) [] [] [])
    ∙ fresh-gap ps lex (next (machine ns j s fs g r []) p opens) (p ∷ map opening_of fs) [] [])

-- where no row fits, a step leaves the answer
pub step_answer : (s : Machine) (p : Lexeme) (ps : List Lexeme) (lex : Option Fault) (t : Turn) → IsReady s → turn s.run s.awaited p ≡ t → fits_by (opened s) s.run p t ≡ None
    → answer s (p ∷ ps) lex ≡ answer (next s p t) ps lex
unfolding answer outcome
step_answer s p ps lex t h e f =
    rw (e, f) (by_turn t s.nodes s.number s.semicolon s.frames s.gap s.run s.awaited p ps lex h.known h.idle (subst (λ z. Told z s.run s.awaited (shape p)) e (told s.run s.awaited p h.idle)) f)

-- where one fits, it is the answer
pub fault_answer : (s : Machine) (p : Lexeme) (ps : List Lexeme) (lex : Option Fault) (t : Turn) (f : Fault) → turn s.run s.awaited p ≡ t → fits_by (opened s) s.run p t ≡ Some f
    → answer s (p ∷ ps) lex ≡ faulty f
unfolding answer outcome
fault_answer s p ps lex t f e h = rw (e, h)

all-below : (m n : ℕ) (fs : List Frame) → m ≤ n → AllBelow m fs → AllBelow n fs
all-below m n [] l h = tt
all-below m n (f ∷ fs) l h = (omega (arith, h.0), all-below m n fs l h.1)

snoc-full : (r : List Lexeme) (p : Lexeme) {A : Type 0} → r ++ p ∷ [] ≡ [] → A
snoc-full [] p e = cc
snoc-full (q ∷ r) p e = cc

idle-begins : (p : Lexeme) (s : Shape) (aw : List Lexeme) → idle p s ≡ within aw → is_blank_shape s ≡ false
idle-begins p Shape.space aw e = absurd (cc)
idle-begins p Shape.comment aw e = absurd (cc)
idle-begins p _ aw e = refl

-- a statement in progress begins with no blank
begun_by : (r aw : List Lexeme) (p : Lexeme) (aw' : List Lexeme) → turn r aw p ≡ within aw' → BeginsWithout is_blank r → BeginsWithout is_blank (r ++ p ∷ [])
unfolding turn is_blank
begun_by [] aw p aw' e h = idle-begins p (shape p) aw' e
begun_by (q ∷ r) aw p aw' e h = h

ready_by : (t : Turn) (ns : List NodeAt) (j : ℕ) (s : Bool) (fs : List Frame) (g : List ℕ) (r aw : List Lexeme) (p : Lexeme)
    → j < length ns → AllBelow (length ns) fs → (r ≡ [] → aw ≡ []) → BeginsWithout is_blank r → turn r aw p ≡ t → Told t r aw (shape p) → fits_by (map opening_of fs) r p t ≡ None
    → IsReady (next (machine ns j s fs g r aw) p t)
ready_by (within aw') ns j s fs g r aw p l b i y z d f = record { known = l; known_outer = b; idle = λ e. absurd (snoc-full r p e); begun = begun_by r aw p aw' z y }
ready_by gap ns j s fs g r aw p l b i y z d f = record { known = l; known_outer = b; idle = i; begun = y }
ready_by alone ns j s fs g r aw p l b i y z d f = record { known = omega (arith, length-snoc ns (comment_node j g p)); known_outer = all-below (length ns) _ fs (omega (arith, length-snoc ns (comment_node j g p))) b; idle = i; begun = y }
ready_by ends ns j s fs g r aw p l b i y z d f = record { known = omega (arith, length-snoc ns (leaf_node j g r)); known_outer = all-below (length ns) _ fs (omega (arith, length-snoc ns (leaf_node j g r))) b; idle = λ e. d.0; begun = tt }
ready_by closes ns j s [] g r aw p l b i y z d f = absurd (some-none (first-none (unknown r) _ f).1)
ready_by closes ns j s (x ∷ fs) g r aw p l b i y z d f =
    let q : Group = last_nodes (gap_of g) r in
    let h : NodeAt → NodeAt = seal (ends_with_semicolon s q.nodes) (join q.behind) p in
    let m : length ns ≤ length (alter j h ns ++ flat j (length ns) q.nodes) = omega (arith, length-append (alter j h ns) (flat j (length ns) q.nodes), length-alter j h ns) in
    record { known = omega (arith, b.0, m); known_outer = all-below (length ns) _ fs m b.1; idle = λ e. d.0; begun = tt }
ready_by opens ns j s fs g r aw p l b i y z d f =
    record { known = omega (arith, length-snoc ns (open_node j g r p)); known_outer = (omega (arith, length-snoc ns (open_node j g r p)), all-below (length ns) _ fs (omega (arith, length-snoc ns (open_node j g r p))) b); idle = λ e. d.0; begun = tt }

pub ready_next : (s : Machine) (p : Lexeme) (t : Turn) → IsReady s → turn s.run s.awaited p ≡ t → fits_by (opened s) s.run p t ≡ None → IsReady (next s p t)
ready_next s p t h e f =
    ready_by t s.nodes s.number s.semicolon s.frames s.gap s.run s.awaited p h.known h.known_outer h.idle h.begun e (subst (λ z. Told z s.run s.awaited (shape p)) e (told s.run s.awaited p h.idle)) f

-- There are no more nodes and pieces in progress than pieces.

settle_by-count : (s : Shape) (j n : ℕ) (g : List Lexeme) (p : Lexeme) (m : ℕ) (k : List Lexeme → Group) → ((n : ℕ) (g : List Lexeme) → length (flat j n (k g).nodes) ≤ m) → length (flat j n (settle_by s g p k).nodes) ≤ suc m
unfolding flat
settle_by-count Shape.space j n g p m k ih = let h = ih n (g ++ p ∷ []) in omega (arith, h)
settle_by-count _ j n g p m k ih = let h = ih (suc n) [] in omega (arith, h)

settle-count : (bl : List Lexeme) (j n : ℕ) (g : List Lexeme) → length (flat j n (settle g bl).nodes) ≤ length bl
unfolding settle flat
settle-count [] j n g = omega arith
settle-count (p ∷ bl) j n g = settle_by-count (shape p) j n g p (length bl) (λ g'. settle g' bl) (λ n g. settle-count bl j n g)

solid-first : (q : Lexeme) (r : List Lexeme) → is_blank q ≡ false → solid (q ∷ r) ≡ q ∷ solid r
unfolding solid_by
solid-first q r e = rw e refl

last-count : (r : List Lexeme) (j n : ℕ) (g : List Lexeme) → BeginsWithout is_blank r → length (flat j n (last_nodes g r).nodes) ≤ length r
unfolding flat
last-count [] j n g h = omega arith
last-count (q ∷ r) j n g h =
    let a = settle-count (tail (q ∷ r)) j (suc n) [] in
    let b = ap length (trim-all is_blank (q ∷ r)) in
    let c = length-append (solid (q ∷ r)) (tail (q ∷ r)) in
    let d = ap length (solid-first q r h) in
    omega (arith, a, b, c, d)

pub next_small : (s : Machine) (p : Lexeme) (t : Turn) → BeginsWithout is_blank s.run → length (next s p t).nodes + length (next s p t).run ≤ 1 + (length s.nodes + length s.run)
next_small s p (within aw) h = omega (arith, length-append s.run (p ∷ []))
next_small s p gap h = omega arith
next_small s p alone h = omega (arith, length-snoc s.nodes (comment_node s.number s.gap p))
next_small s p ends h = omega (arith, length-snoc s.nodes (leaf_node s.number s.gap s.run))
next_small s p closes h =
    let q : Group = last_nodes (gap_of s.gap) s.run in
    let f : NodeAt → NodeAt = seal (ends_with_semicolon s.semicolon q.nodes) (join q.behind) p in
    omega (arith, length-append (alter s.number f s.nodes) (flat s.number (length s.nodes) q.nodes), length-alter s.number f s.nodes, last-count s.run s.number (length s.nodes) (gap_of s.gap) h)
next_small s p opens h = omega (arith, length-snoc s.nodes (open_node s.number s.gap s.run p))

-- The end of the text.

abbrev pub at_end : Machine → Option Fault
at_end s = fits_end (state (opened s) s.awaited s.run)

pub end-fault_answer : (s : Machine) (f : Fault) → at_end s ≡ Some f → answer s [] None ≡ faulty f
unfolding answer outcome
end-fault_answer s f e = rw e

pub end_answer : (s : Machine) → at_end s ≡ None → s.number < length s.nodes
    → answer s [] None ≡ done (alter s.number (seal_root (given s).semicolon (given s).gap) (given s).nodes)
unfolding answer outcome resume
end_answer s e l = rw e (ap done (sym (alter-append s.number (seal_root (given s).semicolon (given s).gap) s.nodes _ l)))
