-- What the reader gives is a list of nodes of those pieces, by the definition.
use Rattle.std.proofs.Common.{◌≡◌, ℕ, suc, List, [], ◌∷◌, ◌++◌, Option, Some, None, Bool, true, false, cond, leb, length, refl, ◌∙◌, sym, ap, subst, append_assoc, append-nil}
use Rattle.css_tree.specs.Pieces.{Lexeme, Shape, shape, is_blank, is_blank_shape}
use Rattle.css_tree.specs.Turn.{Turn, within, gap, alone, ends, closes, opens, turn, idle, is_custom, is_allowed}
use Rattle.css_tree.specs.Fault.{Fault, state, fits_by, end_fault, nameless, nameless_by, unknown, deep, first_of_two, unclosed_awaited}
use Rattle.css_tree.specs.Nodes.{Nodes, comment, leaf, block, awaited_after, is_gap_shape, is_gap, is_space, is_space_shape, line, AreNodes, IsRun, IsPrelude, OnlyBlanks, begins_shape}
use Rattle.css_tree.specs.Classes.{Each}
use Rattle.css_tree.proofs.Split.{solid, solid_by, tail, keep}
use Rattle.css_tree.proofs.Reader.{Group, settle, settle_by, last_nodes, Rest, finish, closed, Outcome, fails, ok, map_ok, map_first, enclose, finish_with, closed_with, checked, act, outcome}
use Rattle.css_tree.proofs.Runs.{each-append, solid-tail, tail-blank, solid-ends, awaited-trailing, awaited-append, allowed-trailing, Told, told, settle-line}

unfoldable pub line_rest : Rest → List Lexeme
line_rest (finish f a) = line f ++ a
line_rest (closed f a c r) = line f ++ (a ++ c ∷ line_rest r)

-- by the open `{`
abbrev pub AreRest : List Lexeme → Rest → Type 0
AreRest [] (finish f a) = AreNodes 0 f a
AreRest [] (closed f a c r) = ⊥
AreRest (x ∷ o) (finish f a) = ⊥
AreRest (x ∷ o) (closed f a c r) = AreNodes (suc (length o)) f a × (shape c ≡ Shape.brace_close) × AreRest o r

abbrev pub Holds : List Lexeme → List Lexeme → Outcome → Type 0
Holds o text (fails f) = Unit {0}
Holds o text (ok r) = AreRest o r × (line_rest r ≡ text)

-- a statement in progress, with what it awaits
abbrev pub Pending : List Lexeme → List Lexeme → Type 0
Pending [] aw = aw ≡ []
Pending (q ∷ r) aw = (begins_shape (shape q) ≡ true) × (awaited_after [] [] (q ∷ r) ≡ Some aw)

nothing-awaited : (r aw : List Lexeme) → Pending r aw → r ≡ [] → aw ≡ []
nothing-awaited [] aw h e = h
nothing-awaited (q ∷ r) aw h e = absurd (cc)

-- What is given back at a container's end.

settle_by-nodes : (s : Shape) (n : ℕ) (g : List Lexeme) (p : Lexeme) (k : List Lexeme → Group)
    → shape p ≡ s → is_blank_shape s ≡ true → Each is_gap g → ((g' : List Lexeme) → Each is_gap g' → AreNodes n (k g').nodes (k g').behind)
    → AreNodes n (settle_by s g p k).nodes (settle_by s g p k).behind
settle_by-nodes Shape.space n g p k es e hg h = h (g ++ p ∷ []) (each-append is_gap g (p ∷ []) hg (ap is_gap_shape es, tt))
settle_by-nodes Shape.comment n g p k es e hg h = (hg, es, h [] tt)
settle_by-nodes _ n g p k es e hg h = absurd (cc)

settle-nodes : (bl : List Lexeme) (n : ℕ) (g : List Lexeme) → Each is_blank bl → Each is_gap g → AreNodes n (settle g bl).nodes (settle g bl).behind
unfolding settle is_blank
settle-nodes [] n g hb hg = hg
settle-nodes (p ∷ ps) n g hb hg = settle_by-nodes (shape p) n g p (λ g'. settle g' ps) refl hb.0 hg (λ g' h. settle-nodes ps n g' hb.1 h)

settle_by-blanks : (s : Shape) (g : List Lexeme) (p : Lexeme) (k : List Lexeme → Group)
    → shape p ≡ s → is_blank_shape s ≡ true → Each is_space g → ((g' : List Lexeme) → Each is_space g' → OnlyBlanks (k g').nodes (k g').behind)
    → OnlyBlanks (settle_by s g p k).nodes (settle_by s g p k).behind
settle_by-blanks Shape.space g p k es e hg h = h (g ++ p ∷ []) (each-append is_space g (p ∷ []) hg (ap is_space_shape es, tt))
settle_by-blanks Shape.comment g p k es e hg h = (hg, h [] tt)
settle_by-blanks _ g p k es e hg h = absurd (cc)

settle-blanks : (bl g : List Lexeme) → Each is_blank bl → Each is_space g → OnlyBlanks (settle g bl).nodes (settle g bl).behind
unfolding settle is_blank
settle-blanks [] g hb hg = hg
settle-blanks (p ∷ ps) g hb hg = settle_by-blanks (shape p) g p (λ g'. settle g' ps) refl hb.0 hg (λ g' h. settle-blanks ps g' hb.1 h)

-- a statement begins with no blank
begins-solid : (s : Shape) → begins_shape s ≡ true → is_blank_shape s ≡ false
begins-solid Shape.space e = sym e
begins-solid Shape.comment e = sym e
begins-solid _ e = refl

-- a run without its trailing blanks
solid-run : (q : Lexeme) (r : List Lexeme) → Pending (q ∷ r) [] → is_allowed (q ∷ r) ≡ true
    → (s : List Lexeme) → keep (is_blank q) q s ++ tail (q ∷ r) ≡ q ∷ r → IsRun (keep (is_blank q) q s) × (is_allowed (keep (is_blank q) q s) ≡ true)
unfolding is_blank
solid-run q r h al s e =
    let solid_first : is_blank_shape (shape q) ≡ false = begins-solid (shape q) h.0 in
    rw solid_first
    (let e' : (q ∷ s) ++ tail (q ∷ r) ≡ q ∷ r = rw solid_first at e in (
      (h.0, sym (awaited-trailing q s (tail (q ∷ r)) (tail-blank (q ∷ r))) ∙ (ap (λ z. awaited_after [] [] z) e' ∙ h.1)),
      sym (allowed-trailing q s (tail (q ∷ r)) (tail-blank (q ∷ r))) ∙ (ap is_allowed e' ∙ al),
    ))

cond-none : (b : Bool) (f : Fault) → cond b None (Some f) ≡ None → b ≡ true
cond-none true f e = refl
cond-none false f e = absurd (cc)

unknown-none : (q : Lexeme) (r : List Lexeme) → unknown (q ∷ r) ≡ None → is_allowed (q ∷ r) ≡ true
unknown-none q r e = cond-none (is_allowed (q ∷ r)) _ e

last-nodes : (n : ℕ) (g r : List Lexeme) → Each is_gap g → Pending r [] → unknown r ≡ None → AreNodes n (last_nodes g r).nodes (last_nodes g r).behind
unfolding solid_by
last-nodes n g [] hg hp hu = hg
last-nodes n g (q ∷ r) hg hp hu =
    let run : IsRun (solid (q ∷ r)) × (is_allowed (solid (q ∷ r)) ≡ true) = solid-run q r hp (unknown-none q r hu) (solid r) (solid-tail (q ∷ r)) in
    (hg, run.0, run.1, (solid-ends (q ∷ r), settle-blanks (tail (q ∷ r)) [] (tail-blank (q ∷ r)) tt), settle-nodes (tail (q ∷ r)) n [] (tail-blank (q ∷ r)) tt)

last-line : (g r : List Lexeme) → line (last_nodes g r).nodes ++ (last_nodes g r).behind ≡ g ++ r
unfolding line
last-line g [] = sym (append-nil g)
last-line g (q ∷ r) =
    append_assoc g (solid (q ∷ r) ++ line (settle [] (tail (q ∷ r))).nodes) (settle [] (tail (q ∷ r))).behind
    ∙ ap (λ z. g ++ z) (append_assoc (solid (q ∷ r)) (line (settle [] (tail (q ∷ r))).nodes) (settle [] (tail (q ∷ r))).behind
    ∙ (ap (λ z. solid (q ∷ r) ++ z) (settle-line (tail (q ∷ r)) []) ∙ solid-tail (q ∷ r)))

-- Each turn.

checked-holds : (o text : List Lexeme) (f : Option Fault) (x : Outcome) → (f ≡ None → Holds o text x) → Holds o text (checked f x)
checked-holds o text (Some f) x h = tt
checked-holds o text None x h = h refl

map-holds : (o o' text text' : List Lexeme) (h : Rest → Rest) (x : Outcome)
    → ((r : Rest) → AreRest o r → line_rest r ≡ text → AreRest o' (h r) × (line_rest (h r) ≡ text'))
    → Holds o text x → Holds o' text' (map_ok h x)
map-holds o o' text text' h (fails f) k e = tt
map-holds o o' text text' h (ok r) k e = k r e.0 e.1

-- a node at the front
first-holds : (o : List Lexeme) (h : Nodes → Nodes) (front : List Lexeme)
    → ((f : Nodes) (a : List Lexeme) → AreNodes (length o) f a → AreNodes (length o) (h f) a)
    → ((f : Nodes) (a : List Lexeme) → line (h f) ++ a ≡ front ++ (line f ++ a))
    → (r : Rest) → AreRest o r → AreRest o (map_first h r) × (line_rest (map_first h r) ≡ front ++ line_rest r)
unfolding line_rest
first-holds [] h front k e (finish f a) d = (k f a d, e f a)
first-holds [] h front k e (closed f a c r) d = absurd d
first-holds (x ∷ o) h front k e (finish f a) d = absurd d
first-holds (x ∷ o) h front k e (closed f a c r) d = ((k f a d.0, d.1, d.2), e f (a ++ c ∷ line_rest r))

enclose-holds : (o g r : List Lexeme) (p : Lexeme)
    → ((k f : Nodes) (a b : List Lexeme) (c : Lexeme) → AreNodes (suc (length o)) k a → (shape c ≡ Shape.brace_close) → AreNodes (length o) f b → AreNodes (length o) (block g r p k a c f) b)
    → (s : Rest) → AreRest (p ∷ o) s → AreRest o (enclose g r p s) × (line_rest (enclose g r p s) ≡ g ++ (r ++ p ∷ line_rest s))
unfolding line_rest line
enclose-holds o g r p h (finish f a) d = absurd d
enclose-holds [] g r p h (closed k a c (finish f b)) d = (h k f a b c d.0 d.1 d.2, simp append_assoc)
enclose-holds (x ∷ o) g r p h (closed k a c (finish f b)) d = absurd d.2
enclose-holds [] g r p h (closed k a c (closed f b c' s)) d = absurd d.2
enclose-holds (x ∷ o) g r p h (closed k a c (closed f b c' s)) d = ((h k f a b c d.0 d.1 d.2.0, d.2.1, d.2.2), simp append_assoc)

some-none : {f : Fault} → ◌≡◌ {A = Option Fault} (Some f) None → ⊥
some-none e = cc

first-none : (f g : Option Fault) → first_of_two f g ≡ None → (f ≡ None) × (g ≡ None)
first-none None g e = (refl, e)
first-none (Some f) g e = absurd (cc)

begins-of : (p : Lexeme) (s : Shape) (aw : List Lexeme) → idle p s ≡ within aw → nameless_by s p ≡ None → begins_shape s ≡ true
begins-of p Shape.space aw e n = absurd (cc)
begins-of p Shape.comment aw e n = absurd (cc)
begins-of p Shape.semicolon aw e n = absurd (cc)
begins-of p Shape.brace_open aw e n = absurd (cc)
begins-of p Shape.brace_close aw e n = absurd (cc)
begins-of p Shape.bare_at aw e n = absurd (cc)
begins-of p _ aw e n = refl

pending-more : (r aw : List Lexeme) (p : Lexeme) (aw' : List Lexeme) → Pending r aw → turn r aw p ≡ within aw' → nameless r p ≡ None → Pending (r ++ p ∷ []) aw'
unfolding awaited_after turn
pending-more [] aw p aw' h e n = (begins-of p (shape p) aw' e n, rw e refl)
pending-more (q ∷ r) aw p aw' h e n = (h.0, awaited-append (q ∷ r) (p ∷ []) [] [] aw aw-is ∙ rw e refl)
  where
    aw-is : awaited_after [] [] (q ∷ r) ≡ Some aw
    aw-is = h.1

run-of : (r aw : List Lexeme) → Pending r aw → aw ≡ [] → (r ≡ [] → ⊥) → IsRun r
run-of [] aw h e n = n refl
run-of (q ∷ r) aw h e n = (h.0, h.1 ∙ ap (λ z. Some z) e)

prelude-of : (r aw : List Lexeme) → Pending r aw → aw ≡ [] → is_custom r ≡ false → IsPrelude r
prelude-of [] aw h e n = tt
prelude-of (q ∷ r) aw h e n = ((h.0, h.1 ∙ ap (λ z. Some z) e), n)

allowed-of : (r : List Lexeme) → unknown r ≡ None → is_allowed r ≡ true
unfolding is_allowed
allowed-of [] e = refl
allowed-of (q ∷ r) e = unknown-none q r e

deep-none : (o : List Lexeme) (p : Lexeme) → deep o p ≡ None → leb 200 (length o) ≡ false
deep-none o p e = go' (leb 200 (length o)) _ e
  where
    go' : (b : Bool) (f : Fault) → cond b (Some f) None ≡ None → b ≡ false
    go' true f e = absurd (cc)
    go' false f e = refl

abbrev Reader : Type 0
Reader = List Lexeme → List Lexeme → List Lexeme → List Lexeme → Outcome

comment-line : (g : List Lexeme) (p : Lexeme) (f : Nodes) (a : List Lexeme) → line (comment g p f) ++ a ≡ (g ++ p ∷ []) ++ (line f ++ a)
unfolding line
comment-line g p f a = simp append_assoc

leaf-line : (g r : List Lexeme) (p : Lexeme) (f : Nodes) (a : List Lexeme) → line (leaf g r (p ∷ []) f) ++ a ≡ (g ++ (r ++ p ∷ [])) ++ (line f ++ a)
unfolding line
leaf-line g r p f a = simp append_assoc

shut-line : (g r : List Lexeme) (p : Lexeme) (ps : List Lexeme) (s : Rest) → line_rest s ≡ ps → line_rest (closed_with (last_nodes g r) p s) ≡ g ++ (r ++ p ∷ ps)
unfolding line_rest
shut-line g r p ps s l = rw l (sym (append_assoc (line (last_nodes g r).nodes) (last_nodes g r).behind (p ∷ ps)) ∙ (ap (λ z. z ++ p ∷ ps) (last-line g r) ∙ append_assoc g r (p ∷ ps)))

act-holds : (t : Turn) (k : Reader) (ps : List Lexeme)
    → ((o g r aw : List Lexeme) → Each is_gap g → Pending r aw → Holds o (g ++ (r ++ ps)) (k o g r aw))
    → (o g r aw : List Lexeme) (p : Lexeme) → turn r aw p ≡ t → Told t r aw (shape p) → fits_by o r p t ≡ None → Each is_gap g → Pending r aw
    → Holds o (g ++ (r ++ p ∷ ps)) (act t k o g r p)
act-holds (within aw') k ps ih o g r aw p e d f hg hp =
    subst (λ z. Holds o z (k o g (r ++ p ∷ []) aw')) (ap (λ z. g ++ z) (append_assoc r (p ∷ []) ps)) (ih o g (r ++ p ∷ []) aw' hg (pending-more r aw p aw' hp e f))
act-holds gap k ps ih o g [] aw p e d f hg hp =
    subst (λ z. Holds o z (k o (g ++ p ∷ []) [] [])) (append_assoc g (p ∷ []) ps) (ih o (g ++ p ∷ []) [] [] (each-append is_gap g (p ∷ []) hg (d.1, tt)) refl)
act-holds gap k ps ih o g (q ∷ r) aw p e d f hg hp = absurd (cc)
act-holds alone k ps ih o g [] aw p e d f hg hp =
    map-holds o o ps (g ++ p ∷ ps) (map_first (comment g p)) (k o [] [] [])
    (λ s a l. let h : AreRest o (map_first (comment g p) s) × (line_rest (map_first (comment g p) s) ≡ (g ++ p ∷ []) ++ line_rest s)
    = first-holds o (comment g p) (g ++ p ∷ []) (λ x y z. (hg, d.1, z)) (comment-line g p) s a in
    (h.0, h.1 ∙ (append_assoc g (p ∷ []) (line_rest s) ∙ ap (λ z. g ++ p ∷ z) l)))
    (ih o [] [] [] tt refl)
act-holds alone k ps ih o g (q ∷ r) aw p e d f hg hp = absurd (cc)
act-holds ends k ps ih o g r aw p e d f hg hp =
    map-holds o o ps (g ++ (r ++ p ∷ ps)) (map_first (leaf g r (p ∷ []))) (k o [] [] [])
    (λ s a l. let h : AreRest o (map_first (leaf g r (p ∷ [])) s) × (line_rest (map_first (leaf g r (p ∷ [])) s) ≡ (g ++ (r ++ p ∷ [])) ++ line_rest s)
    = first-holds o (leaf g r (p ∷ [])) (g ++ (r ++ p ∷ [])) (λ x y z. (hg, run-of r aw hp d.0 d.2, allowed-of r f, d.1, z)) (leaf-line g r p) s a in
    (h.0, h.1 ∙ rw l (simp append_assoc)))
    (ih o [] [] [] tt refl)
act-holds closes k ps ih [] g r aw p e d f hg hp = absurd (some-none (first-none (unknown r) _ f).1)
act-holds closes k ps ih (x ∷ o) g r aw p e d f hg hp =
    map-holds o (x ∷ o) ps (g ++ (r ++ p ∷ ps)) (closed_with (last_nodes g r) p) (k o [] [] [])
    (λ s a l. ((last-nodes (suc (length o)) g r hg (subst (λ z. Pending r z) d.0 hp) (first-none _ _ f).0, d.1, a), shut-line g r p ps s l))
    (ih o [] [] [] tt refl)
act-holds opens k ps ih o g r aw p e d f hg hp =
    map-holds (p ∷ o) o ps (g ++ (r ++ p ∷ ps)) (enclose g r p) (k (p ∷ o) [] [] [])
    (λ s a l. let h : AreRest o (enclose g r p s) × (line_rest (enclose g r p s) ≡ g ++ (r ++ p ∷ line_rest s))
    = enclose-holds o g r p (λ k' f' a' b' c' y z w. (hg, prelude-of r aw hp d.0 d.2, d.1, deep-none o p f, y, z, w)) s a in
    (h.0, h.1 ∙ ap (λ z. g ++ (r ++ p ∷ z)) l))
    (ih (p ∷ o) [] [] [] tt refl)

end-holds : (lex : Option Fault) (o g r aw : List Lexeme) → end_fault lex (state o aw r) ≡ None → Each is_gap g → Pending r aw
    → Holds o (g ++ (r ++ [])) (ok (finish_with (last_nodes g r)))
unfolding line_rest
end-holds (Some f) o g r aw e hg hp = absurd (cc)
end-holds None (x ∷ o) g r aw e hg hp = absurd (some-none (first-none (unknown r) _ (first-none (unclosed_awaited aw) _ e).1).1)
end-holds None [] g r (q ∷ aw) e hg hp = absurd (cc)
end-holds None [] g r [] e hg hp =
    (last-nodes 0 g r hg hp (first-none _ _ e).0, last-line g r ∙ ap (λ z. g ++ z) (sym (append-nil r)))

-- what the reader gives is of these pieces, by the definition
pub sound : (ps : List Lexeme) (lex : Option Fault) (o g r aw : List Lexeme) → Each is_gap g → Pending r aw → Holds o (g ++ (r ++ ps)) (outcome ps lex o g r aw)
unfolding outcome
sound [] lex o g r aw hg hp = checked-holds o _ (end_fault lex (state o aw r)) _ (λ e. end-holds lex o g r aw e hg hp)
sound (p ∷ ps) lex o g r aw hg hp =
    checked-holds o _ (fits_by o r p (turn r aw p)) _
    (λ e. act-holds (turn r aw p) (λ o' g' r' aw'. outcome ps lex o' g' r' aw') ps (sound ps lex) o g r aw p refl (told r aw p (nothing-awaited r aw hp)) e hg hp)
