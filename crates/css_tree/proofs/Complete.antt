-- A list of nodes by the definition is what the reader gives: so a text has one reading, and the reader finds it.
use Rattle.std.proofs.Common.{◌≡◌, ℕ, List, [], ◌∷◌, ◌++◌, Option, Some, None, true, length, refl, ◌∙◌, sym, ap, subst, append_assoc, append-nil}
use Rattle.css_tree.specs.Pieces.{Lexeme, Shape, shape, is_blank, is_blank_shape}
use Rattle.css_tree.specs.Turn.{Turn, within, gap, alone, ends, closes, opens, turn, idle, is_allowed}
use Rattle.css_tree.specs.Fault.{Fault, fits_by, outer, nameless_by, unknown}
use Rattle.css_tree.specs.Nodes.{Nodes, none, comment, leaf, block, go_on, awaited_after, is_gap_shape, is_gap, is_space, is_space_shape, line, AreNodes, IsRun, IsPrelude, OnlyBlanks, begins_shape}
use Rattle.css_tree.specs.Classes.{Each}
use Rattle.css_tree.proofs.Split.{solid, solid_by, tail, keep}
use Rattle.css_tree.proofs.Reader.{Group, settle, last_nodes, closed, Outcome, fails, ok, map_ok, map_first, enclose, finish_with, closed_with, act, outcome}
use Rattle.css_tree.proofs.Runs.{ends-solid, each-append, turn-blank, solid-tail, allowed-trailing}

-- one piece, where no row fits
step : (p : Lexeme) (ps : List Lexeme) (lex : Option Fault) (o g r aw : List Lexeme) (t : Turn) → turn r aw p ≡ t → fits_by o r p t ≡ None
    → outcome (p ∷ ps) lex o g r aw ≡ act t (λ o' g' r' aw'. outcome ps lex o' g' r' aw') o g r p
unfolding outcome
step p ps lex o g r aw t e f = rw (e, f)

-- A gap.

gap-turn : (p : Lexeme) → is_gap p ≡ true → turn [] [] p ≡ gap
unfolding turn
gap-turn p e = by_shape (shape p) e
  where
    by_shape : (s : Shape) → is_gap_shape s ≡ true → idle p s ≡ gap
    by_shape Shape.space e = refl
    by_shape Shape.semicolon e = refl
    by_shape _ e = absurd (cc)

gaps : (b rest : List Lexeme) (lex : Option Fault) (o g : List Lexeme) → Each is_gap b → outcome (b ++ rest) lex o g [] [] ≡ outcome rest lex o (g ++ b) [] []
gaps [] rest lex o g h = rw (append-nil g)
gaps (p ∷ b) rest lex o g h =
    step p (b ++ rest) lex o g [] [] gap (gap-turn p h.0) refl
    ∙ (gaps b rest lex o (g ++ p ∷ []) h.1 ∙ ap (λ z. outcome rest lex o z [] []) (append_assoc g (p ∷ []) b))

-- A run.

go_on-go : (t : Turn) (k : List Lexeme → Option (List Lexeme)) (aw : List Lexeme) → go_on t k ≡ Some aw → (a : List Lexeme) × (t ≡ within a) × (k a ≡ Some aw)
go_on-go (within a) k aw e = (a, refl, e)
go_on-go gap k aw e = absurd (cc)
go_on-go alone k aw e = absurd (cc)
go_on-go ends k aw e = absurd (cc)
go_on-go closes k aw e = absurd (cc)
go_on-go opens k aw e = absurd (cc)

some-same : {a b : List Lexeme} → Some a ≡ Some b → a ≡ b
some-same e = cc

run-more : (x rest : List Lexeme) (lex : Option Fault) (o g : List Lexeme) (c : Lexeme) (cs aw aw' : List Lexeme)
    → awaited_after (c ∷ cs) aw x ≡ Some aw' → outcome (x ++ rest) lex o g (c ∷ cs) aw ≡ outcome rest lex o g (c ∷ (cs ++ x)) aw'
unfolding awaited_after
run-more [] rest lex o g c cs aw aw' e = rw (append-nil cs, some-same e)
run-more (p ∷ x) rest lex o g c cs aw aw' e =
    let h : (a : List Lexeme) × (turn (c ∷ cs) aw p ≡ within a) × (awaited_after (c ∷ (cs ++ p ∷ [])) a x ≡ Some aw') = go_on-go (turn (c ∷ cs) aw p) _ aw' e in
    step p (x ++ rest) lex o g (c ∷ cs) aw (within h.0) h.1 refl
    ∙ (run-more x rest lex o g c (cs ++ p ∷ []) h.0 aw' h.2 ∙ ap (λ z. outcome rest lex o g (c ∷ z) aw') (append_assoc cs (p ∷ []) x))

begins-named : (p : Lexeme) (s : Shape) → begins_shape s ≡ true → nameless_by s p ≡ None
begins-named p Shape.bare_at e = absurd (cc)
begins-named p _ e = refl

run : (r rest : List Lexeme) (lex : Option Fault) (o g : List Lexeme) → IsRun r → outcome (r ++ rest) lex o g [] [] ≡ outcome rest lex o g r []
unfolding awaited_after
run [] rest lex o g h = absurd h
run (p ∷ x) rest lex o g h =
    let t : (a : List Lexeme) × (turn [] [] p ≡ within a) × (awaited_after (p ∷ []) a x ≡ Some []) = go_on-go (turn [] [] p) _ [] h.1 in
    step p (x ++ rest) lex o g [] [] (within t.0) t.1 (begins-named p (shape p) h.0)
    ∙ run-more x rest lex o g p [] t.0 [] t.2

blanks : (x rest : List Lexeme) (lex : Option Fault) (o g : List Lexeme) (c : Lexeme) (cs : List Lexeme)
    → Each is_blank x → outcome (x ++ rest) lex o g (c ∷ cs) [] ≡ outcome rest lex o g (c ∷ (cs ++ x)) []
blanks [] rest lex o g c cs h = rw (append-nil cs)
blanks (p ∷ x) rest lex o g c cs h =
    step p (x ++ rest) lex o g (c ∷ cs) [] (within []) (turn-blank c cs [] p h.0) refl
    ∙ (blanks x rest lex o g c (cs ++ p ∷ []) h.1 ∙ ap (λ z. outcome rest lex o g (c ∷ z) []) (append_assoc cs (p ∷ []) x))

-- The end of a container.

pub data Ending : Type 0 where
  at_end : Ending
  at_close : Lexeme → List Lexeme → Ending

abbrev pub text : Ending → List Lexeme
text at_end = []
text (at_close c ps) = c ∷ ps

abbrev pub CanEnd : Ending → Option Fault → List Lexeme → Type 0
CanEnd at_end (Some f) o = ⊥
CanEnd at_end None [] = Unit {0}
CanEnd at_end None (x ∷ o) = ⊥
CanEnd (at_close c ps) lex [] = ⊥
CanEnd (at_close c ps) lex (x ∷ o) = shape c ≡ Shape.brace_close

abbrev pub comes_to : Ending → Option Fault → List Lexeme → Group → Outcome
comes_to at_end lex o q = ok (finish_with q)
comes_to (at_close c ps) lex o q = map_ok (closed_with q c) (outcome ps lex (outer o) [] [] [])

shut-turn : (r : List Lexeme) (c : Lexeme) → shape c ≡ Shape.brace_close → turn r [] c ≡ closes
unfolding turn
shut-turn [] c e = rw e
shut-turn (q ∷ r) c e = rw e

comes_to_end : (e : Ending) (lex : Option Fault) (o g r : List Lexeme) → CanEnd e lex o → unknown r ≡ None
    → outcome (text e) lex o g r [] ≡ comes_to e lex o (last_nodes g r)
unfolding outcome
comes_to_end at_end (Some f) o g r h u = absurd h
comes_to_end at_end None [] g r h u = rw u
comes_to_end at_end None (x ∷ o) g r h u = absurd h
comes_to_end (at_close c ps) lex [] g r h u = absurd h
comes_to_end (at_close c ps) lex (x ∷ o) g r h u = step c ps lex (x ∷ o) g r [] closes (shut-turn r c h) (rw u)

-- a node at the front
front : (e : Ending) (lex : Option Fault) (o : List Lexeme) (h : Nodes → Nodes) (f : Nodes) (a : List Lexeme)
    → map_ok (map_first h) (comes_to e lex o (record { nodes = f; behind = a })) ≡ comes_to e lex o (record { nodes = h f; behind = a })
front at_end lex o h f a = refl
front (at_close c ps) lex o h f a = by_outcome (outcome ps lex (outer o) [] [] [])
  where
    by_outcome : (x : Outcome) → map_ok (map_first h) (map_ok (closed f a c) x) ≡ map_ok (closed (h f) a c) x
    by_outcome (fails y) = refl
    by_outcome (ok y) = refl

enclosing : (e : Ending) (lex : Option Fault) (o g r : List Lexeme) (p : Lexeme) (k : Nodes) (b : List Lexeme) (c : Lexeme) (f : Nodes) (a : List Lexeme)
    → map_ok (enclose g r p) (map_ok (closed k b c) (comes_to e lex o (record { nodes = f; behind = a })))
    ≡ comes_to e lex o (record { nodes = block g r p k b c f; behind = a })
enclosing at_end lex o g r p k b c f a = refl
enclosing (at_close d ps) lex o g r p k b c f a = by_outcome (outcome ps lex (outer o) [] [] [])
  where
    by_outcome : (x : Outcome) → map_ok (enclose g r p) (map_ok (closed k b c) (map_ok (closed f a d) x)) ≡ map_ok (closed (block g r p k b c f) a d) x
    by_outcome (fails y) = refl
    by_outcome (ok y) = refl

-- Blanks that are given back.

space-blank : (s : Shape) → is_space_shape s ≡ true → is_blank_shape s ≡ true
space-blank Shape.space e = refl
space-blank _ e = absurd (cc)

spaces-blank : (b : List Lexeme) → Each is_space b → Each is_blank b
unfolding is_blank
spaces-blank [] h = tt
spaces-blank (p ∷ b) h = (space-blank (shape p) h.0, spaces-blank b h.1)

back-blank : (n : ℕ) (f : Nodes) (a : List Lexeme) → AreNodes n f a → OnlyBlanks f a → Each is_blank (line f ++ a)
unfolding line is_blank
back-blank n none a g h = spaces-blank a h
back-blank n (comment b p f) a g h =
    rw (append_assoc b (p ∷ line f) a) (each-append is_blank b (p ∷ (line f ++ a)) (spaces-blank b h.0) (rw g.1 refl, back-blank n f a g.2 h.1))
back-blank n (leaf b r e f) a g h = absurd h
back-blank n (block b r o k a' c f) a g h = absurd h

is-space : (s : Shape) → is_space_shape s ≡ true → s ≡ Shape.space
is-space Shape.space e = refl
is-space _ e = absurd (cc)

settle-spaces : (b rest g : List Lexeme) → Each is_space b → settle g (b ++ rest) ≡ settle (g ++ b) rest
unfolding settle
settle-spaces [] rest g h = rw (append-nil g)
settle-spaces (p ∷ b) rest g h =
    rw (is-space (shape p) h.0) (settle-spaces b rest (g ++ p ∷ []) h.1 ∙ ap (λ z. settle z rest) (append_assoc g (p ∷ []) b))

settle-back : (n : ℕ) (f : Nodes) (a : List Lexeme) → AreNodes n f a → OnlyBlanks f a → settle [] (line f ++ a) ≡ record { nodes = f; behind = a }
unfolding settle line
settle-back n none a g h = ap (λ z. settle [] z) (sym (append-nil a)) ∙ settle-spaces a [] [] h
settle-back n (comment b p f) a g h =
    ap (λ z. settle [] z) (append_assoc b (p ∷ line f) a) ∙ (settle-spaces b (p ∷ (line f ++ a)) [] h.0
    ∙ rw (g.1, settle-back n f a g.2 h.1))
settle-back n (leaf b r e f) a g h = absurd h
settle-back n (block b r o k a' c f) a g h = absurd h

solid-blank : (x : List Lexeme) → Each is_blank x → solid x ≡ []
unfolding solid_by
solid-blank [] h = refl
solid-blank (p ∷ x) h = rw (solid-blank x h.1, h.0)

pub solid-more : (r x : List Lexeme) → Each is_blank x → solid (r ++ x) ≡ solid r
unfolding solid_by
solid-more [] x h = solid-blank x h
solid-more (p ∷ r) x h = ap (λ z. keep (is_blank p) p z) (solid-more r x h)

tail-inj : (p q : Lexeme) (a b : List Lexeme) → ◌≡◌ {A = List Lexeme} (p ∷ a) (q ∷ b) → a ≡ b
tail-inj p q a b e = cc

pub cancel : (r a b : List Lexeme) → r ++ a ≡ r ++ b → a ≡ b
cancel [] a b e = e
cancel (p ∷ r) a b e = cancel r a b (tail-inj p p (r ++ a) (r ++ b) e)

pub tail-more : (r x : List Lexeme) → Each is_blank x → solid r ≡ r → tail (r ++ x) ≡ x
tail-more r x h s = cancel r (tail (r ++ x)) x (ap (λ z. z ++ tail (r ++ x)) (sym (solid-more r x h ∙ s)) ∙ solid-tail (r ++ x))

-- a leaf with no `;` and the blanks behind it
last-back : (g r x : List Lexeme) (n : ℕ) (f : Nodes) (a : List Lexeme) → IsRun r → solid r ≡ r → AreNodes n f a → OnlyBlanks f a → x ≡ line f ++ a
    → last_nodes g (r ++ x) ≡ record { nodes = leaf g r [] f; behind = a }
last-back g [] x n f a run s h b e = absurd run
last-back g (q ∷ r) x n f a run s h b e =
    let bl : Each is_blank x = subst (λ z. Each is_blank z) (sym e) (back-blank n f a h b) in
    let st : settle [] (tail (q ∷ (r ++ x))) ≡ record { nodes = f; behind = a } = ap (λ z. settle [] z) (tail-more (q ∷ r) x bl s ∙ e) ∙ settle-back n f a h b in
    rw (solid-more (q ∷ r) x bl, s, st)

-- The turns at a run's end.

semi-turn : (q : Lexeme) (r : List Lexeme) (p : Lexeme) → shape p ≡ Shape.semicolon → turn (q ∷ r) [] p ≡ ends
unfolding turn
semi-turn q r p e = rw e

into-turn : (r : List Lexeme) (p : Lexeme) → IsPrelude r → shape p ≡ Shape.brace_open → turn r [] p ≡ opens
unfolding turn
into-turn [] p h e = rw e
into-turn (q ∷ r) p h e = rw (e, h.1)

note-turn : (p : Lexeme) → shape p ≡ Shape.comment → turn [] [] p ≡ alone
unfolding turn
note-turn p e = rw e

unknown-allowed : (r : List Lexeme) → is_allowed r ≡ true → unknown r ≡ None
unknown-allowed [] e = refl
unknown-allowed (q ∷ r) e = rw e

prelude-run : (r rest : List Lexeme) (lex : Option Fault) (o g : List Lexeme) → IsPrelude r → outcome (r ++ rest) lex o g [] [] ≡ outcome rest lex o g r []
prelude-run [] rest lex o g h = refl
prelude-run (q ∷ r) rest lex o g h = run (q ∷ r) rest lex o g h.0

-- the reader gives these nodes back
pub complete : (f : Nodes) (a : List Lexeme) (e : Ending) (lex : Option Fault) (o : List Lexeme) → CanEnd e lex o → AreNodes (length o) f a
    → outcome (line f ++ (a ++ text e)) lex o [] [] [] ≡ comes_to e lex o (record { nodes = f; behind = a })
unfolding line
complete none a e lex o c h = gaps a (text e) lex o [] h ∙ comes_to_end e lex o a [] c refl
complete (comment b p f) a e lex o c h =
    let s : List Lexeme = line f ++ (a ++ text e) in
    ap (λ z. outcome z lex o [] [] []) (append_assoc b (p ∷ line f) (a ++ text e))
    ∙ (gaps b (p ∷ s) lex o [] h.0
    ∙ (step p s lex o b [] [] alone (note-turn p h.1) refl
    ∙ (ap (λ z. map_ok (map_first (comment b p)) z) (complete f a e lex o c h.2)
    ∙ front e lex o (comment b p) f a)))
complete (leaf b [] y f) a e lex o c h = absurd h.1
complete (leaf b (q ∷ r) [] f) a e lex o c h =
    let x : List Lexeme = line f ++ a in
    ap (λ z. outcome z lex o [] [] []) (append_assoc b ((q ∷ r) ++ line f) (a ++ text e) ∙ ap (λ z. b ++ z) (append_assoc (q ∷ r) (line f) (a ++ text e) ∙ ap (λ z. (q ∷ r) ++ z) (sym (append_assoc (line f) a (text e)))))
    ∙ (gaps b ((q ∷ r) ++ (x ++ text e)) lex o [] h.0
    ∙ (run (q ∷ r) (x ++ text e) lex o b h.1
    ∙ (blanks x (text e) lex o b q r (back-blank (length o) f a h.4 h.3.1)
    ∙ (comes_to_end e lex o b (q ∷ (r ++ x)) c (unknown-allowed (q ∷ (r ++ x)) (allowed-trailing q r x (back-blank (length o) f a h.4 h.3.1) ∙ h.2))
    ∙ ap (λ z. comes_to e lex o z) (last-back b (q ∷ r) x (length o) f a h.1 (ends-solid (q ∷ r) h.3.0) h.4 h.3.1 refl)))))
complete (leaf b (q ∷ r) (p ∷ []) f) a e lex o c h =
    let s : List Lexeme = line f ++ (a ++ text e) in
    ap (λ z. outcome z lex o [] [] []) (simp append_assoc)
    ∙ (gaps b ((q ∷ r) ++ (p ∷ s)) lex o [] h.0
    ∙ (run (q ∷ r) (p ∷ s) lex o b h.1
    ∙ (step p s lex o b (q ∷ r) [] ends (semi-turn q r p h.3) (unknown-allowed (q ∷ r) h.2)
    ∙ (ap (λ z. map_ok (map_first (leaf b (q ∷ r) (p ∷ []))) z) (complete f a e lex o c h.4)
    ∙ front e lex o (leaf b (q ∷ r) (p ∷ [])) f a))))
complete (leaf b (q ∷ r) (p ∷ p' ∷ y) f) a e lex o c h = absurd h.3
complete (block b r p k a' d f) a e lex o c h =
    let s : List Lexeme = line f ++ (a ++ text e) in
    ap (λ z. outcome z lex o [] [] []) (simp append_assoc)
    ∙ (gaps b (r ++ (p ∷ (line k ++ (a' ++ d ∷ s)))) lex o [] h.0
    ∙ (prelude-run r (p ∷ (line k ++ (a' ++ d ∷ s))) lex o b h.1
    ∙ (step p (line k ++ (a' ++ d ∷ s)) lex o b r [] opens (into-turn r p h.1 h.2) (rw h.3 refl)
    ∙ (ap (λ z. map_ok (enclose b r p) z) (complete k a' (at_close d s) lex (p ∷ o) h.5 h.4
    ∙ ap (λ z. map_ok (closed k a' d) z) (complete f a e lex o c h.6))
    ∙ enclosing e lex o b r p k a' d f a))))
