-- Each part leads the reader from where it stands before the part to where it stands after it.
use Rattle.std.proofs.Common.{◌≡◌, ℕ, suc, ◌<◌, Bool, true, false, cond, eqb, List, [], ◌∷◌, ◌++◌, drop, Option, Some, None, refl, ap, sym, ◌∙◌, subst, inl, inr, append-nil, append_assoc}
use Rattle.std.specs.Prelude.{◌&&◌}
use Rattle.std.specs.Option.{is_some}
use Rattle.std.proofs.lemmas.Bool.{agree_below_at, cases_lt, and_parts, false≢true, true≢false}
use Rattle.css_text.specs.Characters.{is_space}
use Rattle.selector_parse.specs.declared.phase.Phase.{Phase}
use Rattle.selector_parse.specs.declared.phase.Phase.TheVariants.{Fresh, Open, Inside, Commented, Trailing}
use Rattle.selector_parse.specs.declared.reading.Gap.{Gap}
use Rattle.selector_parse.specs.declared.reading.Gap.TheVariants.{One, Comments, Spaced, Symbol}
use Rattle.selector_parse.specs.declared.reading.Reading.{Reading}
use Rattle.selector_parse.specs.declared.reading.Reading.TheVariants.{First, Next, ElementName, ElementEscape, Star, Bar, Colon, NameFirst, Name, NameEscape, Done, Text, TextEscape, Quoted, QuotedEscape, Blank, Slash, Note, NoteStar}
use Rattle.selector_parse.specs.Reading.{first, next, before_symbol, step, on, or_on, read, is_final, scan_len, scan_last}
use Rattle.selector_parse.specs.Tree.{GapKind, blank as blank_gap, comment, combinator}
use Rattle.selector_parse.specs.Phases.{gap_read, gap_of, is_blanks, is_done, is_comment, is_some_text, if_so, combinator_next, comment_next, starts, gap_next}
use Rattle.selector_parse.specs.Row.{takes_gap}
use Rattle.selector_parse.specs.Machine.{Place, at_start, in_gap, in_simple, in_text, Stand, or_else, pop, enders, begin, begin_gap, opener, closer, gap_end, simple_end, open_args, move, follow, Stuck, after_run, text_stops, Matches, Calm}
use Rattle.selector_parse.proofs.High.{step-past}

-- no character that begins a simple selector goes on in blanks
first_blank : (c : ℕ) → c < 128 → (is_some (first c) && is_some (before_symbol Comments c)) ≡ false
unfolding is_space
first_blank c l = agree_below_at (λ b. is_some (first b) && is_some (before_symbol Comments b)) (λ b. false) 128 c refl l

next_blank : (c : ℕ) → c < 128 → (is_some (next c) && is_some (before_symbol Comments c)) ≡ false
unfolding is_space
next_blank c l = agree_below_at (λ b. is_some (next b) && is_some (before_symbol Comments b)) (λ b. false) 128 c refl l

pub apart : (o p : Option Reading) (q : Reading) → (is_some o && is_some p) ≡ false → o ≡ Some q → p ≡ None
apart o None q e f = refl
apart o (Some r) q e f = absurd (true≢false (ap (λ x. is_some x && true) (sym f) ∙ e))

pub begins_first : (c : ℕ) (q : Reading) → step First c ≡ Some q → step (Blank Comments) c ≡ None
unfolding step
begins_first c q e = elim (cases_lt c 128) [
  | inl l ↦ apart (first c) (before_symbol Comments c) q (first_blank c l) e
  | inr h ↦ step-past c h (Blank Comments)
]

pub begins_next : (c : ℕ) (q : Reading) → step Next c ≡ Some q → step (Blank Comments) c ≡ None
unfolding step
begins_next c q e = elim (cases_lt c 128) [
  | inl l ↦ apart (next c) (before_symbol Comments c) q (next_blank c l) e
  | inr h ↦ step-past c h (Blank Comments)
]

-- the first character of what has been read
pub some_same : {A : Type 0} (a b : A) → Some a ≡ Some b → a ≡ b
some_same a b e = cc

head_go : (q p : Reading) (c : ℕ) (cs : List ℕ) (o : Option Reading) → step q c ≡ o → on o (λ r. read r cs) ≡ Some p → (r : Reading) × ((step q c ≡ Some r) × (read r cs ≡ Some p))
head_go q p c cs None e f = cc
head_go q p c cs (Some r) e f = (r, (e, f))

pub read_head : (q p : Reading) (c : ℕ) (cs : List ℕ) → read q (c ∷ cs) ≡ Some p → (r : Reading) × ((step q c ≡ Some r) × (read r cs ≡ Some p))
read_head q p c cs e = head_go q p c cs (step q c) refl e

pub moved : (d : ℕ) (m : Place) (c : ℕ) (cs : List ℕ) (s : Stand) → move d m c ≡ Some s → follow d m (c ∷ cs) ≡ follow s.0 s.1 cs
moved d m c cs s e = ap (λ o. on o (λ s. follow s.0 s.1 cs)) e

follow_go : (d : ℕ) (m : Place) (c : ℕ) (cs : List ℕ) (s : Stand) (o : Option Stand) → move d m c ≡ o → on o (λ s. follow s.0 s.1 cs) ≡ Some s → (n : Stand) × ((move d m c ≡ Some n) × (follow n.0 n.1 cs ≡ Some s))
follow_go d m c cs s None e f = cc
follow_go d m c cs s (Some n) e f = (n, (e, f))

pub follow_head : (d : ℕ) (m : Place) (c : ℕ) (cs : List ℕ) (s : Stand) → follow d m (c ∷ cs) ≡ Some s → (n : Stand) × ((move d m c ≡ Some n) × (follow n.0 n.1 cs ≡ Some s))
follow_head d m c cs s e = follow_go d m c cs s (move d m c) refl e

-- a text, and another after it
pub follow-append : (d : ℕ) (m : Place) (xs ys : List ℕ) (s : Stand) → follow d m xs ≡ Some s → follow d m (xs ++ ys) ≡ follow s.0 s.1 ys
follow-append d m [] ys s e = let f : ◌≡◌ {A = Stand} (d, m) s = some_same (d, m) s e in ap (λ s. follow s.0 s.1 ys) f
follow-append d m (c ∷ cs) ys s e = let h = follow_head d m c cs s e in moved d m c (cs ++ ys) h.0 h.1.0 ∙ follow-append h.0.0 h.0.1 cs ys s h.1.1

-- within one part
simple_move : (d : ℕ) (q r : Reading) (t : List ℕ) (c : ℕ) → step q c ≡ Some r → move d (in_simple q t) c ≡ Some (d, in_simple r (t ++ c ∷ []))
simple_move d q r t c e = ap (λ o. or_else (on o (λ p. Some (d, in_simple p (t ++ c ∷ [])))) (cond (is_final q) (simple_end d t c) None)) e

pub follow_simple : (d : ℕ) (q p : Reading) (t cs : List ℕ) → read q cs ≡ Some p → follow d (in_simple q t) cs ≡ Some (d, in_simple p (t ++ cs))
follow_simple d q p t [] e = ap (λ r. Some (d, r)) (ap (λ q. in_simple q t) (some_same q p e) ∙ ap (in_simple p) (sym (append-nil t)))
follow_simple d q p t (c ∷ cs) e = let h = read_head q p c cs e in
    moved d (in_simple q t) c cs (d, in_simple h.0 (t ++ c ∷ [])) (simple_move d q h.0 t c h.1.0) ∙ follow_simple d h.0 p (t ++ c ∷ []) cs h.1.1 ∙ ap (λ x. Some (d, in_simple p x)) (append_assoc t (c ∷ []) cs)

gap_move : (d : ℕ) (l f : Bool) (q r : Reading) (c : ℕ) → step q c ≡ Some r → move d (in_gap l f q) c ≡ Some (d, in_gap l f r)
gap_move d l f q r c e = ap (λ o. or_else (on o (λ p. Some (d, in_gap l f p))) (gap_end l f (gap_read (Some q)) d c)) e

pub follow_gap : (d : ℕ) (l f : Bool) (q p : Reading) (cs : List ℕ) → read q cs ≡ Some p → follow d (in_gap l f q) cs ≡ Some (d, in_gap l f p)
follow_gap d l f q p [] e = ap (λ r. Some (d, in_gap l f r)) (some_same q p e)
follow_gap d l f q p (c ∷ cs) e = let h = read_head q p c cs e in moved d (in_gap l f q) c cs (d, in_gap l f h.0) (gap_move d l f q h.0 c h.1.0) ∙ follow_gap d l f h.0 p cs h.1.1

text_move : (d : ℕ) (q r : Reading) (c : ℕ) → step q c ≡ Some r → move d (in_text q) c ≡ Some (d, in_text r)
text_move d q r c e = ap (λ o. or_else (on o (λ p. Some (d, in_text p))) (cond (is_final q && eqb c 41) (Some (d, in_simple Done [])) None)) e

pub follow_text : (d : ℕ) (q p : Reading) (cs : List ℕ) → read q cs ≡ Some p → follow d (in_text q) cs ≡ Some (d, in_text p)
follow_text d q p [] e = ap (λ r. Some (d, in_text r)) (some_same q p e)
follow_text d q p (c ∷ cs) e = let h = read_head q p c cs e in moved d (in_text q) c cs (d, in_text h.0) (text_move d q h.0 c h.1.0) ∙ follow_text d h.0 p cs h.1.1

-- how a simple selector begins
begun : (d c : ℕ) (q r : Reading) → step q c ≡ Some r → begin q d c ≡ Some (d, in_simple r (c ∷ []))
begun d c q r e = ap (λ o. on o (λ p. Some (d, in_simple p (c ∷ [])))) e

pub gap_begun : (l f : Bool) (d c : ℕ) (r : Reading) → step (Blank Comments) c ≡ Some r → begin_gap l f d c ≡ Some (d, in_gap l f r)
gap_begun l f d c r e = ap (λ o. on o (λ p. Some (d, in_gap l f p))) e

no_gap : (l f : Bool) (d c : ℕ) → step (Blank Comments) c ≡ None → begin_gap l f d c ≡ None
no_gap l f d c e = ap (λ o. on o (λ p. Some (d, in_gap l f p))) e

-- after a gap that ends before the character
pub after_gap_end : (d : ℕ) (l f : Bool) (q : Reading) (g : Gap) (c : ℕ) → step q c ≡ None → gap_read (Some q) ≡ Some g → move d (in_gap l f q) c ≡ gap_end l f (Some g) d c
after_gap_end d l f q g c e r = ap (λ o. or_else (on o (λ p. Some (d, in_gap l f p))) (gap_end l f (gap_read (Some q)) d c)) e ∙ ap (λ o. gap_end l f o d c) r

after_gap : (d : ℕ) (l f : Bool) (q : Reading) (g : Gap) (c : ℕ) (s : Stand) → step q c ≡ None → gap_read (Some q) ≡ Some g → begin (opener l g) d c ≡ Some s → move d (in_gap l f q) c ≡ Some s
after_gap d l f q g c s e r b = ap (λ o. or_else (on o (λ p. Some (d, in_gap l f p))) (gap_end l f (gap_read (Some q)) d c)) e
    ∙ ap (λ o. gap_end l f o d c) r ∙ ap (λ o. or_else o (closer l f g d c)) b

-- after a simple selector that ends before the character
pub after_simple : (d : ℕ) (q : Reading) (t : List ℕ) (c : ℕ) → step q c ≡ None → is_final q ≡ true → move d (in_simple q t) c ≡ simple_end d t c
after_simple d q t c e f = ap (λ o. or_else (on o (λ p. Some (d, in_simple p (t ++ c ∷ [])))) (cond (is_final q) (simple_end d t c) None)) e ∙ ap (λ b. cond b (simple_end d t c) None) f

-- a simple selector begins where one may
pub simple_begins : (d : ℕ) (p : Phase) (m : Place) (q0 r : Reading) (c : ℕ) (s : List ℕ) → Matches p m → Calm d p m (c ∷ s) → starts p ≡ Some q0 → step q0 c ≡ Some r → move d m c ≡ Some (d, in_simple r (c ∷ []))
simple_begins d Fresh (at_start f) q0 r c s m k h e =
    let e1 : step First c ≡ Some r = ap (λ q. step q c) (some_same First q0 h) ∙ e in
    ap (λ o. or_else o (or_else (begin First d c) (cond (f && eqb c 41) (pop d) None))) (no_gap true f d c (begins_first c r e1)) ∙ ap (λ o. or_else o (cond (f && eqb c 41) (pop d) None)) (begun d c First r e1)
simple_begins d Open (in_gap l f q) q0 r c s m k h e =
    after_gap d l f q m.0 c (d, in_simple r (c ∷ [])) k.0 m.1.0 (ap (λ q. begin q d c) (m.1.1 ∙ some_same First q0 h) ∙ begun d c q0 r e)
simple_begins d Inside (in_simple q t) q0 r c s m k h e =
    let e1 : step Next c ≡ Some r = ap (λ q. step q c) (some_same Next q0 h) ∙ e in
    after_simple d q t c k.0 m ∙ ap (λ o. or_else o (or_else (begin Next d c) (cond (eqb c 40) (open_args d t) (enders d c)))) (no_gap false false d c (begins_next c r e1))
    ∙ ap (λ o. or_else o (cond (eqb c 40) (open_args d t) (enders d c))) (begun d c Next r e1)
simple_begins d Commented (in_gap false f q) q0 r c s m k h e =
    let e1 : step Next c ≡ Some r = ap (λ q. step q c) (some_same Next q0 h) ∙ e in
    after_gap d false f q Comments c (d, in_simple r (c ∷ [])) (ap (λ q. step q c) m ∙ begins_next c r e1) (ap (λ q. gap_read (Some q)) m) (begun d c Next r e1)
simple_begins d Fresh (in_gap l f q) q0 r c s m k h e = absurd m
simple_begins d Fresh (in_simple q t) q0 r c s m k h e = absurd m
simple_begins d Fresh (in_text q) q0 r c s m k h e = absurd m
simple_begins d Open (at_start f) q0 r c s m k h e = absurd m
simple_begins d Open (in_simple q t) q0 r c s m k h e = absurd m
simple_begins d Open (in_text q) q0 r c s m k h e = absurd m
simple_begins d Inside (at_start f) q0 r c s m k h e = absurd m
simple_begins d Inside (in_gap l f q) q0 r c s m k h e = absurd m
simple_begins d Inside (in_text q) q0 r c s m k h e = absurd m
simple_begins d Commented (at_start f) q0 r c s m k h e = absurd m
simple_begins d Commented (in_gap true f q) q0 r c s m k h e = absurd m
simple_begins d Commented (in_simple q t) q0 r c s m k h e = absurd m
simple_begins d Commented (in_text q) q0 r c s m k h e = absurd m
simple_begins d Trailing m q0 r c s w k h e = cc

pub starts_open : (p : Phase) (q : Reading) → starts p ≡ Some q → is_final q ≡ true → ⊥
starts_open Fresh q h f = false≢true (ap is_final (some_same First q h) ∙ f)
starts_open Open q h f = false≢true (ap is_final (some_same First q h) ∙ f)
starts_open Inside q h f = false≢true (ap is_final (some_same Next q h) ∙ f)
starts_open Commented q h f = false≢true (ap is_final (some_same Next q h) ∙ f)
starts_open Trailing q h f = cc

-- a simple selector that has some text
pub simple_start : (d : ℕ) (p : Phase) (m : Place) (q0 last : Reading) (c : ℕ) (t y : List ℕ) → Matches p m → Calm d p m ((c ∷ t) ++ y) → starts p ≡ Some q0 → read q0 (c ∷ t) ≡ Some last → follow d m (c ∷ t) ≡ Some (d, in_simple last (c ∷ t))
simple_start d p m q0 last c t y w k h e = let r = read_head q0 last c t e in
    moved d m c t (d, in_simple r.0 (c ∷ [])) (simple_begins d p m q0 r.0 c (t ++ y) w k h r.1.0) ∙ follow_simple d r.0 last (c ∷ []) t r.1.1

pub simple_moves : (d : ℕ) (p : Phase) (m : Place) (q0 last : Reading) (t y : List ℕ) → Matches p m → Calm d p m (t ++ y) → starts p ≡ Some q0 → read q0 t ≡ Some last → is_final last ≡ true
    → follow d m t ≡ Some (d, in_simple last t)
simple_moves d p m q0 last [] y w k h e f = absurd (starts_open p q0 h (ap is_final (some_same q0 last e) ∙ f))
simple_moves d p m q0 last (c ∷ t) y w k h e f = let r = read_head q0 last c t e in
    moved d m c t (d, in_simple r.0 (c ∷ [])) (simple_begins d p m q0 r.0 c (t ++ y) w k h r.1.0) ∙ follow_simple d r.0 last (c ∷ []) t r.1.1

-- a gap
abbrev pub leads : Phase → Bool
leads Fresh = true
leads p = false

firsts : Place → Bool
firsts (at_start f) = f
firsts m = false

pub gap_begins : (d : ℕ) (m : Place) (r : Reading) (c : ℕ) (s : List ℕ) → step (Blank Comments) c ≡ Some r → (p : Phase) → takes_gap p ≡ true → Matches p m → Calm d p m (c ∷ s) → (f : Bool) × (move d m c ≡ Some (d, in_gap (leads p) f r))
gap_begins d (at_start f) r c s e Fresh g w k = (f, ap (λ o. or_else o (or_else (begin First d c) (cond (f && eqb c 41) (pop d) None))) (gap_begun true f d c r e))
gap_begins d (in_simple q t) r c s e Inside g w k = (false, after_simple d q t c k.0 w ∙ ap (λ o. or_else o (or_else (begin Next d c) (cond (eqb c 40) (open_args d t) (enders d c)))) (gap_begun false false d c r e))
gap_begins d (in_gap l f q) r c s e Fresh g w k = absurd w
gap_begins d (in_simple q t) r c s e Fresh g w k = absurd w
gap_begins d (in_text q) r c s e Fresh g w k = absurd w
gap_begins d (at_start f) r c s e Inside g w k = absurd w
gap_begins d (in_gap l f q) r c s e Inside g w k = absurd w
gap_begins d (in_text q) r c s e Inside g w k = absurd w
gap_begins d m r c s e Open g w k = absurd (false≢true g)
gap_begins d m r c s e Commented g w k = absurd (false≢true g)
gap_begins d m r c s e Trailing g w k = absurd (false≢true g)

pub gap_moves : (d : ℕ) (p : Phase) (m : Place) (last : Reading) (c : ℕ) (cs y : List ℕ) → takes_gap p ≡ true → Matches p m → Calm d p m ((c ∷ cs) ++ y) → read (Blank Comments) (c ∷ cs) ≡ Some last
    → (f : Bool) × (follow d m (c ∷ cs) ≡ Some (d, in_gap (leads p) f last))
gap_moves d p m last c cs y g w k e =
    let r = read_head (Blank Comments) last c cs e in
    let b = gap_begins d m r.0 c (cs ++ y) r.1.0 p g w k in
    (b.0, moved d m c cs (d, in_gap (leads p) b.0 r.0) b.1 ∙ follow_gap d (leads p) b.0 r.0 last cs r.1.1)

pub if_so_parts : (b : Bool) (o : Option Phase) (q : Phase) → if_so b o ≡ Some q → (b ≡ true) × (o ≡ Some q)
if_so_parts true o q e = (refl, e)
if_so_parts false o q e = cc

pub none_some : (b : Bool) (q : Phase) → if_so b None ≡ Some q → ⊥
none_some true q e = cc
none_some false q e = cc

pub blanks_some : (o : Option Gap) → is_blanks o ≡ true → (g : Gap) × ((o ≡ Some g) × (is_blanks (Some g) ≡ true))
blanks_some None e = absurd (false≢true e)
blanks_some (Some g) e = (g, (refl, e))

pub sign_some : (p : Phase) (o : Option Gap) (q : Phase) → combinator_next p o ≡ Some q → (g : Gap) × ((o ≡ Some g) × (opener (leads p) g ≡ First) × (q ≡ Open) × (takes_gap p ≡ true))
sign_some Fresh (Some Symbol) q e = (Symbol, (refl, refl, sym (some_same Open q e), refl))
sign_some Inside (Some Symbol) q e = (Symbol, (refl, refl, sym (some_same Open q e), refl))
sign_some Inside (Some Spaced) q e = (Spaced, (refl, refl, sym (some_same Open q e), refl))
sign_some Fresh None q e = cc
sign_some Fresh (Some One) q e = cc
sign_some Fresh (Some Comments) q e = cc
sign_some Fresh (Some Spaced) q e = cc
sign_some Inside None q e = cc
sign_some Inside (Some One) q e = cc
sign_some Inside (Some Comments) q e = cc
sign_some Open o q e = cc
sign_some Commented o q e = cc
sign_some Trailing o q e = cc

pub gap_gaps : (p q : Phase) (k : GapKind) (t : List ℕ) → gap_next p k t ≡ Some q → (k ≡ comment → ⊥) → takes_gap p ≡ true
gap_gaps p q combinator t e n = (sign_some p (gap_of t) q e).1.3
gap_gaps p q comment t e n = absurd (n refl)
gap_gaps Fresh q blank_gap t e n = refl
gap_gaps Inside q blank_gap t e n = refl
gap_gaps Open q blank_gap t e n = absurd (none_some _ q e)
gap_gaps Commented q blank_gap t e n = absurd (none_some _ q e)
gap_gaps Trailing q blank_gap t e n = absurd (none_some _ q e)

pub gap_matches : (p q : Phase) (k : GapKind) (t : List ℕ) (last : Reading) (f : Bool) → read (Blank Comments) t ≡ Some last → gap_next p k t ≡ Some q → (k ≡ comment → ⊥) → Matches q (in_gap (leads p) f last)
gap_matches p q comment t last f r e n = absurd (n refl)
gap_matches p q combinator t last f r e n = let h = sign_some p (gap_of t) q e in subst (λ q. Matches q (in_gap (leads p) f last)) (sym h.1.2) (h.0, (ap gap_read (sym r) ∙ h.1.0, h.1.1))
gap_matches Fresh q blank_gap t last f r e n =
    let h = if_so_parts (is_some_text t && is_blanks (gap_of t)) (Some Open) q e in
    let b = blanks_some (gap_of t) (and_parts (is_some_text t) (is_blanks (gap_of t)) h.0).1 in
    subst (λ q. Matches q (in_gap true f last)) (some_same Open q h.1) (b.0, (ap gap_read (sym r) ∙ b.1.0, refl))
gap_matches Inside q blank_gap t last f r e n =
    let h = if_so_parts (is_some_text t && is_blanks (gap_of t)) (Some Trailing) q e in
    let b = blanks_some (gap_of t) (and_parts (is_some_text t) (is_blanks (gap_of t)) h.0).1 in
    subst (λ q. Matches q (in_gap false f last)) (some_same Trailing q h.1) (b.0, (ap gap_read (sym r) ∙ b.1.0, b.1.1))
gap_matches Open q blank_gap t last f r e n = absurd (none_some _ q e)
gap_matches Commented q blank_gap t last f r e n = absurd (none_some _ q e)
gap_matches Trailing q blank_gap t last f r e n = absurd (none_some _ q e)

-- one comment is a run of comments
abbrev pub one : Reading → Bool
one (Blank One) = true
one (Slash One) = true
one (Note One) = true
one (NoteStar One) = true
one Done = true
one q = false

abbrev pub as_run : Reading → Reading
as_run (Blank One) = Blank Comments
as_run (Slash One) = Slash Comments
as_run (Note One) = Note Comments
as_run (NoteStar One) = NoteStar Comments
as_run Done = Blank Comments
as_run q = q

pub record Alike (o : Option Reading) (r : Reading) : Type 0 where
  pub is : o ≡ Some (as_run r)
  pub one : one r ≡ true

alike : (o : Option Reading) (q r : Reading) → q ≡ r → o ≡ Some (as_run q) → one q ≡ true → Alike o r
alike o q r e f g = record { is = f ∙ ap (λ q. Some (as_run q)) e; one = ap one (sym e) ∙ g }

alike_if : (b : Bool) (x y u v : Option Reading) (r : Reading) → (x ≡ Some r → Alike u r) → (y ≡ Some r → Alike v r) → cond b x y ≡ Some r → Alike (cond b u v) r
alike_if true x y u v r f g e = f e
alike_if false x y u v r f g e = g e

pub one_step : (q r : Reading) (c : ℕ) → one q ≡ true → step q c ≡ Some r → Alike (step (as_run q) c) r
unfolding step
one_step (Blank One) r c o e = alike_if (eqb c 47) (Some (Slash One)) None _ _ r (λ e. alike _ (Slash One) r (some_same _ _ e) refl refl) (λ e. cc) e
one_step (Slash One) r c o e = alike_if (eqb c 42) (Some (Note One)) None _ _ r (λ e. alike _ (Note One) r (some_same _ _ e) refl refl) (λ e. cc) e
one_step (Note One) r c o e = alike_if (eqb c 42) (Some (NoteStar One)) (Some (Note One)) _ _ r (λ e. alike _ (NoteStar One) r (some_same _ _ e) refl refl) (λ e. alike _ (Note One) r (some_same _ _ e) refl refl) e
one_step (NoteStar One) r c o e = alike_if (eqb c 47) (Some Done) _ _ _ r (λ e. alike _ Done r (some_same _ _ e) refl refl)
    (λ e. alike_if (eqb c 42) (Some (NoteStar One)) (Some (Note One)) _ _ r (λ e. alike _ (NoteStar One) r (some_same _ _ e) refl refl) (λ e. alike _ (Note One) r (some_same _ _ e) refl refl) e) e
one_step Done r c o e = cc
one_step (Blank Comments) r c o e = absurd (false≢true o)
one_step (Blank Spaced) r c o e = absurd (false≢true o)
one_step (Blank Symbol) r c o e = absurd (false≢true o)
one_step (Slash Comments) r c o e = absurd (false≢true o)
one_step (Slash Spaced) r c o e = absurd (false≢true o)
one_step (Slash Symbol) r c o e = absurd (false≢true o)
one_step (Note Comments) r c o e = absurd (false≢true o)
one_step (Note Spaced) r c o e = absurd (false≢true o)
one_step (Note Symbol) r c o e = absurd (false≢true o)
one_step (NoteStar Comments) r c o e = absurd (false≢true o)
one_step (NoteStar Spaced) r c o e = absurd (false≢true o)
one_step (NoteStar Symbol) r c o e = absurd (false≢true o)
one_step First r c o e = absurd (false≢true o)
one_step Next r c o e = absurd (false≢true o)
one_step ElementName r c o e = absurd (false≢true o)
one_step ElementEscape r c o e = absurd (false≢true o)
one_step Star r c o e = absurd (false≢true o)
one_step Bar r c o e = absurd (false≢true o)
one_step Colon r c o e = absurd (false≢true o)
one_step NameFirst r c o e = absurd (false≢true o)
one_step Name r c o e = absurd (false≢true o)
one_step NameEscape r c o e = absurd (false≢true o)
one_step (Text w) r c o e = absurd (false≢true o)
one_step (TextEscape w) r c o e = absurd (false≢true o)
one_step (Quoted b w) r c o e = absurd (false≢true o)
one_step (QuotedEscape b w) r c o e = absurd (false≢true o)

pub one_read : (cs : List ℕ) (q p : Reading) → one q ≡ true → read q cs ≡ Some p → read (as_run q) cs ≡ Some (as_run p)
one_read [] q p o e = ap (λ q. Some (as_run q)) (some_same q p e)
one_read (c ∷ cs) q p o e = let h = read_head q p c cs e in let s = one_step q h.0 c o h.1.0 in ap (λ x. on x (λ r. read r cs)) s.is ∙ one_read cs h.0 p s.one h.1.1

pub done_is : (o : Option Reading) → is_done o ≡ true → o ≡ Some Done
done_is (Some Done) e = refl
done_is None e = absurd (false≢true e)
done_is (Some (Blank g)) e = absurd (false≢true e)
done_is (Some (Slash g)) e = absurd (false≢true e)
done_is (Some (Note g)) e = absurd (false≢true e)
done_is (Some (NoteStar g)) e = absurd (false≢true e)
done_is (Some First) e = absurd (false≢true e)
done_is (Some Next) e = absurd (false≢true e)
done_is (Some ElementName) e = absurd (false≢true e)
done_is (Some ElementEscape) e = absurd (false≢true e)
done_is (Some Star) e = absurd (false≢true e)
done_is (Some Bar) e = absurd (false≢true e)
done_is (Some Colon) e = absurd (false≢true e)
done_is (Some NameFirst) e = absurd (false≢true e)
done_is (Some Name) e = absurd (false≢true e)
done_is (Some NameEscape) e = absurd (false≢true e)
done_is (Some (Text w)) e = absurd (false≢true e)
done_is (Some (TextEscape w)) e = absurd (false≢true e)
done_is (Some (Quoted b w)) e = absurd (false≢true e)
done_is (Some (QuotedEscape b w)) e = absurd (false≢true e)

pub comment_read : (t : List ℕ) → is_comment t ≡ true → read (Blank Comments) t ≡ Some (Blank Comments)
comment_read t e = one_read t (Blank One) Done refl (done_is (read (Blank One) t) e)

pub scan_last-append : (t y : List ℕ) (q p : Reading) → read q t ≡ Some p → scan_last q (t ++ y) ≡ scan_last p y
scan_last-append [] y q p e = ap (λ q. scan_last q y) (some_same q p e)
scan_last-append (c ∷ cs) y q p e = let h = read_head q p c cs e in ap (λ o. or_on o q (λ r. scan_last r (cs ++ y))) h.1.0 ∙ scan_last-append cs y h.0 p h.1.1

comment_some : is_comment [] ≡ true → ⊥
comment_some e = false≢true e

pub scan_len-append : (t y : List ℕ) (q p : Reading) → read q t ≡ Some p → drop (scan_len q (t ++ y)) (t ++ y) ≡ drop (scan_len p y) y
scan_len-append [] y q p e = ap (λ q. drop (scan_len q y) y) (some_same q p e)
scan_len-append (c ∷ cs) y q p e = let h = read_head q p c cs e in ap (λ o. drop (or_on o 0 (λ r. suc (scan_len r (cs ++ y)))) (c ∷ (cs ++ y))) h.1.0 ∙ scan_len-append cs y h.0 p h.1.1

-- a scan that is stuck
pub stuck_last : (q : Reading) (y : List ℕ) → Stuck q y → scan_last q y ≡ q
stuck_last q [] s = refl
stuck_last q (c ∷ cs) s = ap (λ o. or_on o q (λ r. scan_last r cs)) s

pub stuck_len : (q : Reading) (y : List ℕ) → Stuck q y → scan_len q y ≡ 0
stuck_len q [] s = refl
stuck_len q (c ∷ cs) s = ap (λ o. or_on o 0 (λ r. suc (scan_len r cs))) s

-- what a whole run is followed by
pub run_last : (t y : List ℕ) (last : Reading) → read (Blank Comments) t ≡ Some last → Stuck last y → scan_last (Blank Comments) (t ++ y) ≡ last
run_last t y last r s = scan_last-append t y (Blank Comments) last r ∙ stuck_last last y s

pub run_after : (t y : List ℕ) (last : Reading) → read (Blank Comments) t ≡ Some last → Stuck last y → after_run (t ++ y) ≡ y
run_after t y last r s = scan_len-append t y (Blank Comments) last r ∙ ap (λ n. drop n y) (stuck_len last y s)

pub run_on : (d : ℕ) (t y : List ℕ) → read (Blank Comments) t ≡ Some (Blank Comments) → (scan_last (Blank Comments) (t ++ y) ≡ Blank Comments) × (text_stops d (after_run (t ++ y)) ≡ false)
    → (scan_last (Blank Comments) y ≡ Blank Comments) × (text_stops d (after_run y) ≡ false)
run_on d t y r h = (sym (scan_last-append t y (Blank Comments) (Blank Comments) r) ∙ h.0, ap (text_stops d) (sym (scan_len-append t y (Blank Comments) (Blank Comments) r)) ∙ h.1)

-- a comment in a compound: from a simple selector, and from another comment
pub comment_moves : (d : ℕ) (p : Phase) (m : Place) (t y : List ℕ) → Matches p m → Calm d p m (t ++ y) → gap_next p comment t ≡ Some Commented
    → (p ≡ Inside → (scan_last (Blank Comments) (t ++ y) ≡ Blank Comments) × (text_stops d (after_run (t ++ y)) ≡ false))
    → (n : Place) × ((follow d m t ≡ Some (d, n)) × Matches Commented n × Calm d Commented n y)
comment_moves d Inside m [] y w k e z = absurd (comment_some (if_so_parts (is_comment []) (comment_next Inside) Commented e).0)
comment_moves d Inside m (c ∷ cs) y w k e z =
    let t = c ∷ cs in
    let r = comment_read t (if_so_parts (is_comment t) (Some Commented) Commented e).0 in
    let g = gap_moves d Inside m (Blank Comments) c cs y refl w k r in
    (in_gap false g.0 (Blank Comments), (g.1, refl, run_on d t y r (z refl)))
comment_moves d Commented (in_gap false f q) t y w k e z =
    let r = comment_read t (if_so_parts (is_comment t) (Some Commented) Commented e).0 in
    (in_gap false f (Blank Comments), (ap (λ q. follow d (in_gap false f q) t) w ∙ follow_gap d false f (Blank Comments) (Blank Comments) t r, refl, run_on d t y r k))
comment_moves d Commented (in_gap true f q) t y w k e z = absurd w
comment_moves d Commented (at_start f) t y w k e z = absurd w
comment_moves d Commented (in_simple q u) t y w k e z = absurd w
comment_moves d Commented (in_text q) t y w k e z = absurd w
comment_moves d Fresh m t y w k e z = absurd (none_some _ Commented e)
comment_moves d Open m t y w k e z = absurd (none_some _ Commented e)
comment_moves d Trailing m t y w k e z = absurd (none_some _ Commented e)
