-- Parts that are a list's lead the reader from its start to its end.
use Rattle.std.proofs.Common.{◌≡◌, ℕ, zero, suc, ◌+◌, ◌<◌, Bool, true, false, cond, eqb, List, [], ◌∷◌, ◌++◌, drop, Option, Some, None, refl, ap, sym, ◌∙◌, subst, arith, append_assoc}
use Rattle.std.specs.Prelude.{◌&&◌, nat_lt}
use Rattle.std.proofs.lemmas.Bool.{eqb-true, and_parts, false≢true, lt-ltb}
use Rattle.css_text.specs.Characters.{is_space, is_quote}
use Rattle.css_text.specs.Forms.{begins}
use Rattle.css_text.specs.Ahead.{byte_len}
use Rattle.selector_parse.specs.declared.phase.Phase.{Phase}
use Rattle.selector_parse.specs.declared.phase.Phase.TheVariants.{Fresh, Open, Inside, Commented, Trailing}
use Rattle.selector_parse.specs.declared.reading.Gap.{Gap}
use Rattle.selector_parse.specs.declared.reading.Gap.TheVariants.{One, Comments, Spaced, Symbol}
use Rattle.selector_parse.specs.declared.reading.Within.TheVariants.{Brackets, Parentheses}
use Rattle.selector_parse.specs.declared.reading.Reading.{Reading}
use Rattle.selector_parse.specs.declared.reading.Reading.TheVariants.{First, Next, Text, TextEscape, Quoted, QuotedEscape, Blank, Slash}
use Rattle.selector_parse.specs.Forms.{is_symbol}
use Rattle.selector_parse.specs.Reading.{quote, step, read, is_final, scan_last}
use Rattle.selector_parse.specs.Tree.{Tree, none, comma, gap, simple, plain, nested, GapKind, blank as blank_gap, comment, combinator, written}
use Rattle.selector_parse.specs.Phases.{gap_read, gap_of, is_blanks, is_comment, is_some_text, is_simple, simple_read, is_whole, starts, gap_next, blank_next, comment_next, combinator_next, may_end, Are}
use Rattle.selector_parse.specs.Machine.{Stuck, text_stops, after_run, blank_list, Calm, Moves}
use Rattle.selector_parse.proofs.Moves.{some_same, read_head, follow-append, begins_first, begins_next, stuck_last, stuck_len, run_after, scan_last-append, scan_len-append, if_so_parts, none_some, blanks_some, sign_some, comment_read, starts_open}
use Rattle.selector_parse.proofs.Gaps.{is_run, run_read}
use Rattle.selector_parse.proofs.Heads.{head_opens, blank_opens, next_opens, differs}

-- what may stand after parts inside so many parentheses
abbrev pub Ends : ℕ → List ℕ → Type 0
Ends d [] = Unit {0}
Ends d (c ∷ cs) = (c ≡ 41) × (0 < d)

-- one way on, and another after it
pub moves-append : (d : ℕ) (p m q : Phase) (x y r : List ℕ) → Moves d p m x (y ++ r) → Moves d m q y r → Moves d p q (x ++ y) r
moves-append d p m q x y r a b = λ n w k.
    let s = a n w (subst (Calm d p n) (append_assoc x y r) k) in
    let t = b s.0 s.1.1 s.1.2 in
    (t.0, (follow-append d n x y (d, s.0) s.1.0 ∙ t.1.0, t.1.1, t.1.2))

-- a simple selector's text
pub record SimpleIs (p : Phase) (t : List ℕ) : Type 0 where
  pub from : Reading
  pub last : Reading
  pub start : starts p ≡ Some from
  pub reads : read from t ≡ Some last
  pub final : is_final last ≡ true

pub whole_go : (q : Reading) (t : List ℕ) (o : Option Reading) → read q t ≡ o → is_whole o ≡ true → (last : Reading) × ((read q t ≡ Some last) × (is_final last ≡ true))
whole_go q t None e f = absurd (false≢true f)
whole_go q t (Some last) e f = (last, (e, f))

simple_by : (p : Phase) (t : List ℕ) (o : Option Reading) → starts p ≡ o → simple_read o t ≡ true → SimpleIs p t
simple_by p t None e f = absurd (false≢true f)
simple_by p t (Some q) e f = let h = whole_go q t (read q t) refl f in record { from = q; last = h.0; start = e; reads = h.1.0; final = h.1.1 }

pub simple_is : (p : Phase) (t : List ℕ) → is_simple p t ≡ true → SimpleIs p t
simple_is p t e = simple_by p t (starts p) refl e

-- a gap's text
pub gap_read_some : (o : Option Reading) (g : Gap) → gap_read o ≡ Some g → o ≡ Some (Blank g)
gap_read_some (Some (Blank h)) g e = ap (λ g. Some (Blank g)) (some_same h g e)
gap_read_some None g e = cc
gap_read_some (Some q) g e = cc

pub record GapIs (t : List ℕ) : Type 0 where
  pub gap : Gap
  pub some : is_some_text t ≡ true
  pub reads : read (Blank Comments) t ≡ Some (Blank gap)

sign_text : (p q : Phase) (t : List ℕ) → combinator_next p (gap_of t) ≡ Some q → is_some_text t ≡ true
sign_text p q (c ∷ cs) e = refl
sign_text Fresh q [] e = cc
sign_text Inside q [] e = cc
sign_text Open q [] e = cc
sign_text Commented q [] e = cc
sign_text Trailing q [] e = cc

comment_text : (t : List ℕ) → is_comment t ≡ true → is_some_text t ≡ true
comment_text [] e = e
comment_text (c ∷ cs) e = refl

pub gap_is : (p q : Phase) (k : GapKind) (t : List ℕ) → gap_next p k t ≡ Some q → GapIs t
gap_is p q blank_gap t e =
    let h = and_parts (is_some_text t) (is_blanks (gap_of t)) (if_so_parts (is_some_text t && is_blanks (gap_of t)) (blank_next p) q e).0 in
    let g = blanks_some (gap_of t) h.1 in
    record { gap = g.0; some = h.0; reads = gap_read_some (read (Blank Comments) t) g.0 g.1.0 }
gap_is p q comment t e = let h = (if_so_parts (is_comment t) (comment_next p) q e).0 in record { gap = Comments; some = comment_text t h; reads = comment_read t h }
gap_is p q combinator t e = let g = sign_some p (gap_of t) q e in record { gap = g.0; some = sign_text p q t e; reads = gap_read_some (read (Blank Comments) t) g.0 g.1.0 }

-- the first character of a simple selector
pub record Begins (q0 : Reading) (s : List ℕ) : Type 0 where
  pub char : ℕ
  pub rest : List ℕ
  pub is : s ≡ char ∷ rest
  pub next : Reading
  pub steps : step q0 char ≡ Some next

pub begins_text : (p : Phase) (t z : List ℕ) (h : SimpleIs p t) → Begins h.from (t ++ z)
begins_text p [] z h = absurd (starts_open p h.from h.start (ap is_final (some_same h.from h.last h.reads) ∙ h.final))
begins_text p (c ∷ cs) z h = let r = read_head h.from h.last c cs h.reads in record { char = c; rest = cs ++ z; is = refl; next = r.0; steps = r.1.0 }

pub blank_begins : (t z : List ℕ) (h : GapIs t) → Begins (Blank Comments) (t ++ z)
blank_begins [] z h = absurd (false≢true h.some)
blank_begins (c ∷ cs) z h = let r = read_head (Blank Comments) (Blank h.gap) c cs h.reads in record { char = c; rest = cs ++ z; is = refl; next = r.0; steps = r.1.0 }

text_44 : step First 44 ≡ None
unfolding step
text_44 = refl

text_41 : step First 41 ≡ None
unfolding step
text_41 = refl

next_44 : step Next 44 ≡ None
unfolding step
next_44 = refl

next_41 : step Next 41 ≡ None
unfolding step
next_41 = refl

next_40 : step Next 40 ≡ None
unfolding step
next_40 = refl

blank_40 : step (Blank Comments) 40 ≡ None
unfolding step is_space
blank_40 = refl

no_stop : (d c : ℕ) (cs : List ℕ) → eqb c 44 ≡ false → eqb c 41 ≡ false → text_stops d (c ∷ cs) ≡ false
no_stop d c cs e f = rw (e, f) refl

pub first_unstopped : (d : ℕ) (s : List ℕ) → Begins First s → text_stops d s ≡ false
first_unstopped d s b = ap (text_stops d) b.is ∙ no_stop d b.char b.rest (differs First b.next b.char 44 b.steps text_44) (differs First b.next b.char 41 b.steps text_41)

pub next_unstopped : (d : ℕ) (s : List ℕ) → Begins Next s → text_stops d s ≡ false
next_unstopped d s b = ap (text_stops d) b.is ∙ no_stop d b.char b.rest (differs Next b.next b.char 44 b.steps next_44) (differs Next b.next b.char 41 b.steps next_41)

-- no run goes on where a simple selector begins
none_cond : (b : Bool) (x : Reading) (o : Option Reading) → cond b (Some x) o ≡ None → (b ≡ false) × (o ≡ None)
none_cond true x o e = cc
none_cond false x o e = (refl, e)

blank_none : (g : Gap) (c : ℕ) → step (Blank Comments) c ≡ None → (g ≡ One → ⊥) → step (Blank g) c ≡ None
unfolding step
blank_none One c e n = absurd (n refl)
blank_none Comments c e n = e
blank_none Spaced c e n =
    let a = none_cond (eqb c 47) (Slash Comments) (cond (is_space c) (Some (Blank Spaced)) (cond (is_symbol c) (Some (Blank Symbol)) None)) e in
    let b = none_cond (is_space c) (Blank Spaced) (cond (is_symbol c) (Some (Blank Symbol)) None) a.1 in
    ap (λ x. cond x (Some (Slash Spaced)) (cond (is_space c) (Some (Blank Spaced)) (cond (is_symbol c) (Some (Blank Symbol)) None))) a.0
    ∙ ap (λ x. cond x (Some (Blank Spaced)) (cond (is_symbol c) (Some (Blank Symbol)) None)) b.0 ∙ b.1
blank_none Symbol c e n =
    let a = none_cond (eqb c 47) (Slash Comments) (cond (is_space c) (Some (Blank Spaced)) (cond (is_symbol c) (Some (Blank Symbol)) None)) e in
    let b = none_cond (is_space c) (Blank Spaced) (cond (is_symbol c) (Some (Blank Symbol)) None) a.1 in
    ap (λ x. cond x (Some (Slash Symbol)) (cond (is_space c) (Some (Blank Symbol)) None)) a.0 ∙ ap (λ x. cond x (Some (Blank Symbol)) None) b.0

pub first_stuck : (g : Gap) (s : List ℕ) → (g ≡ One → ⊥) → Begins First s → Stuck (Blank g) s
first_stuck g s n b = subst (Stuck (Blank g)) (sym b.is) (blank_none g b.char (begins_first b.char b.next b.steps) n)

-- how parts begin, by what stands before them
pub open_first : (d at : ℕ) (q : Phase) (x : Tree) (r : List ℕ) → Are d Open at x q → may_end q ≡ true → Begins First (written x ++ r)
open_first d at q none r a e = absurd (false≢true (ap may_end a ∙ e))
open_first d at q (comma x) r a e = absurd (false≢true a.0)
open_first d at q (gap blank_gap k t x) r a e = absurd (none_some _ a.1.0 a.1.1.0)
open_first d at q (gap comment k t x) r a e = absurd (none_some _ a.1.0 a.1.1.0)
open_first d at q (gap combinator k t x) r a e = cc
open_first d at q (simple k g t x) r a e = let h = simple_is Open t a.2 in subst (λ s. Begins First s) (sym (append_assoc t (written x) r)) (subst (λ z. Begins z (t ++ (written x ++ r))) (sym (some_same First h.from h.start)) (begins_text Open t (written x ++ r) h))
open_first d at q (plain k g t args x) r a e = let h = simple_is Open t a.2 in let u = 40 ∷ (args ++ 41 ∷ written x) in subst (λ s. Begins First s) (sym (append_assoc t u r)) (subst (λ z. Begins z (t ++ (u ++ r))) (sym (some_same First h.from h.start)) (begins_text Open t (u ++ r) h))
open_first d at q (nested k g t i x) r a e = let h = simple_is Open t a.2 in let u = 40 ∷ (written i ++ 41 ∷ written x) in subst (λ s. Begins First s) (sym (append_assoc t u r)) (subst (λ z. Begins z (t ++ (u ++ r))) (sym (some_same First h.from h.start)) (begins_text Open t (u ++ r) h))

pub record Inner (y : List ℕ) : Type 0 where
  pub opens : head_opens y ≡ true
  pub bare : begins 40 y ≡ false

inner_next : (s : List ℕ) → Begins Next s → Inner s
inner_next s b = subst Inner (sym b.is) (record { opens = next_opens b.char b.next b.steps; bare = differs Next b.next b.char 40 b.steps next_40 })

inner_blank : (s : List ℕ) → Begins (Blank Comments) s → Inner s
inner_blank s b = subst Inner (sym b.is) (record { opens = blank_opens b.char b.next b.steps; bare = differs (Blank Comments) b.next b.char 40 b.steps blank_40 })

opens_comma : (s : List ℕ) → Inner (44 ∷ s)
unfolding is_space
opens_comma s = record { opens = refl; bare = refl }

opens_close : (s : List ℕ) → Inner (41 ∷ s)
unfolding is_space
opens_close s = record { opens = refl; bare = refl }

pub opens_paren : (s : List ℕ) → head_opens (40 ∷ s) ≡ true
unfolding is_space
opens_paren s = refl

inner_end : (d : ℕ) (r : List ℕ) → Ends d r → Inner r
inner_end d [] e = record { opens = refl; bare = refl }
inner_end d (c ∷ cs) e = subst (λ x. Inner (x ∷ cs)) (sym e.0) (opens_close cs)

next_text : (p : Phase) (t u r : List ℕ) → starts p ≡ Some Next → is_simple p t ≡ true → Begins Next ((t ++ u) ++ r)
next_text p t u r s e = let h = simple_is p t e in subst (λ z. Begins Next z) (sym (append_assoc t u r)) (subst (λ q. Begins q (t ++ (u ++ r))) (some_same h.from Next (sym h.start ∙ s)) (begins_text p t (u ++ r) h))

pub inside_inner : (d at : ℕ) (q : Phase) (x : Tree) (r : List ℕ) → Are d Inside at x q → Ends d r → Inner (written x ++ r)
inside_inner d at q none r a e = inner_end d r e
inside_inner d at q (comma x) r a e = opens_comma (written x ++ r)
inside_inner d at q (gap k g t x) r a e = inner_blank _ (subst (λ z. Begins (Blank Comments) z) (sym (append_assoc t (written x) r)) (blank_begins t (written x ++ r) (gap_is Inside a.1.0 k t a.1.1.0)))
inside_inner d at q (simple k g t x) r a e = inner_next _ (next_text Inside t (written x) r refl a.2)
inside_inner d at q (plain k g t args x) r a e = inner_next _ (next_text Inside t (40 ∷ (args ++ 41 ∷ written x)) r refl a.2)
inside_inner d at q (nested k g t i x) r a e = inner_next _ (next_text Inside t (40 ∷ (written i ++ 41 ∷ written x)) r refl a.2)

-- after a comment inside a compound
pub IsRun : ℕ → List ℕ → Type 0
IsRun d s = (scan_last (Blank Comments) s ≡ Blank Comments) × (text_stops d (after_run s) ≡ false)

run_next : (d : ℕ) (s : List ℕ) → Begins Next s → IsRun d s
unfolding IsRun
run_next d s b =
    let k : Stuck (Blank Comments) s = subst (Stuck (Blank Comments)) (sym b.is) (begins_next b.char b.next b.steps) in
    (stuck_last (Blank Comments) s k, ap (λ n. text_stops d (drop n s)) (stuck_len (Blank Comments) s k) ∙ next_unstopped d s b)

pub run_back : (d : ℕ) (t y : List ℕ) → read (Blank Comments) t ≡ Some (Blank Comments) → IsRun d y → IsRun d (t ++ y)
unfolding IsRun
run_back d t y r h = (scan_last-append t y (Blank Comments) (Blank Comments) r ∙ h.0, ap (text_stops d) (scan_len-append t y (Blank Comments) (Blank Comments) r) ∙ h.1)

pub commented_run : (d at : ℕ) (q : Phase) (x : Tree) (r : List ℕ) → Are d Commented at x q → may_end q ≡ true → IsRun d (written x ++ r)
commented_run d at q none r a e = absurd (false≢true (ap may_end a ∙ e))
commented_run d at q (comma x) r a e = absurd (false≢true a.0)
commented_run d at q (gap blank_gap k t x) r a e = absurd (none_some _ a.1.0 a.1.1.0)
commented_run d at q (gap combinator k t x) r a e = cc
commented_run d at q (gap comment k t x) r a e =
    let h = if_so_parts (is_comment t) (Some Commented) a.1.0 a.1.1.0 in
    let rest = subst (λ p. Are d p (at + byte_len t) x q) (sym (some_same Commented a.1.0 h.1)) a.1.1.1 in
    subst (IsRun d) (sym (append_assoc t (written x) r)) (run_back d t (written x ++ r) (comment_read t h.0) (commented_run d (at + byte_len t) q x r rest e))
commented_run d at q (simple k g t x) r a e = run_next d _ (next_text Commented t (written x) r refl a.2)
commented_run d at q (plain k g t args x) r a e = run_next d _ (next_text Commented t (40 ∷ (args ++ 41 ∷ written x)) r refl a.2)
commented_run d at q (nested k g t i x) r a e = run_next d _ (next_text Commented t (40 ∷ (written i ++ 41 ∷ written x)) r refl a.2)

-- after blanks at the end
pub record Last (d : ℕ) (g : Gap) (s : List ℕ) : Type 0 where
  pub stuck : Stuck (Blank g) s
  pub stops : text_stops d s ≡ true

pub blank_44 : (g : Gap) → step (Blank g) 44 ≡ None
unfolding step is_space
blank_44 One = refl
blank_44 Comments = refl
blank_44 Spaced = refl
blank_44 Symbol = refl

pub blank_41 : (g : Gap) → step (Blank g) 41 ≡ None
unfolding step is_space
blank_41 One = refl
blank_41 Comments = refl
blank_41 Spaced = refl
blank_41 Symbol = refl

last_end : (d : ℕ) (g : Gap) (r : List ℕ) → Ends d r → Last d g r
last_end d g [] e = record { stuck = tt; stops = refl }
last_end d g (c ∷ cs) e = subst (λ x. Last d g (x ∷ cs)) (sym e.0) (record { stuck = blank_41 g; stops = lt-ltb 0 d e.1 })

pub trailing_last : (d at : ℕ) (g : Gap) (q : Phase) (x : Tree) (r : List ℕ) → Are d Trailing at x q → Ends d r → Last d g (written x ++ r)
trailing_last d at g q none r a e = last_end d g r e
trailing_last d at g q (comma x) r a e = record { stuck = blank_44 g; stops = refl }
trailing_last d at g q (gap blank_gap k t x) r a e = absurd (none_some _ a.1.0 a.1.1.0)
trailing_last d at g q (gap comment k t x) r a e = absurd (none_some _ a.1.0 a.1.1.0)
trailing_last d at g q (gap combinator k t x) r a e = cc
trailing_last d at g q (simple k b t x) r a e = absurd (false≢true a.2)
trailing_last d at g q (plain k b t args x) r a e = absurd (false≢true a.2)
trailing_last d at g q (nested k b t i x) r a e = absurd (false≢true a.2)

-- a list isn't blanks alone
unblank_first : (s : List ℕ) → Begins First s → blank_list s ≡ false
unblank_first s b =
    let k : Stuck (Blank Comments) s = subst (Stuck (Blank Comments)) (sym b.is) (begins_first b.char b.next b.steps) in
    ap (λ q. is_blanks (gap_read (Some q)) && begins 41 (after_run s)) (stuck_last (Blank Comments) s k) ∙ ap (λ n. begins 41 (drop n s)) (stuck_len (Blank Comments) s k)
    ∙ ap (begins 41) b.is ∙ differs First b.next b.char 41 b.steps text_41

and_false : (a b : Bool) → b ≡ false → (a && b) ≡ false
and_false true b e = e
and_false false b e = refl

unblank_gap : (g : Gap) (t y : List ℕ) → read (Blank Comments) t ≡ Some (Blank g) → (g ≡ One → ⊥) → Begins First y → blank_list (t ++ y) ≡ false
unblank_gap g t y r n b =
    let k = first_stuck g y n b in
    and_false (is_blanks (gap_read (Some (scan_last (Blank Comments) (t ++ y))))) (begins 41 (after_run (t ++ y))) (ap (begins 41) (run_after t y (Blank g) r k ∙ b.is) ∙ differs First b.next b.char 41 b.steps text_41)

pub no_one : (t : List ℕ) (g : Gap) → read (Blank Comments) t ≡ Some (Blank g) → g ≡ One → ⊥
no_one t g r e = false≢true (sym (ap (λ g. is_run (Blank g)) e) ∙ run_read t (Blank Comments) (Blank g) refl r)

first_text : (t u r : List ℕ) → is_simple Fresh t ≡ true → Begins First ((t ++ u) ++ r)
first_text t u r e = let h = simple_is Fresh t e in subst (λ z. Begins First z) (sym (append_assoc t u r)) (subst (λ q. Begins q (t ++ (u ++ r))) (sym (some_same First h.from h.start)) (begins_text Fresh t (u ++ r) h))

pub fresh_open : (p : Phase) (k : GapKind) (t : List ℕ) → gap_next Fresh k t ≡ Some p → Open ≡ p
fresh_open p blank_gap t e = some_same Open p (if_so_parts (is_some_text t && is_blanks (gap_of t)) (Some Open) p e).1
fresh_open p comment t e = absurd (none_some _ p e)
fresh_open p combinator t e = sym (sign_some Fresh (gap_of t) p e).1.2

pub fresh_unblank : (d at : ℕ) (q : Phase) (x : Tree) (r : List ℕ) → Are d Fresh at x q → may_end q ≡ true → blank_list (written x ++ r) ≡ false
fresh_unblank d at q none r a e = absurd (false≢true (ap may_end a ∙ e))
fresh_unblank d at q (comma x) r a e = absurd (false≢true a.0)
fresh_unblank d at q (gap k g t x) r a e =
    let h = gap_is Fresh a.1.0 k t a.1.1.0 in
    let b = open_first d (at + byte_len t) q x r (subst (λ p. Are d p (at + byte_len t) x q) (sym (fresh_open a.1.0 k t a.1.1.0)) a.1.1.1) e in
    ap blank_list (append_assoc t (written x) r) ∙ unblank_gap h.gap t (written x ++ r) h.reads (no_one t h.gap h.reads) b
fresh_unblank d at q (simple k g t x) r a e = unblank_first _ (first_text t (written x) r a.2)
fresh_unblank d at q (plain k g t args x) r a e = unblank_first _ (first_text t (40 ∷ (args ++ 41 ∷ written x)) r a.2)
fresh_unblank d at q (nested k g t i x) r a e = unblank_first _ (first_text t (40 ∷ (written i ++ 41 ∷ written x)) r a.2)

-- arguments that are no list end before their `)`
abbrev pub is_args : Reading → Bool
is_args (Text (Parentheses held most)) = true
is_args (TextEscape (Parentheses held most)) = true
is_args (Quoted b (Parentheses held most)) = true
is_args (QuotedEscape b (Parentheses held most)) = true
is_args q = false

abbrev args_stay : Option Reading → Bool
args_stay None = true
args_stay (Some q) = is_args q

args-cond : (b : Bool) (x y : Option Reading) → args_stay x ≡ true → args_stay y ≡ true → args_stay (cond b x y) ≡ true
args-cond true x y e f = e
args-cond false x y e f = f

args_step : (q : Reading) (c : ℕ) → is_args q ≡ true → args_stay (step q c) ≡ true
unfolding step
args_step (Text (Parentheses held most)) c e = args-cond (eqb c 92) _ _ refl (args-cond (is_quote c) _ _ refl (args-cond (eqb c 40) _ _ (args-cond (nat_lt held most) _ _ refl refl) (args-cond (eqb c 41) _ _ (args-cond (nat_lt 0 held) _ _ refl refl) refl)))
args_step (TextEscape (Parentheses held most)) c e = refl
args_step (Quoted b (Parentheses held most)) c e = args-cond (eqb c (quote b)) _ _ refl (args-cond (eqb c 92) _ _ refl refl)
args_step (QuotedEscape b (Parentheses held most)) c e = refl
args_step (Text Brackets) c e = absurd (false≢true e)
args_step (TextEscape Brackets) c e = absurd (false≢true e)
args_step (Quoted b Brackets) c e = absurd (false≢true e)
args_step (QuotedEscape b Brackets) c e = absurd (false≢true e)
args_step q c e = absurd (false≢true e)

pub args_read : (cs : List ℕ) (q p : Reading) → is_args q ≡ true → read q cs ≡ Some p → is_args p ≡ true
args_read [] q p s e = ap is_args (sym (some_same q p e)) ∙ s
args_read (c ∷ cs) q p s e = let h = read_head q p c cs e in args_read cs h.0 p (sym (ap args_stay h.1.0) ∙ args_step q c s) h.1.1

pub args_close : (q : Reading) → is_args q ≡ true → is_final q ≡ true → step q 41 ≡ None
unfolding step is_quote
args_close (Text (Parentheses zero most)) a f = refl
args_close (Text (Parentheses (suc held) most)) a f = let z : suc held ≡ 0 = eqb-true (suc held) 0 f in absurd (omega arith)
args_close (TextEscape (Parentheses held most)) a f = absurd (false≢true f)
args_close (Quoted b (Parentheses held most)) a f = absurd (false≢true f)
args_close (QuotedEscape b (Parentheses held most)) a f = absurd (false≢true f)
args_close q a f = absurd (false≢true a)

pub run_pair : (d : ℕ) (s : List ℕ) → IsRun d s → (scan_last (Blank Comments) s ≡ Blank Comments) × (text_stops d (after_run s) ≡ false)
unfolding IsRun
run_pair d s h = h
