-- Where reading halts in blanks and comments.
use Rattle.std.proofs.Common.{◌≡◌, ℕ, ◌+◌, ◌<◌, Bool, true, false, cond, eqb, List, [], ◌∷◌, ◌++◌, length, get_or, Option, Some, None, refl, ap, sym, ◌∙◌, lit<, append_assoc}
use Rattle.std.specs.Prelude.{◌&&◌}
use Rattle.std.proofs.lemmas.Bool.{false≢true, eqb-true}
use Rattle.css_text.specs.Ahead.{byte_len}
use Rattle.css_text.specs.Characters.{is_space, is_quote}
use Rattle.css_text.proofs.Slices.{IsFrom, slice_length, from_begins}
use Rattle.selector_parse.specs.declared.phase.Phase.{Phase}
use Rattle.selector_parse.specs.declared.phase.Phase.TheVariants.{Fresh, Open, Inside, Commented, Trailing}
use Rattle.selector_parse.specs.declared.part.PartKind.TheVariants.{Nesting}
use Rattle.selector_parse.specs.declared.reading.Gap.{Gap}
use Rattle.selector_parse.specs.declared.reading.Gap.TheVariants.{One, Comments, Spaced, Symbol}
use Rattle.selector_parse.specs.declared.reading.Reading.{Reading}
use Rattle.selector_parse.specs.declared.reading.Reading.TheVariants.{Done, Blank, Slash, Note, NoteStar}
use Rattle.selector_parse.specs.Reading.{step, read}
use Rattle.selector_parse.specs.Tree.{Tree, none, gap, simple, GapKind, blank as blank_gap, comment, combinator, written}
use Rattle.selector_parse.specs.Phases.{gap_read, gap_of, is_blanks, is_done, is_some_text, gap_next, comment_next, if_so, may_end, Are}
use Rattle.selector_parse.specs.Machine.{Place, at_start, in_gap, in_simple, in_text, Stand, follow, Blocked, Stuck, Matches, Calm}
use Rattle.selector_parse.specs.Row.{IsHalt, takes_gap}
use Rattle.selector_parse.proofs.Scanned.{Scanned}
use Rattle.selector_parse.proofs.Finish.{finish, finished, made_whole}
use Rattle.selector_parse.proofs.Idle.{gap_halts}
use Rattle.selector_parse.proofs.Gaps.{is_run, run_read}
use Rattle.selector_parse.proofs.Rows.{no_length}
use Rattle.selector_parse.proofs.Moves.{some_same, read_head, leads, gap_moves, follow_gap, one, as_run, one_step, one_read}

-- parts that a gap begins, and what they have after it
record Ends (depth at : ℕ) (p : Phase) (t : List ℕ) : Type 0 where
  pub parts : Tree
  pub more : List ℕ
  pub last : Phase
  pub ends : may_end last ≡ true
  pub are : Are depth p at parts last
  pub goes : written parts ≡ t ++ more

-- a gap before `&`
before_nesting : (depth at : ℕ) (p q : Phase) (k : GapKind) (t : List ℕ) → gap_next p k t ≡ Some q → Are depth q (at + byte_len t) (simple Nesting (at + byte_len t) (38 ∷ []) none) Inside → Ends depth at p t
before_nesting depth at p q k t e a = record { parts = gap k at t (simple Nesting (at + byte_len t) (38 ∷ []) none); more = 38 ∷ []; last = Inside; ends = refl; are = (refl, (q, (e, a))); goes = refl }

nesting_open : (depth at : ℕ) → Are depth Open at (simple Nesting at (38 ∷ []) none) Inside
unfolding step is_space is_quote
nesting_open depth at = (refl, refl, refl, refl)

nesting_commented : (depth at : ℕ) → Are depth Commented at (simple Nesting at (38 ∷ []) none) Inside
unfolding step is_space is_quote
nesting_commented depth at = (refl, refl, refl, refl)

blank_next_is : (p q : Phase) (t : List ℕ) (g : Gap) → is_some_text t ≡ true → read (Blank Comments) t ≡ Some (Blank g) → is_blanks (Some g) ≡ true → if_so (is_some_text t && is_blanks (gap_of t)) (Some q) ≡ Some q
blank_next_is p q t g s r b = rw (s, r) (ap (λ x. if_so x (Some q)) b)

gap_ends : (depth at : ℕ) (p : Phase) (t : List ℕ) (g : Gap) → takes_gap p ≡ true → is_run (Blank g) ≡ true → is_some_text t ≡ true → read (Blank Comments) t ≡ Some (Blank g) → Ends depth at p t
gap_ends depth at Fresh t Comments h r s e = before_nesting depth at Fresh Open blank_gap t (blank_next_is Fresh Open t Comments s e refl) (nesting_open depth (at + byte_len t))
gap_ends depth at Fresh t Spaced h r s e = before_nesting depth at Fresh Open blank_gap t (blank_next_is Fresh Open t Spaced s e refl) (nesting_open depth (at + byte_len t))
gap_ends depth at Fresh t Symbol h r s e = before_nesting depth at Fresh Open combinator t (rw e refl) (nesting_open depth (at + byte_len t))
gap_ends depth at Inside t Symbol h r s e = before_nesting depth at Inside Open combinator t (rw e refl) (nesting_open depth (at + byte_len t))
gap_ends depth at Inside t Comments h r s e = record { parts = gap blank_gap at t none; more = []; last = Trailing; ends = refl; are = (refl, (Trailing, (blank_next_is Inside Trailing t Comments s e refl, refl))); goes = refl }
gap_ends depth at Inside t Spaced h r s e = record { parts = gap blank_gap at t none; more = []; last = Trailing; ends = refl; are = (refl, (Trailing, (blank_next_is Inside Trailing t Spaced s e refl, refl))); goes = refl }
gap_ends depth at Fresh t One h r s e = absurd (false≢true r)
gap_ends depth at Inside t One h r s e = absurd (false≢true r)
gap_ends depth at Open t g h r s e = absurd (false≢true h)
gap_ends depth at Commented t g h r s e = absurd (false≢true h)
gap_ends depth at Trailing t g h r s e = absurd (false≢true h)

-- blanks that aren't whole
record Unended (q : Reading) : Type 0 where
  pub unread : gap_read (Some q) ≡ None
  pub gap : Gap
  pub whole : finished q ≡ Blank gap
  pub plain : is_run (Blank gap) ≡ true

unended : (q : Reading) → is_run q ≡ true → ((g : Gap) → q ≡ Blank g → ⊥) → Unended q
unfolding finished
unended (Blank g) r n = absurd (n g refl)
unended (Slash Comments) r n = record { unread = refl; gap = Comments; whole = refl; plain = refl }
unended (Slash Spaced) r n = record { unread = refl; gap = Spaced; whole = refl; plain = refl }
unended (Slash Symbol) r n = record { unread = refl; gap = Symbol; whole = refl; plain = refl }
unended (Note Comments) r n = record { unread = refl; gap = Comments; whole = refl; plain = refl }
unended (Note Spaced) r n = record { unread = refl; gap = Spaced; whole = refl; plain = refl }
unended (Note Symbol) r n = record { unread = refl; gap = Symbol; whole = refl; plain = refl }
unended (NoteStar Comments) r n = record { unread = refl; gap = Comments; whole = refl; plain = refl }
unended (NoteStar Spaced) r n = record { unread = refl; gap = Spaced; whole = refl; plain = refl }
unended (NoteStar Symbol) r n = record { unread = refl; gap = Symbol; whole = refl; plain = refl }
unended q r n = absurd (false≢true r)

some_front : (t u : List ℕ) → is_some_text t ≡ true → is_some_text (t ++ u) ≡ true
some_front [] u e = absurd (false≢true e)
some_front (c ∷ cs) u e = refl

pub gap_halt : (bs : List ℕ) (at depth end : ℕ) (p : Phase) (q : Reading) (h : Scanned bs at (Blank Comments) end q) → takes_gap p ≡ true → is_some_text h.inner ≡ true → ((g : Gap) → q ≡ Blank g → ⊥) → IsHalt bs at depth p end
gap_halt bs at depth end p q h g i n =
    let u = unended q (run_read h.inner (Blank Comments) q refl h.reads) n in
    let e = gap_ends depth at p (h.inner ++ finish q) u.gap g u.plain (some_front h.inner (finish q) i) (made_whole (Blank Comments) q h.inner h.reads ∙ ap Some u.whole) in
    record {
      front = h.inner;
      back = h.ahead;
      fits = h.front.fits;
      text = h.front.text;
      size = sym (slice_length bs at end h.inner h.slice);
      parts = e.parts;
      more = finish q ++ e.more;
      last = e.last;
      ends = e.ends;
      are = e.are;
      goes = e.goes ∙ append_assoc h.inner (finish q) e.more;
      blocked = λ m w k. go h.inner i h.reads m w k u.unread;
    }
  where
    go : (t : List ℕ) → is_some_text t ≡ true → read (Blank Comments) t ≡ Some q → (m : Place) → Matches p m → Calm depth p m (t ++ h.ahead) → gap_read (Some q) ≡ None → (s : Stand) × ((follow depth m t ≡ Some s) × Blocked s.0 s.1 h.ahead)
    go [] i r m w k u = absurd (false≢true i)
    go (c ∷ cs) i r m w k u = let v = gap_moves depth p m q c cs h.ahead g w k r in ((depth, in_gap (leads p) v.0 q), (v.1, gap_halts depth (leads p) v.0 q h.ahead u h.stuck))

-- one comment that isn't whole
one_stays : (cs : List ℕ) (q p : Reading) → one q ≡ true → read q cs ≡ Some p → one p ≡ true
one_stays [] q p o e = ap one (sym (some_same q p e)) ∙ o
one_stays (c ∷ cs) q p o e = let h = read_head q p c cs e in one_stays cs h.0 p (one_step q h.0 c o h.1.0).one h.1.1

-- after its slash
abbrev begun : Reading → Bool
begun (Slash One) = true
begun (Note One) = true
begun (NoteStar One) = true
begun Done = true
begun q = false

begun_cond : (b : Bool) (x y : Option Reading) (r : Reading) → (x ≡ Some r → begun r ≡ true) → (y ≡ Some r → begun r ≡ true) → cond b x y ≡ Some r → begun r ≡ true
begun_cond true x y r f g e = f e
begun_cond false x y r f g e = g e

begun_by : (q r : Reading) → Some q ≡ Some r → begun q ≡ true → begun r ≡ true
begun_by q r e f = ap begun (sym (some_same q r e)) ∙ f

begun_step : (q r : Reading) (c : ℕ) → one q ≡ true → step q c ≡ Some r → begun r ≡ true
unfolding step
begun_step (Blank One) r c o e = begun_cond (eqb c 47) _ _ r (λ e. begun_by (Slash One) r e refl) (λ e. cc) e
begun_step (Slash One) r c o e = begun_cond (eqb c 42) _ _ r (λ e. begun_by (Note One) r e refl) (λ e. cc) e
begun_step (Note One) r c o e = begun_cond (eqb c 42) _ _ r (λ e. begun_by (NoteStar One) r e refl) (λ e. begun_by (Note One) r e refl) e
begun_step (NoteStar One) r c o e = begun_cond (eqb c 47) _ _ r (λ e. begun_by Done r e refl) (λ e. begun_cond (eqb c 42) _ _ r (λ e. begun_by (NoteStar One) r e refl) (λ e. begun_by (Note One) r e refl) e) e
begun_step Done r c o e = cc
begun_step q r c o e = absurd (false≢true o)

begun_go : (cs : List ℕ) (q p : Reading) → one q ≡ true → begun q ≡ true → read q cs ≡ Some p → begun p ≡ true
begun_go [] q p o b e = begun_by q p e b
begun_go (c ∷ cs) q p o b e = let h = read_head q p c cs e in begun_go cs h.0 p (one_step q h.0 c o h.1.0).one (begun_step q h.0 c o h.1.0) h.1.1

begun_read : (t : List ℕ) (p : Reading) → is_some_text t ≡ true → read (Blank One) t ≡ Some p → begun p ≡ true
begun_read [] p i e = absurd (false≢true i)
begun_read (c ∷ cs) p i e = let h = read_head (Blank One) p c cs e in begun_go cs h.0 p (one_step (Blank One) h.0 c refl h.1.0).one (begun_step (Blank One) h.0 c refl h.1.0) h.1.1

record Open_comment (q : Reading) (s : List ℕ) : Type 0 where
  pub whole : finished q ≡ Done
  pub unread : gap_read (Some (as_run q)) ≡ None
  pub stuck : Stuck (as_run q) s

never : (b : Bool) (x y : Reading) → cond b (Some x) (Some y) ≡ None → ⊥
never true x y e = cc
never false x y e = cc

slash_stuck : (s : List ℕ) → Stuck (Slash One) s → Stuck (Slash Comments) s
unfolding step
slash_stuck [] k = tt
slash_stuck (c ∷ cs) k = go (eqb c 42) k
  where
    go : (b : Bool) → cond b (Some (Note One)) None ≡ None → cond b (Some (Note Comments)) None ≡ None
    go true e = cc
    go false e = refl

note_stuck : (s : List ℕ) → Stuck (Note One) s → Stuck (Note Comments) s
unfolding step
note_stuck [] k = tt
note_stuck (c ∷ cs) k = absurd (never (eqb c 42) (NoteStar One) (Note One) k)

star_stuck : (s : List ℕ) → Stuck (NoteStar One) s → Stuck (NoteStar Comments) s
unfolding step
star_stuck [] k = tt
star_stuck (c ∷ cs) k = absurd (go (eqb c 47) (eqb c 42) k)
  where
    go : (a b : Bool) → cond a (Some Done) (cond b (Some (NoteStar One)) (Some (Note One))) ≡ None → ⊥
    go true b e = cc
    go false b e = never b (NoteStar One) (Note One) e

open_comment : (q : Reading) (s : List ℕ) → begun q ≡ true → (q ≡ Done → ⊥) → Stuck q s → Open_comment q s
unfolding finished
open_comment (Slash One) s b n k = record { whole = refl; unread = refl; stuck = slash_stuck s k }
open_comment (Note One) s b n k = record { whole = refl; unread = refl; stuck = note_stuck s k }
open_comment (NoteStar One) s b n k = record { whole = refl; unread = refl; stuck = star_stuck s k }
open_comment Done s b n k = absurd (n refl)
open_comment q s b n k = absurd (false≢true b)

goes : step (Blank One) 47 ≡ None → ⊥
unfolding step
goes e = cc

slash_some : (bs : List ℕ) (at : ℕ) (t s : List ℕ) (q : Reading) → IsFrom bs at (t ++ s) → get_or bs at 0 ≡ 47 → at < length bs → read (Blank One) t ≡ Some q → Stuck q s → is_some_text t ≡ true
slash_some bs at (c ∷ t) s q f b l r k = refl
slash_some bs at [] [] q f b l r k = absurd (no_length bs at l f.text)
slash_some bs at [] (c ∷ s) q f b l r k =
    let e : c ≡ 47 = eqb-true c 47 (sym (from_begins bs at c s 47 (lit< tt) f) ∙ ap (λ x. eqb x 47) b) in
    absurd (goes (ap (step (Blank One)) (sym e) ∙ ap (λ q. step q c) (some_same (Blank One) q r) ∙ k))

pub comment_halt : (bs : List ℕ) (at depth end : ℕ) (p : Phase) (q : Reading) (h : Scanned bs at (Blank One) end q) → comment_next p ≡ Some Commented → get_or bs at 0 ≡ 47 → at < length bs → (q ≡ Done → ⊥) → IsHalt bs at depth p end
comment_halt bs at depth end p q h c b l n =
    let i = slash_some bs at h.inner h.ahead q h.front b l h.reads h.stuck in
    let o = open_comment q h.ahead (begun_read h.inner q i h.reads) n h.stuck in
    let w = made_whole (Blank One) q h.inner h.reads ∙ ap Some o.whole in
    let e = before_nesting depth at p Commented comment (h.inner ++ finish q) (ap (λ o. if_so (is_done o) (comment_next p)) w ∙ c) (nesting_commented depth (at + byte_len (h.inner ++ finish q))) in
    record {
      front = h.inner;
      back = h.ahead;
      fits = h.front.fits;
      text = h.front.text;
      size = sym (slice_length bs at end h.inner h.slice);
      parts = e.parts;
      more = finish q ++ e.more;
      last = e.last;
      ends = e.ends;
      are = e.are;
      goes = e.goes ∙ append_assoc h.inner (finish q) e.more;
      blocked = λ m w k. go p c h.inner i (one_read h.inner (Blank One) q refl h.reads) m w k o.unread o.stuck;
    }
  where
    go : (p : Phase) → comment_next p ≡ Some Commented → (t : List ℕ) → is_some_text t ≡ true → read (Blank Comments) t ≡ Some (as_run q) → (m : Place) → Matches p m → Calm depth p m (t ++ h.ahead) → gap_read (Some (as_run q)) ≡ None → Stuck (as_run q) h.ahead
        → (s : Stand) × ((follow depth m t ≡ Some s) × Blocked s.0 s.1 h.ahead)
    go Inside c [] i r m w k u z = absurd (false≢true i)
    go Inside c (d ∷ cs) i r m w k u z = let v = gap_moves depth Inside m (as_run q) d cs h.ahead refl w k r in ((depth, in_gap false v.0 (as_run q)), (v.1, gap_halts depth false v.0 (as_run q) h.ahead u z))
    go Commented c t i r (in_gap false f o) w k u z = ((depth, in_gap false f (as_run q)), (ap (λ x. follow depth (in_gap false f x) t) w ∙ follow_gap depth false f (Blank Comments) (as_run q) t r, gap_halts depth false f (as_run q) h.ahead u z))
    go Commented c t i r (in_gap true f o) w k u z = absurd w
    go Commented c t i r (at_start f) w k u z = absurd w
    go Commented c t i r (in_simple o x) w k u z = absurd w
    go Commented c t i r (in_text o) w k u z = absurd w
    go Fresh c t i r m w k u z = absurd (no_phase c)
      where
        no_phase : ◌≡◌ {A = Option Phase} None (Some Commented) → ⊥
        no_phase e = cc
    go Open c t i r m w k u z = absurd (no_phase c)
      where
        no_phase : ◌≡◌ {A = Option Phase} None (Some Commented) → ⊥
        no_phase e = cc
    go Trailing c t i r m w k u z = absurd (no_phase c)
      where
        no_phase : ◌≡◌ {A = Option Phase} None (Some Commented) → ⊥
        no_phase e = cc
