-- Blanks, comments and combinators.
use Rattle.std.proofs.Common.{◌≡◌, ℕ, Bool, true, false, cond, eqb, List, [], ◌∷◌, Option, Some, None, refl, ap, sym, ◌∙◌, subst}
use Rattle.std.specs.Prelude.{◌&&◌}
use Rattle.std.proofs.lemmas.Bool.{false≢true}
use Rattle.css_text.specs.Characters.{is_space}
use Rattle.selector_parse.specs.declared.part.PartKind.{PartKind}
use Rattle.selector_parse.specs.declared.part.PartKind.TheVariants.{Blank as BlankPart, Combinator}
use Rattle.selector_parse.specs.declared.phase.Phase.{Phase}
use Rattle.selector_parse.specs.declared.phase.Phase.TheVariants.{Fresh, Open, Inside, Commented, Trailing}
use Rattle.selector_parse.specs.declared.reading.Gap.{Gap}
use Rattle.selector_parse.specs.declared.reading.Gap.TheVariants.{One, Comments, Spaced, Symbol}
use Rattle.selector_parse.specs.declared.reading.Reading.{Reading}
use Rattle.selector_parse.specs.declared.reading.Reading.TheVariants.{First, Next, ElementName, ElementEscape, Star, Bar, Colon, NameFirst, Name, NameEscape, Done, Text, TextEscape, Quoted, QuotedEscape, Blank, Slash, Note, NoteStar}
use Rattle.selector_parse.specs.Forms.{is_symbol}
use Rattle.selector_parse.specs.Reading.{step, on, read}
use Rattle.selector_parse.specs.Tree.{GapKind, blank as blank_gap, comment, combinator, none, gap, absent, made}
use Rattle.selector_parse.specs.Phases.{gap_of, is_blanks, is_done, is_some_text, if_so, comment_next, gap_next}
use Rattle.selector_parse.specs.Row.{gap_choice, takes_gap}

-- a reading of blanks and signs, of no single comment
abbrev pub is_run : Reading → Bool
is_run (Blank One) = false
is_run (Slash One) = false
is_run (Note One) = false
is_run (NoteStar One) = false
is_run (Blank g) = true
is_run (Slash g) = true
is_run (Note g) = true
is_run (NoteStar g) = true
is_run q = false

abbrev stays : Option Reading → Bool
stays None = true
stays (Some q) = is_run q

stays-cond : (b : Bool) (x y : Option Reading) → stays x ≡ true → stays y ≡ true → stays (cond b x y) ≡ true
stays-cond true x y e f = e
stays-cond false x y e f = f

run_step : (q : Reading) (c : ℕ) → is_run q ≡ true → stays (step q c) ≡ true
unfolding step
run_step (Blank One) c e = absurd (false≢true e)
run_step (Blank Comments) c e = stays-cond (eqb c 47) _ _ refl (stays-cond (is_space c) _ _ refl (stays-cond (is_symbol c) _ _ refl refl))
run_step (Blank Spaced) c e = stays-cond (eqb c 47) _ _ refl (stays-cond (is_space c) _ _ refl (stays-cond (is_symbol c) _ _ refl refl))
run_step (Blank Symbol) c e = stays-cond (eqb c 47) _ _ refl (stays-cond (is_space c) _ _ refl refl)
run_step (Slash One) c e = absurd (false≢true e)
run_step (Slash Comments) c e = stays-cond (eqb c 42) _ _ refl refl
run_step (Slash Spaced) c e = stays-cond (eqb c 42) _ _ refl refl
run_step (Slash Symbol) c e = stays-cond (eqb c 42) _ _ refl refl
run_step (Note One) c e = absurd (false≢true e)
run_step (Note Comments) c e = stays-cond (eqb c 42) _ _ refl refl
run_step (Note Spaced) c e = stays-cond (eqb c 42) _ _ refl refl
run_step (Note Symbol) c e = stays-cond (eqb c 42) _ _ refl refl
run_step (NoteStar One) c e = absurd (false≢true e)
run_step (NoteStar Comments) c e = stays-cond (eqb c 47) _ _ refl (stays-cond (eqb c 42) _ _ refl refl)
run_step (NoteStar Spaced) c e = stays-cond (eqb c 47) _ _ refl (stays-cond (eqb c 42) _ _ refl refl)
run_step (NoteStar Symbol) c e = stays-cond (eqb c 47) _ _ refl (stays-cond (eqb c 42) _ _ refl refl)
run_step First c e = absurd (false≢true e)
run_step Next c e = absurd (false≢true e)
run_step ElementName c e = absurd (false≢true e)
run_step ElementEscape c e = absurd (false≢true e)
run_step Star c e = absurd (false≢true e)
run_step Bar c e = absurd (false≢true e)
run_step Colon c e = absurd (false≢true e)
run_step NameFirst c e = absurd (false≢true e)
run_step Name c e = absurd (false≢true e)
run_step NameEscape c e = absurd (false≢true e)
run_step Done c e = absurd (false≢true e)
run_step (Text w) c e = absurd (false≢true e)
run_step (TextEscape w) c e = absurd (false≢true e)
run_step (Quoted d w) c e = absurd (false≢true e)
run_step (QuotedEscape d w) c e = absurd (false≢true e)

run_go : (cs : List ℕ) (q p : Reading) (o : Option Reading) → stays o ≡ true → on o (λ r. read r cs) ≡ Some p → ((r : Reading) → is_run r ≡ true → read r cs ≡ Some p → is_run p ≡ true) → is_run p ≡ true
run_go cs q p None s e ih = cc
run_go cs q p (Some r) s e ih = ih r s e

some_same : (q p : Reading) → Some q ≡ Some p → q ≡ p
some_same q p e = cc

pub run_read : (cs : List ℕ) (q p : Reading) → is_run q ≡ true → read q cs ≡ Some p → is_run p ≡ true
run_read [] q p r e = ap is_run (sym (some_same q p e)) ∙ r
run_read (c ∷ cs) q p r e = run_go cs q p (step q c) (run_step q c r) e (λ r. run_read cs r p)

-- the gap that has been chosen is one that the grammar takes
pub record Chosen (p q : Phase) (k : PartKind) (t : List ℕ) : Type 0 where
  pub kind : GapKind
  pub is : (at : ℕ) → made k at t absent none ≡ gap kind at t none
  pub next : gap_next p kind t ≡ Some q
  pub other : kind ≡ comment → ⊥

blank_other : blank_gap ≡ comment → ⊥
blank_other e = cc

sign_other : combinator ≡ comment → ⊥
sign_other e = cc

some_pair : (a b : PartKind) (p q : Phase) → ◌≡◌ {A = Option (PartKind × Phase)} (Some (a, p)) (Some (b, q)) → (a ≡ b) × (p ≡ q)
some_pair a b p q e = let f : ◌≡◌ {A = PartKind × Phase} (a, p) (b, q) = cc in (ap (λ x. x.0) f, ap (λ x. x.1) f)

blanks_go : (p q : Phase) (g : Gap) (t : List ℕ) → is_some_text t ≡ true → read (Blank Comments) t ≡ Some (Blank g) → is_blanks (Some g) ≡ true → if_so (is_some_text t && is_blanks (gap_of t)) (Some q) ≡ Some q
blanks_go p q g t s r b = rw (s, r) (ap (λ x. if_so x (Some q)) b)

chosen_blank : (p q : Phase) (k : PartKind) (g : Gap) (t : List ℕ) → is_some_text t ≡ true → read (Blank Comments) t ≡ Some (Blank g) → is_blanks (Some g) ≡ true
    → gap_next p blank_gap t ≡ if_so (is_some_text t && is_blanks (gap_of t)) (Some q) → BlankPart ≡ k → Chosen p q k t
chosen_blank p q k g t s r b n e = subst (λ k. Chosen p q k t) e (record { kind = blank_gap; is = λ at. refl; next = n ∙ blanks_go p q g t s r b; other = blank_other })

chosen_sign : (p q : Phase) (k : PartKind) (t : List ℕ) → gap_next p combinator t ≡ Some q → Combinator ≡ k → Chosen p q k t
chosen_sign p q k t n e = subst (λ k. Chosen p q k t) e (record { kind = combinator; is = λ at. refl; next = n; other = sign_other })

pub chosen : (p q : Phase) (k : PartKind) (g : Gap) (s : Bool) (t : List ℕ) → takes_gap p ≡ true → is_some_text t ≡ true → read (Blank Comments) t ≡ Some (Blank g) → gap_choice p g s ≡ Some (k, q) → Chosen p q k t
chosen Fresh q k One s t h n r e = absurd (false≢true (run_read t (Blank Comments) (Blank One) refl r))
chosen Fresh q k Comments s t h n r e = let f = some_pair BlankPart k Open q e in subst (λ q. Chosen Fresh q k t) f.1 (chosen_blank Fresh Open k Comments t n r refl refl f.0)
chosen Fresh q k Spaced s t h n r e = let f = some_pair BlankPart k Open q e in subst (λ q. Chosen Fresh q k t) f.1 (chosen_blank Fresh Open k Spaced t n r refl refl f.0)
chosen Fresh q k Symbol s t h n r e = let f = some_pair Combinator k Open q e in subst (λ q. Chosen Fresh q k t) f.1 (chosen_sign Fresh Open k t (rw r refl) f.0)
chosen Inside q k One s t h n r e = absurd (false≢true (run_read t (Blank Comments) (Blank One) refl r))
chosen Inside q k Comments true t h n r e = let f = some_pair BlankPart k Trailing q e in subst (λ q. Chosen Inside q k t) f.1 (chosen_blank Inside Trailing k Comments t n r refl refl f.0)
chosen Inside q k Spaced true t h n r e = let f = some_pair BlankPart k Trailing q e in subst (λ q. Chosen Inside q k t) f.1 (chosen_blank Inside Trailing k Spaced t n r refl refl f.0)
chosen Inside q k Comments false t h n r e = cc
chosen Inside q k Spaced false t h n r e = let f = some_pair Combinator k Open q e in subst (λ q. Chosen Inside q k t) f.1 (chosen_sign Inside Open k t (rw r refl) f.0)
chosen Inside q k Symbol s t h n r e = let f = some_pair Combinator k Open q e in subst (λ q. Chosen Inside q k t) f.1 (chosen_sign Inside Open k t (rw r refl) f.0)
chosen Open q k g s t h n r e = absurd (false≢true h)
chosen Commented q k g s t h n r e = absurd (false≢true h)
chosen Trailing q k g s t h n r e = absurd (false≢true h)

pub comment_is : (p : Phase) (t : List ℕ) (last : Reading) → comment_next p ≡ Some Commented → read (Blank One) t ≡ Some last → last ≡ Done → gap_next p comment t ≡ Some Commented
comment_is p t last n r d = ap (λ o. if_so (is_done o) (comment_next p)) (r ∙ ap Some d) ∙ n

-- a run that has held white space or a sign doesn't end as comments alone
abbrev is_far : Reading → Bool
is_far (Blank Spaced) = true
is_far (Blank Symbol) = true
is_far (Slash Spaced) = true
is_far (Slash Symbol) = true
is_far (Note Spaced) = true
is_far (Note Symbol) = true
is_far (NoteStar Spaced) = true
is_far (NoteStar Symbol) = true
is_far q = false

abbrev far_stays : Option Reading → Bool
far_stays None = true
far_stays (Some q) = is_far q

far-cond : (b : Bool) (x y : Option Reading) → far_stays x ≡ true → far_stays y ≡ true → far_stays (cond b x y) ≡ true
far-cond true x y e f = e
far-cond false x y e f = f

far_step : (q : Reading) (c : ℕ) → is_far q ≡ true → far_stays (step q c) ≡ true
unfolding step
far_step (Blank Spaced) c e = far-cond (eqb c 47) _ _ refl (far-cond (is_space c) _ _ refl (far-cond (is_symbol c) _ _ refl refl))
far_step (Blank Symbol) c e = far-cond (eqb c 47) _ _ refl (far-cond (is_space c) _ _ refl refl)
far_step (Slash Spaced) c e = far-cond (eqb c 42) _ _ refl refl
far_step (Slash Symbol) c e = far-cond (eqb c 42) _ _ refl refl
far_step (Note Spaced) c e = far-cond (eqb c 42) _ _ refl refl
far_step (Note Symbol) c e = far-cond (eqb c 42) _ _ refl refl
far_step (NoteStar Spaced) c e = far-cond (eqb c 47) _ _ refl (far-cond (eqb c 42) _ _ refl refl)
far_step (NoteStar Symbol) c e = far-cond (eqb c 47) _ _ refl (far-cond (eqb c 42) _ _ refl refl)
far_step q c e = absurd (false≢true e)

far_go : (cs : List ℕ) (p : Reading) (o : Option Reading) → far_stays o ≡ true → on o (λ r. read r cs) ≡ Some p → ((r : Reading) → is_far r ≡ true → read r cs ≡ Some p → is_far p ≡ true) → is_far p ≡ true
far_go cs p None s e ih = cc
far_go cs p (Some r) s e ih = ih r s e

pub far_read : (cs : List ℕ) (q p : Reading) → is_far q ≡ true → read q cs ≡ Some p → is_far p ≡ true
far_read [] q p r e = ap is_far (sym (some_same q p e)) ∙ r
far_read (c ∷ cs) q p r e = far_go cs p (step q c) (far_step q c r) e (λ r. far_read cs r p)

slash_go : (c : ℕ) (cs : List ℕ) (a b d : Bool) → on (cond a (Some (Slash Comments)) (cond b (Some (Blank Spaced)) (cond d (Some (Blank Symbol)) None))) (λ r. read r cs) ≡ Some (Blank Comments) → a ≡ true
slash_go c cs true b d e = refl
slash_go c cs false true d e = absurd (false≢true (far_read cs (Blank Spaced) (Blank Comments) refl e))
slash_go c cs false false true e = absurd (false≢true (far_read cs (Blank Symbol) (Blank Comments) refl e))
slash_go c cs false false false e = cc

-- comments alone begin with a slash
pub begins_slash : (c : ℕ) (cs : List ℕ) → read (Blank Comments) (c ∷ cs) ≡ Some (Blank Comments) → eqb c 47 ≡ true
unfolding step
begins_slash c cs e = slash_go c cs (eqb c 47) (is_space c) (is_symbol c) e

pub none_choice : (p : Phase) (g : Gap) (s : Bool) → gap_choice p g s ≡ None → takes_gap p ≡ true → is_run (Blank g) ≡ true → (p ≡ Inside) × (g ≡ Comments) × (s ≡ false)
none_choice Inside Comments false e h r = (refl, refl, refl)
none_choice Inside One s e h r = absurd (false≢true r)
none_choice Fresh One s e h r = absurd (false≢true r)
none_choice Inside Comments true e h r = cc
none_choice Inside Spaced true e h r = cc
none_choice Inside Spaced false e h r = cc
none_choice Inside Symbol s e h r = cc
none_choice Fresh Comments s e h r = cc
none_choice Fresh Spaced s e h r = cc
none_choice Fresh Symbol s e h r = cc
none_choice Open g s e h r = absurd (false≢true h)
none_choice Commented g s e h r = absurd (false≢true h)
none_choice Trailing g s e h r = absurd (false≢true h)

trailing_open : (a k : PartKind) → ◌≡◌ {A = Option (PartKind × Phase)} (Some (a, Trailing)) (Some (k, Open)) → ⊥
trailing_open a k e = let h : Trailing ≡ Open = (some_pair a k Trailing Open e).1 in apart h
  where
    apart : Trailing ≡ Open → ⊥
    apart e = cc

-- a combinator that is white space stands where no complex selector ends
pub open_choice : (g : Gap) (s b : Bool) (k : PartKind) → gap_choice Inside g s ≡ Some (k, Open) → (s ≡ false → b ≡ false) → (is_blanks (Some g) && b) ≡ false
open_choice One s b k e h = refl
open_choice Symbol s b k e h = refl
open_choice Comments true b k e h = absurd (trailing_open BlankPart k e)
open_choice Comments false b k e h = cc
open_choice Spaced true b k e h = absurd (trailing_open BlankPart k e)
open_choice Spaced false b k e h = h refl

open_trailing : (a k : PartKind) → ◌≡◌ {A = Option (PartKind × Phase)} (Some (a, Open)) (Some (k, Trailing)) → ⊥
open_trailing a k e = let h : Open ≡ Trailing = (some_pair a k Open Trailing e).1 in apart h
  where
    apart : Open ≡ Trailing → ⊥
    apart e = cc

-- blanks at the end stand where a complex selector ends
pub trailing_choice : (g : Gap) (s : Bool) (k : PartKind) → gap_choice Inside g s ≡ Some (k, Trailing) → s ≡ true
trailing_choice g true k e = refl
trailing_choice Symbol false k e = absurd (open_trailing Combinator k e)
trailing_choice Spaced false k e = absurd (open_trailing Combinator k e)
trailing_choice One false k e = cc
trailing_choice Comments false k e = cc
