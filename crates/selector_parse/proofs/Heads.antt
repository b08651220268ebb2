-- What stands at the front of parts.
use Rattle.std.proofs.Common.{◌≡◌, ℕ, ◌<◌, ◌≤◌, Bool, true, false, cond, eqb, List, [], ◌∷◌, Option, Some, None, refl, ap, sym, ◌∙◌, inl, inr, arith}
use Rattle.std.specs.Prelude.{◌&&◌, ◌||◌}
use Rattle.std.specs.Option.{is_some}
use Rattle.std.proofs.lemmas.Bool.{agree_below_at, cases_lt, ne_eqb, false≢true, true≢false}
use Rattle.css_text.specs.Characters.{is_space, is_quote}
use Rattle.selector_parse.specs.declared.phase.Phase.{Phase}
use Rattle.selector_parse.specs.declared.phase.Phase.TheVariants.{Fresh, Open, Inside, Commented, Trailing}
use Rattle.selector_parse.specs.declared.reading.Gap.TheVariants.{Comments}
use Rattle.selector_parse.specs.declared.reading.Within.TheVariants.{Brackets, Parentheses}
use Rattle.selector_parse.specs.declared.reading.Reading.{Reading}
use Rattle.selector_parse.specs.declared.reading.Reading.TheVariants.{First, Next, ElementName, ElementEscape, Star, Bar, Colon, NameFirst, Name, NameEscape, Done, Text, TextEscape, Quoted, QuotedEscape, Blank, Slash, Note, NoteStar}
use Rattle.selector_parse.specs.Forms.{is_name_char, is_break}
use Rattle.selector_parse.specs.Reading.{unit, hidden, next, before_symbol, quote, step, read, is_final}
use Rattle.selector_parse.specs.Phases.{starts}
use Rattle.selector_parse.specs.Machine.{Stuck}
use Rattle.selector_parse.proofs.High.{step-past}
use Rattle.selector_parse.proofs.Moves.{some_same, read_head}

-- readings of a simple selector
abbrev pub is_selector : Reading → Bool
is_selector (Text Brackets) = true
is_selector (TextEscape Brackets) = true
is_selector (Quoted d Brackets) = true
is_selector (QuotedEscape d Brackets) = true
is_selector (Text (Parentheses held most)) = false
is_selector (TextEscape (Parentheses held most)) = false
is_selector (Quoted d (Parentheses held most)) = false
is_selector (QuotedEscape d (Parentheses held most)) = false
is_selector (Blank g) = false
is_selector (Slash g) = false
is_selector (Note g) = false
is_selector (NoteStar g) = false
is_selector q = true

abbrev stays : Option Reading → Bool
stays None = true
stays (Some q) = is_selector q

stays-cond : (b : Bool) (x y : Option Reading) → stays x ≡ true → stays y ≡ true → stays (cond b x y) ≡ true
stays-cond true x y e f = e
stays-cond false x y e f = f

unit_stays : (p q : Reading) (c : ℕ) → is_selector p ≡ true → is_selector q ≡ true → stays (unit p q c) ≡ true
unit_stays p q c e f = stays-cond (is_name_char c) _ _ e (stays-cond (eqb c 92) _ _ f refl)

hidden_stays : (p : Reading) (c : ℕ) → is_selector p ≡ true → stays (hidden p c) ≡ true
hidden_stays p c e = stays-cond (is_break c) _ _ refl e

next_stays : (c : ℕ) → stays (next c) ≡ true
next_stays c = stays-cond (eqb c 35 || eqb c 46) _ _ refl (stays-cond (eqb c 58) _ _ refl (stays-cond (eqb c 91) _ _ refl (stays-cond (eqb c 38) _ _ refl refl)))

selector_step : (q : Reading) (c : ℕ) → is_selector q ≡ true → stays (step q c) ≡ true
unfolding step
selector_step First c e = stays-cond (is_name_char c) _ _ refl (stays-cond (eqb c 92) _ _ refl (stays-cond (eqb c 42) _ _ refl (stays-cond (eqb c 124) _ _ refl (next_stays c))))
selector_step Next c e = next_stays c
selector_step ElementName c e = stays-cond (eqb c 124) _ _ refl (unit_stays ElementName ElementEscape c refl refl)
selector_step ElementEscape c e = hidden_stays ElementName c refl
selector_step Star c e = stays-cond (eqb c 124) _ _ refl refl
selector_step Bar c e = stays-cond (eqb c 42) _ _ refl (unit_stays Name NameEscape c refl refl)
selector_step Colon c e = stays-cond (eqb c 58) _ _ refl (unit_stays Name NameEscape c refl refl)
selector_step NameFirst c e = unit_stays Name NameEscape c refl refl
selector_step Name c e = unit_stays Name NameEscape c refl refl
selector_step NameEscape c e = hidden_stays Name c refl
selector_step Done c e = refl
selector_step (Text Brackets) c e = stays-cond (eqb c 92) _ _ refl (stays-cond (is_quote c) _ _ refl (stays-cond (eqb c 93) _ _ refl refl))
selector_step (TextEscape Brackets) c e = refl
selector_step (Quoted d Brackets) c e = stays-cond (eqb c (quote d)) _ _ refl (stays-cond (eqb c 92) _ _ refl refl)
selector_step (QuotedEscape d Brackets) c e = refl
selector_step (Text (Parentheses held most)) c e = absurd (false≢true e)
selector_step (TextEscape (Parentheses held most)) c e = absurd (false≢true e)
selector_step (Quoted d (Parentheses held most)) c e = absurd (false≢true e)
selector_step (QuotedEscape d (Parentheses held most)) c e = absurd (false≢true e)
selector_step (Blank g) c e = absurd (false≢true e)
selector_step (Slash g) c e = absurd (false≢true e)
selector_step (Note g) c e = absurd (false≢true e)
selector_step (NoteStar g) c e = absurd (false≢true e)

pub selector_read : (cs : List ℕ) (q p : Reading) → is_selector q ≡ true → read q cs ≡ Some p → is_selector p ≡ true
selector_read [] q p s e = ap is_selector (sym (some_same q p e)) ∙ s
selector_read (c ∷ cs) q p s e = let h = read_head q p c cs e in selector_read cs h.0 p (sym (ap stays h.1.0) ∙ selector_step q c s) h.1.1

pub starts_selector : (p : Phase) (q : Reading) → starts p ≡ Some q → is_selector q ≡ true
starts_selector Fresh q e = ap is_selector (sym (some_same First q e))
starts_selector Open q e = ap is_selector (sym (some_same First q e))
starts_selector Inside q e = ap is_selector (sym (some_same Next q e))
starts_selector Commented q e = ap is_selector (sym (some_same Next q e))
starts_selector Trailing q e = cc

-- what may stand after a simple selector
abbrev pub opens : ℕ → Bool
opens c = is_some (before_symbol Comments c) || (is_some (next c) || (eqb c 44 || (eqb c 41 || eqb c 40)))

abbrev goes_on : ℕ → Bool
goes_on c = (is_name_char c || (eqb c 92 || eqb c 124)) && opens c

none_go_on : (c : ℕ) → c < 128 → goes_on c ≡ false
unfolding is_space
none_go_on c l = agree_below_at goes_on (λ b. false) 128 c refl l

high_opens : (c : ℕ) → 128 ≤ c → opens c ≡ false
unfolding step
high_opens c h = rw (step-past c h (Blank Comments), step-past c h Next, ne_eqb c 44 (λ e. omega arith), ne_eqb c 41 (λ e. omega arith), ne_eqb c 40 (λ e. omega arith)) refl

name_parts : (c : ℕ) → opens c ≡ true → (is_name_char c ≡ false) × (eqb c 92 ≡ false) × (eqb c 124 ≡ false)
name_parts c o = elim (cases_lt c 128) [
  | inl l ↦ go (is_name_char c) (eqb c 92) (eqb c 124) (opens c) (none_go_on c l) o
  | inr h ↦ absurd (false≢true (sym (high_opens c h) ∙ o))
]
  where
    go : (a b d x : Bool) → ((a || (b || d)) && x) ≡ false → x ≡ true → (a ≡ false) × (b ≡ false) × (d ≡ false)
    go false false false x e f = (refl, refl, refl)
    go true b d true e f = absurd (true≢false e)
    go false true d true e f = absurd (true≢false e)
    go false false true true e f = absurd (true≢false e)
    go a b d false e f = absurd (false≢true f)

pub quiet : (q : Reading) (c : ℕ) → is_selector q ≡ true → is_final q ≡ true → opens c ≡ true → step q c ≡ None
unfolding step
quiet ElementName c s f o = let n = name_parts c o in rw (n.2, n.0, n.1) refl
quiet Star c s f o = let n = name_parts c o in rw n.2 refl
quiet Name c s f o = let n = name_parts c o in rw (n.0, n.1) refl
quiet Done c s f o = refl
quiet (Text (Parentheses held most)) c s f o = absurd (false≢true s)
quiet (Blank g) c s f o = absurd (false≢true s)
quiet q c s f o = absurd (false≢true f)

abbrev pub head_opens : List ℕ → Bool
head_opens [] = true
head_opens (c ∷ cs) = opens c

pub quiet_head : (q : Reading) (y : List ℕ) → is_selector q ≡ true → is_final q ≡ true → head_opens y ≡ true → Stuck q y
quiet_head q [] s f o = tt
quiet_head q (c ∷ cs) s f o = quiet q c s f o

some_is : (o : Option Reading) (q : Reading) → o ≡ Some q → is_some o ≡ true
some_is o q e = ap is_some e

or_left : (a b : Bool) → a ≡ true → (a || b) ≡ true
or_left a b e = ap (λ x. x || b) e

or_right : (a b : Bool) → b ≡ true → (a || b) ≡ true
or_right true b e = refl
or_right false b e = e

pub blank_opens : (c : ℕ) (q : Reading) → step (Blank Comments) c ≡ Some q → opens c ≡ true
unfolding step
blank_opens c q e = or_left (is_some (before_symbol Comments c)) _ (some_is (before_symbol Comments c) q e)

pub next_opens : (c : ℕ) (q : Reading) → step Next c ≡ Some q → opens c ≡ true
unfolding step
next_opens c q e = or_right (is_some (before_symbol Comments c)) _ (or_left (is_some (next c)) _ (some_is (next c) q e))

-- a character with which something begins isn't one with which it doesn't
pub differs : (p q : Reading) (c k : ℕ) → step p c ≡ Some q → step p k ≡ None → eqb c k ≡ false
differs p q c k e f = ne_eqb c k (λ z. nothing (sym (ap (step p) z ∙ f) ∙ e))
  where
    nothing : None ≡ Some q → ⊥
    nothing e = cc
