-- Where nothing begins, the reader is blocked.
use Rattle.std.proofs.Common.{◌≡◌, ℕ, zero, suc, ◌-◌, Bool, true, false, cond, eqb, List, [], ◌∷◌, ◌++◌, drop, Some, None, refl, ap, sym, ◌∙◌, arith}
use Rattle.std.specs.Prelude.{◌&&◌, ◌||◌, nat_lt}
use Rattle.std.proofs.lemmas.Bool.{false≢true, true≢false, lt-ltb}
use Rattle.css_text.specs.Characters.{is_space}
use Rattle.css_text.specs.Forms.{begins}
use Rattle.selector_parse.specs.declared.phase.Phase.{Phase}
use Rattle.selector_parse.specs.declared.phase.Phase.TheVariants.{Fresh, Open, Inside, Commented, Trailing}
use Rattle.selector_parse.specs.declared.reading.Gap.{Gap}
use Rattle.selector_parse.specs.declared.reading.Gap.TheVariants.{Comments, Spaced, Symbol}
use Rattle.selector_parse.specs.declared.reading.Reading.{Reading}
use Rattle.selector_parse.specs.declared.reading.Within.TheVariants.{Parentheses}
use Rattle.selector_parse.specs.declared.reading.Reading.TheVariants.{First, Next, Done, Text, Blank, Slash}
use Rattle.selector_parse.specs.Forms.{is_symbol}
use Rattle.selector_parse.specs.Reading.{step, on, or_on, is_final, scan_last}
use Rattle.selector_parse.specs.Names.{takes_args, takes_list}
use Rattle.selector_parse.specs.Grammar.{most_depth}
use Rattle.selector_parse.specs.Phases.{gap_read, is_blanks, starts, may_end}
use Rattle.selector_parse.specs.Machine.{Place, at_start, in_gap, in_simple, in_text, or_else, pop, enders, begin, begin_gap, opener, closer, gap_end, simple_end, open_args, move, accepts, Blocked, Stuck, Matches, Calm, after_run, blank_list, text_stops, open_stops}
use Rattle.selector_parse.specs.Row.{takes_gap}
use Rattle.selector_parse.proofs.Scanned.{read_scan}
use Rattle.selector_parse.proofs.Gaps.{far_read}
use Rattle.selector_parse.proofs.Moves.{some_same, after_simple, after_gap_end, stuck_last, stuck_len}

enders_none : (d c : ℕ) (cs : List ℕ) → text_stops d (c ∷ cs) ≡ false → enders d c ≡ None
enders_none d c cs h = go (eqb c 44) (eqb c 41) d h
  where
    go : (a b : Bool) (d : ℕ) → (a || (b && nat_lt 0 d)) ≡ false → cond a (Some (d, at_start false)) (cond b (pop d) None) ≡ None
    go true b d h = absurd (true≢false h)
    go false false d h = refl
    go false true zero h = refl
    go false true (suc d) h = absurd (true≢false (sym (lt-ltb 0 (suc d) (omega arith)) ∙ h))

no_begin : (d c : ℕ) (q : Reading) → step q c ≡ None → begin q d c ≡ None
no_begin d c q e = ap (λ o. on o (λ p. Some (d, in_simple p (c ∷ [])))) e

no_gap : (l f : Bool) (d c : ℕ) → step (Blank Comments) c ≡ None → begin_gap l f d c ≡ None
no_gap l f d c e = ap (λ o. on o (λ p. Some (d, in_gap l f p))) e

blank_here : (c : ℕ) (cs : List ℕ) → step (Blank Comments) c ≡ None → blank_list (c ∷ cs) ≡ eqb c 41
blank_here c cs e = ap (λ q. is_blanks (gap_read (Some q)) && begins 41 (after_run (c ∷ cs))) (stuck_last (Blank Comments) (c ∷ cs) e) ∙ ap (λ n. begins 41 (drop n (c ∷ cs))) (stuck_len (Blank Comments) (c ∷ cs) e)

start_blocked : (d : ℕ) (f : Bool) (c : ℕ) (cs : List ℕ) → step (Blank Comments) c ≡ None → step First c ≡ None → (f ≡ true → blank_list (c ∷ cs) ≡ false) → move d (at_start f) c ≡ None
start_blocked d f c cs b n k = ap (λ o. or_else o (or_else (begin First d c) (cond (f && eqb c 41) (pop d) None))) (no_gap true f d c b) ∙ ap (λ o. or_else o (cond (f && eqb c 41) (pop d) None)) (no_begin d c First n) ∙ go f k
  where
    go : (f : Bool) → (f ≡ true → blank_list (c ∷ cs) ≡ false) → cond (f && eqb c 41) (pop d) None ≡ None
    go false k = refl
    go true k = ap (λ x. cond x (pop d) None) (sym (blank_here c cs b) ∙ k refl)

gap_blocked : (d : ℕ) (l f : Bool) (q : Reading) (g : Gap) (c : ℕ) (cs : List ℕ) → step q c ≡ None → gap_read (Some q) ≡ Some g → step (opener l g) c ≡ None → open_stops d l f q (c ∷ cs) ≡ false → move d (in_gap l f q) c ≡ None
gap_blocked d l f q g c cs s r n k = after_gap_end d l f q g c s r ∙ ap (λ o. or_else o (closer l f g d c)) (no_begin d c (opener l g) n) ∙ go l k
  where
    stops_so : (b : Bool) → (b && text_stops d (c ∷ cs)) ≡ false → cond b (enders d c) None ≡ None
    stops_so true h = enders_none d c cs h
    stops_so false h = refl

    go : (l : Bool) → open_stops d l f q (c ∷ cs) ≡ false → closer l f g d c ≡ None
    go true k = ap (λ x. cond x (pop d) None) (ap (λ o. f && is_blanks o && eqb c 41) (sym r) ∙ k)
    go false k = stops_so (is_blanks (Some g)) (ap (λ o. is_blanks o && text_stops d (c ∷ cs)) (sym r) ∙ k)

gap_unended : (d : ℕ) (l f : Bool) (q : Reading) → open_stops d l f q [] ≡ false → accepts d (in_gap l f q) ≡ false
gap_unended (suc d) l f q k = refl
gap_unended zero true f q k = refl
gap_unended zero false f q k = go (is_blanks (gap_read (Some q))) k
  where
    go : (b : Bool) → (b && true) ≡ false → b ≡ false
    go true k = absurd (true≢false k)
    go false k = refl

simple_blocked : (d : ℕ) (q : Reading) (t : List ℕ) (c : ℕ) (cs : List ℕ) → step q c ≡ None → is_final q ≡ true → step (Blank Comments) c ≡ None → step Next c ≡ None → (takes_args t && eqb c 40) ≡ false → text_stops d (c ∷ cs) ≡ false → move d (in_simple q t) c ≡ None
simple_blocked d q t c cs s f b n a k = after_simple d q t c s f ∙ ap (λ o. or_else o (or_else (begin Next d c) (cond (eqb c 40) (open_args d t) (enders d c)))) (no_gap false false d c b)
    ∙ ap (λ o. or_else o (cond (eqb c 40) (open_args d t) (enders d c))) (no_begin d c Next n) ∙ go (takes_args t) (eqb c 40) a
  where
    go : (x y : Bool) → (x && y) ≡ false → cond y (cond (x && nat_lt d most_depth) (cond (takes_list t) (Some (suc d, at_start true)) (Some (d, in_text (Text (Parentheses 0 (most_depth - suc d)))))) None) (enders d c) ≡ None
    go true true h = absurd (true≢false h)
    go false true h = refl
    go x false h = enders_none d c cs k

-- after comments alone stands nothing that goes on in them
run_go : (c : ℕ) (cs : List ℕ) (a b e : Bool) → a ≡ false → or_on (cond a (Some (Slash Comments)) (cond b (Some (Blank Spaced)) (cond e (Some (Blank Symbol)) None))) (Blank Comments) (λ p. scan_last p cs) ≡ Blank Comments
    → cond a (Some (Slash Comments)) (cond b (Some (Blank Spaced)) (cond e (Some (Blank Symbol)) None)) ≡ None
run_go c cs true b e f h = absurd (true≢false f)
run_go c cs false true e f h = absurd (false≢true (far_read _ (Blank Spaced) (Blank Comments) refl (read_scan cs (Blank Spaced) ∙ ap Some h)))
run_go c cs false false true f h = absurd (false≢true (far_read _ (Blank Symbol) (Blank Comments) refl (read_scan cs (Blank Symbol) ∙ ap Some h)))
run_go c cs false false false f h = refl

run_stuck : (c : ℕ) (cs : List ℕ) → eqb c 47 ≡ false → scan_last (Blank Comments) (c ∷ cs) ≡ Blank Comments → step (Blank Comments) c ≡ None
unfolding step
run_stuck c cs e h = run_go c cs (eqb c 47) (is_space c) (is_symbol c) e h

module _ (d : ℕ) (q0 : Reading) where
  idle_some : (c : ℕ) (cs : List ℕ) (p : Phase) (m : Place) → Matches p m → Calm d p m (c ∷ cs) → starts p ≡ Some q0 → step q0 c ≡ None → (takes_gap p ≡ true → step (Blank Comments) c ≡ None) → (may_end p ≡ true → text_stops d (c ∷ cs) ≡ false)
      → (p ≡ Commented → eqb c 47 ≡ false) → move d m c ≡ None
  idle_some c cs Fresh (at_start f) w k h s g e z = start_blocked d f c cs (g refl) (ap (λ q. step q c) (some_same First q0 h) ∙ s) k
  idle_some c cs Open (in_gap l f q) w k h s g e z = gap_blocked d l f q w.0 c cs k.0 w.1.0 (ap (λ q. step q c) (w.1.1 ∙ some_same First q0 h) ∙ s) k.1
  idle_some c cs Inside (in_simple q t) w k h s g e z = simple_blocked d q t c cs k.0 w (g refl) (ap (λ q. step q c) (some_same Next q0 h) ∙ s) k.1 (e refl)
  idle_some c cs Commented (in_gap false f q) w k h s g e z =
      let b = run_stuck c cs (z refl) k.0 in
      let t : text_stops d (c ∷ cs) ≡ false = ap (λ n. text_stops d (drop n (c ∷ cs))) (sym (stuck_len (Blank Comments) (c ∷ cs) b)) ∙ k.1 in
      gap_blocked d false f q Comments c cs (ap (λ q. step q c) w ∙ b) (ap (λ q. gap_read (Some q)) w) (ap (λ q. step q c) (some_same Next q0 h) ∙ s) (ap (λ q. is_blanks (gap_read (Some q)) && text_stops d (c ∷ cs)) w ∙ t)
  idle_some c cs Fresh (in_gap l f q) w k h s g e z = absurd w
  idle_some c cs Fresh (in_simple q t) w k h s g e z = absurd w
  idle_some c cs Fresh (in_text q) w k h s g e z = absurd w
  idle_some c cs Open (at_start f) w k h s g e z = absurd w
  idle_some c cs Open (in_simple q t) w k h s g e z = absurd w
  idle_some c cs Open (in_text q) w k h s g e z = absurd w
  idle_some c cs Inside (at_start f) w k h s g e z = absurd w
  idle_some c cs Inside (in_gap l f q) w k h s g e z = absurd w
  idle_some c cs Inside (in_text q) w k h s g e z = absurd w
  idle_some c cs Commented (at_start f) w k h s g e z = absurd w
  idle_some c cs Commented (in_gap true f q) w k h s g e z = absurd w
  idle_some c cs Commented (in_simple q t) w k h s g e z = absurd w
  idle_some c cs Commented (in_text q) w k h s g e z = absurd w
  idle_some c cs Trailing m w k h s g e z = cc

  idle_end : (p : Phase) (m : Place) → Matches p m → Calm d p m [] → starts p ≡ Some q0 → (may_end p ≡ true → text_stops d [] ≡ false) → accepts d m ≡ false
  idle_end Fresh (at_start f) w k h e = go d
    where
      go : (d : ℕ) → accepts d (at_start f) ≡ false
      go zero = refl
      go (suc d) = refl
  idle_end Open (in_gap l f q) w k h e = gap_unended d l f q k.1
  idle_end Inside m w k h e = absurd (true≢false (e refl))
  idle_end Commented m w k h e = absurd (true≢false k.1)
  idle_end Fresh (in_gap l f q) w k h e = absurd w
  idle_end Fresh (in_simple q t) w k h e = absurd w
  idle_end Fresh (in_text q) w k h e = absurd w
  idle_end Open (at_start f) w k h e = absurd w
  idle_end Open (in_simple q t) w k h e = absurd w
  idle_end Open (in_text q) w k h e = absurd w
  idle_end Trailing m w k h e = cc

pub idle : (d : ℕ) (p : Phase) (m : Place) (q0 : Reading) (s : List ℕ) → Matches p m → Calm d p m s → starts p ≡ Some q0 → Stuck q0 s → (takes_gap p ≡ true → Stuck (Blank Comments) s) → (may_end p ≡ true → text_stops d s ≡ false)
    → (p ≡ Commented → begins 47 s ≡ false) → Blocked d m s
idle d p m q0 [] w k h s g e z = idle_end d q0 p m w k h e
idle d p m q0 (c ∷ cs) w k h s g e z = idle_some d q0 c cs p m w k h s g e z

-- within a part that may not end
pub simple_halts : (d : ℕ) (q : Reading) (t s : List ℕ) → is_final q ≡ false → Stuck q s → Blocked d (in_simple q t) s
simple_halts zero q t [] f k = f
simple_halts (suc d) q t [] f k = refl
simple_halts d q t (c ∷ cs) f k = ap (λ o. or_else (on o (λ p. Some (d, in_simple p (t ++ c ∷ [])))) (cond (is_final q) (simple_end d t c) None)) k ∙ ap (λ b. cond b (simple_end d t c) None) f

pub gap_halts : (d : ℕ) (l f : Bool) (q : Reading) (s : List ℕ) → gap_read (Some q) ≡ None → Stuck q s → Blocked d (in_gap l f q) s
gap_halts zero true f q [] r k = refl
gap_halts zero false f q [] r k = ap is_blanks r
gap_halts (suc d) l f q [] r k = refl
gap_halts d l f q (c ∷ cs) r k = ap (λ o. or_else (on o (λ p. Some (d, in_gap l f p))) (gap_end l f (gap_read (Some q)) d c)) k ∙ ap (λ o. gap_end l f o d c) r

pub text_halts : (d : ℕ) (q : Reading) (s : List ℕ) → (is_final q && begins 41 s) ≡ false → Stuck q s → Blocked d (in_text q) s
text_halts zero q [] f k = refl
text_halts (suc d) q [] f k = refl
text_halts d q (c ∷ cs) f k = ap (λ o. or_else (on o (λ p. Some (d, in_text p))) (cond (is_final q && eqb c 41) (Some (d, in_simple Done [])) None)) k ∙ ap (λ b. cond b (Some (d, in_simple Done [])) None) f
