-- Gaps lead the reader to where a part may follow.
use Rattle.std.proofs.Common.{◌≡◌, ℕ, Bool, true, false, cond, eqb, List, [], ◌∷◌, ◌++◌, Some, None, refl, ap, sym, ◌∙◌, subst}
use Rattle.std.specs.Prelude.{◌&&◌}
use Rattle.std.proofs.lemmas.Bool.{false≢true}
use Rattle.css_text.specs.Forms.{begins}
use Rattle.selector_parse.specs.declared.phase.Phase.{Phase}
use Rattle.selector_parse.specs.declared.phase.Phase.TheVariants.{Fresh, Open, Inside, Commented, Trailing}
use Rattle.selector_parse.specs.declared.reading.Gap.TheVariants.{Comments}
use Rattle.selector_parse.specs.declared.reading.Reading.{Reading}
use Rattle.selector_parse.specs.declared.reading.Reading.TheVariants.{First, Blank}
use Rattle.selector_parse.specs.Reading.{read, scan_last}
use Rattle.selector_parse.specs.Tree.{GapKind, blank as blank_gap, comment, combinator}
use Rattle.selector_parse.specs.Phases.{gap_read, gap_of, is_blanks, is_some_text, gap_next}
use Rattle.selector_parse.specs.Machine.{Place, at_start, in_gap, in_simple, in_text, or_else, pop, begin, follow, Stuck, blank_list, text_stops, open_stops, Matches, Calm, Moves}
use Rattle.selector_parse.proofs.Moves.{some_same, read_head, moved, follow_gap, gap_begun, gap_moves, if_so_parts, none_some, sign_some, gap_gaps, gap_matches, run_last, run_after}

calm_gap : (d : ℕ) (p q : Phase) (k : GapKind) (t y : List ℕ) (l f : Bool) (last : Reading) → gap_next p k t ≡ Some q → (k ≡ comment → ⊥) → Stuck last y → (q ≡ Open → open_stops d l f last y ≡ false) → (q ≡ Trailing → text_stops d y ≡ true) → Calm d q (in_gap l f last) y
calm_gap d p q comment t y l f last e n s o v = absurd (n refl)
calm_gap d p q combinator t y l f last e n s o v = let h = (sign_some p (gap_of t) q e).1.2 in subst (λ q. Calm d q (in_gap l f last) y) (sym h) (s, o h)
calm_gap d Fresh q blank_gap t y l f last e n s o v = let h = some_same Open q (if_so_parts (is_some_text t && is_blanks (gap_of t)) (Some Open) q e).1 in subst (λ q. Calm d q (in_gap l f last) y) h (s, o (sym h))
calm_gap d Inside q blank_gap t y l f last e n s o v = subst (λ q. Calm d q (in_gap l f last) y) (some_same Trailing q (if_so_parts (is_some_text t && is_blanks (gap_of t)) (Some Trailing) q e).1) (s, v (sym (some_same Trailing q (if_so_parts (is_some_text t && is_blanks (gap_of t)) (Some Trailing) q e).1)))
calm_gap d Open q blank_gap t y l f last e n s o v = absurd (none_some _ q e)
calm_gap d Commented q blank_gap t y l f last e n s o v = absurd (none_some _ q e)
calm_gap d Trailing q blank_gap t y l f last e n s o v = absurd (none_some _ q e)

-- a leading gap of a list stands before no `)`
lead_stops : (d : ℕ) (f : Bool) (last : Reading) (t y : List ℕ) → read (Blank Comments) t ≡ Some last → Stuck last y → (f ≡ true → blank_list (t ++ y) ≡ false) → open_stops d true f last y ≡ false
lead_stops d false last t y r s h = refl
lead_stops d true last t y r s h = ap (λ q. is_blanks (gap_read (Some q)) && begins 41 y) (sym (run_last t y last r s)) ∙ ap (λ z. is_blanks (gap_read (Some (scan_last (Blank Comments) (t ++ y)))) && begins 41 z) (sym (run_after t y last r s)) ∙ h refl

fresh_trailing : (q : Phase) (k : GapKind) (t : List ℕ) → gap_next Fresh k t ≡ Some q → q ≡ Trailing → ⊥
fresh_trailing q combinator t e z = apart (sym (sign_some Fresh (gap_of t) q e).1.2 ∙ z)
  where
    apart : Open ≡ Trailing → ⊥
    apart e = cc
fresh_trailing q comment t e z = none_some _ q e
fresh_trailing q blank_gap t e z = apart (some_same Open q (if_so_parts (is_some_text t && is_blanks (gap_of t)) (Some Open) q e).1 ∙ z)
  where
    apart : Open ≡ Trailing → ⊥
    apart e = cc

module _ (d : ℕ) (q : Phase) (k : GapKind) (c : ℕ) (cs y : List ℕ) (last : Reading) (r : read (Blank Comments) (c ∷ cs) ≡ Some last) (n : k ≡ comment → ⊥) (s : Stuck last y) where
  fresh_leads : gap_next Fresh k (c ∷ cs) ≡ Some q → (m : Place) → Matches Fresh m → Calm d Fresh m ((c ∷ cs) ++ y) → (n : Place) × ((follow d m (c ∷ cs) ≡ Some (d, n)) × Matches q n × Calm d q n y)
  fresh_leads e (at_start f) w h = let b = read_head (Blank Comments) last c cs r in (
    in_gap true f last,
    (
      moved d (at_start f) c cs (d, in_gap true f b.0) (ap (λ o. or_else o (or_else (begin First d c) (cond (f && eqb c 41) (pop d) None))) (gap_begun true f d c b.0 b.1.0)) ∙ follow_gap d true f b.0 last cs b.1.1,
      gap_matches Fresh q k (c ∷ cs) last f r e n,
      calm_gap d Fresh q k (c ∷ cs) y true f last e n s (λ _. lead_stops d f last (c ∷ cs) y r s h) (λ z. absurd (fresh_trailing q k (c ∷ cs) e z)),
    ),
  )
  fresh_leads e (in_gap l f p) w h = absurd w
  fresh_leads e (in_simple p t) w h = absurd w
  fresh_leads e (in_text p) w h = absurd w

  inside_leads : gap_next Inside k (c ∷ cs) ≡ Some q → (q ≡ Open → (is_blanks (gap_read (Some last)) && text_stops d y) ≡ false) → (q ≡ Trailing → text_stops d y ≡ true) → (m : Place) → Matches Inside m → Calm d Inside m ((c ∷ cs) ++ y)
      → (n : Place) × ((follow d m (c ∷ cs) ≡ Some (d, n)) × Matches q n × Calm d q n y)
  inside_leads e z v m w h = let g = gap_moves d Inside m last c cs y refl w h r in
      (in_gap false g.0 last, (g.1, gap_matches Inside q k (c ∷ cs) last g.0 r e n, calm_gap d Inside q k (c ∷ cs) y false g.0 last e n s z v))

pub gap_leads : (d : ℕ) (p q : Phase) (k : GapKind) (t y : List ℕ) (last : Reading) → is_some_text t ≡ true → read (Blank Comments) t ≡ Some last → gap_next p k t ≡ Some q → (k ≡ comment → ⊥) → Stuck last y
    → (p ≡ Inside → q ≡ Open → (is_blanks (gap_read (Some last)) && text_stops d y) ≡ false) → (p ≡ Inside → q ≡ Trailing → text_stops d y ≡ true) → Moves d p q t y
gap_leads d p q k [] y last i r e n s z v = absurd (false≢true i)
gap_leads d Fresh q k (c ∷ cs) y last i r e n s z v = fresh_leads d q k c cs y last r n s e
gap_leads d Inside q k (c ∷ cs) y last i r e n s z v = inside_leads d q k c cs y last r n s e (z refl) (v refl)
gap_leads d Open q k (c ∷ cs) y last i r e n s z v = absurd (false≢true (gap_gaps Open q k (c ∷ cs) e n))
gap_leads d Commented q k (c ∷ cs) y last i r e n s z v = absurd (false≢true (gap_gaps Commented q k (c ∷ cs) e n))
gap_leads d Trailing q k (c ∷ cs) y last i r e n s z v = absurd (false≢true (gap_gaps Trailing q k (c ∷ cs) e n))
