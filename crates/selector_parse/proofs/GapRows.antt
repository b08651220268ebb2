-- One gap where one may stand.
use Rattle.std.proofs.Common.{◌≡◌, ℕ, ◌+◌, ◌<◌, Bool, true, false, List, [], ◌∷◌, ◌++◌, get_or, drop, Some, None, refl, ap, sym, ◌∙◌, subst, lit<, arith}
use Rattle.std.specs.Prelude.{◌&&◌}
use Rattle.std.proofs.lemmas.Bool.{eqb-true, false≢true}
use Rattle.css_text.specs.Ahead.{byte_len}
use Rattle.css_text.proofs.Slices.{IsFrom, slice_length, from_begins}
use Rattle.selector_parse.specs.declared.part.PartKind.{PartKind}
use Rattle.selector_parse.specs.declared.phase.Phase.{Phase}
use Rattle.selector_parse.specs.declared.phase.Phase.TheVariants.{Inside, Open}
use Rattle.selector_parse.specs.declared.reading.Gap.{Gap}
use Rattle.selector_parse.specs.declared.reading.Gap.TheVariants.{Comments}
use Rattle.selector_parse.specs.declared.reading.Reading.{Reading}
use Rattle.selector_parse.specs.declared.reading.Reading.TheVariants.{Blank}
use Rattle.selector_parse.specs.Reading.{read, scan_len, scan_last}
use Rattle.selector_parse.specs.Tree.{none, made, absent}
use Rattle.selector_parse.specs.Phases.{is_some_text, is_blanks}
use Rattle.selector_parse.specs.Machine.{text_stops}
use Rattle.selector_parse.specs.Row.{IsRow, IsInsideRun, gap_choice, takes_gap, stops}
use Rattle.selector_parse.proofs.Scanned.{Scanned}
use Rattle.selector_parse.proofs.Gaps.{chosen, run_read, begins_slash, none_choice, open_choice, trailing_choice}
use Rattle.selector_parse.proofs.GapMoves.{gap_leads}
use Rattle.selector_parse.proofs.Rows.{gap_row, stops_same, stops_text}

pub some_inner : (bs : List ℕ) (at end : ℕ) (q0 last : Reading) (h : Scanned bs at q0 end last) → at < end → is_some_text h.inner ≡ true
some_inner bs at end q0 last h l = go h.inner (slice_length bs at end h.inner h.slice)
  where
    go : (t : List ℕ) → at + byte_len t ≡ end → is_some_text t ≡ true
    go [] e = absurd (omega arith)
    go (c ∷ cs) e = refl

module _ (bs : List ℕ) (at depth end : ℕ) (p : Phase) (g : Gap) (s : Bool) (h : Scanned bs at (Blank Comments) end (Blank g)) (l : at < end) (t : takes_gap p ≡ true) (b : s ≡ stops bs end depth) where
  pub choice_row : (q : Phase) (k : PartKind) → gap_choice p g s ≡ Some (k, q) → IsRow bs at depth p (made k at h.inner absent none) q end
  choice_row q k e =
      let i = some_inner bs at end (Blank Comments) (Blank g) h l in
      let c = chosen p q k g s h.inner t i h.reads e in
      let z : p ≡ Inside → q ≡ Open → (is_blanks (Some g) && text_stops depth h.ahead) ≡ false =
      λ f o. open_choice g s (text_stops depth h.ahead) k (ap (λ p. gap_choice p g s) (sym f) ∙ e ∙ ap (λ q. Some (k, q)) o) (λ w. stops_text bs end depth h.ahead h.next (sym b ∙ w)) in
      subst (λ x. IsRow bs at depth p x q end) (sym (c.is at)) (gap_row bs at depth end p q c.kind (Blank Comments) (Blank g) h c.next (gap_leads depth p q c.kind h.inner h.ahead (Blank g) i h.reads c.next c.other h.stuck z
      (λ f o. sym (stops_same bs end depth h.ahead h.next) ∙ sym b ∙ trailing_choice g s k (ap (λ p. gap_choice p g s) (sym f) ∙ e ∙ ap (λ q. Some (k, q)) o))))

  nothing : gap_choice p g s ≡ None → (p ≡ Inside) × (g ≡ Comments) × (s ≡ false)
  nothing e = none_choice p g s e t (run_read h.inner (Blank Comments) (Blank g) refl h.reads)

  pub choice_slash : gap_choice p g s ≡ None → get_or bs at 0 ≡ 47
  choice_slash e = go h.inner (some_inner bs at end (Blank Comments) (Blank g) h l) (h.reads ∙ ap (λ g. Some (Blank g)) (nothing e).1) h.front
    where
      go : (t : List ℕ) → is_some_text t ≡ true → read (Blank Comments) t ≡ Some (Blank Comments) → IsFrom bs at (t ++ h.ahead) → get_or bs at 0 ≡ 47
      go [] i r f = absurd (false≢true i)
      go (c ∷ cs) i r f = eqb-true (get_or bs at 0) 47 (from_begins bs at c (cs ++ h.ahead) 47 (lit< tt) f ∙ begins_slash c cs r)

  pub choice_run : gap_choice p g s ≡ None → Blank g ≡ scan_last (Blank Comments) (drop at bs) → end ≡ at + scan_len (Blank Comments) (drop at bs) → p ≡ Inside → IsInsideRun bs at depth
  choice_run e f n i = let z = nothing e in record { last = sym f ∙ ap Blank z.1; goes_on = ap (λ x. stops bs x depth) (sym n) ∙ sym b ∙ z.2 }
