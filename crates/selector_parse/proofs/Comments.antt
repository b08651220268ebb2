-- One comment inside a compound.
use Rattle.std.proofs.Common.{◌≡◌, ℕ, ◌+◌, List, ◌++◌, drop, Some, refl, ap, sym, ◌∙◌, false}
use Rattle.std.specs.Str.{IsUtf8}
use Rattle.std.proofs.lemmas.Str.{encodes_same}
use Rattle.css_text.proofs.Slices.{IsFrom, from_boundary}
use Rattle.selector_parse.specs.declared.phase.Phase.{Phase}
use Rattle.selector_parse.specs.declared.phase.Phase.TheVariants.{Inside, Commented}
use Rattle.selector_parse.specs.declared.reading.Gap.TheVariants.{One, Comments}
use Rattle.selector_parse.specs.declared.reading.Reading.{Reading}
use Rattle.selector_parse.specs.declared.reading.Reading.TheVariants.{Blank, Done}
use Rattle.selector_parse.specs.Reading.{scan_len, scan_last}
use Rattle.selector_parse.specs.Tree.{none, gap, comment}
use Rattle.selector_parse.specs.Phases.{comment_next}
use Rattle.selector_parse.specs.Machine.{after_run, text_stops}
use Rattle.selector_parse.specs.Row.{IsRow, IsInsideRun}
use Rattle.selector_parse.proofs.Scanned.{Scanned, scanned}
use Rattle.selector_parse.proofs.Gaps.{comment_is}
use Rattle.selector_parse.proofs.Moves.{comment_moves, run_last, run_after}
use Rattle.selector_parse.proofs.Rows.{gap_row, stops_text}

-- what stands after the comments, in characters
pub inside_run : (bs : List ℕ) (at depth : ℕ) (cs : List ℕ) → IsUtf8 bs → IsFrom bs at cs → IsInsideRun bs at depth → (scan_last (Blank Comments) cs ≡ Blank Comments) × (text_stops depth (after_run cs) ≡ false)
inside_run bs at depth cs u f r =
    let h = scanned bs at (Blank Comments) (at + scan_len (Blank Comments) (drop at bs)) (scan_last (Blank Comments) (drop at bs)) u (from_boundary bs at cs f) refl refl in
    let same : cs ≡ h.inner ++ h.ahead = encodes_same cs (h.inner ++ h.ahead) (sym f.text ∙ h.front.text) in
    let stops : text_stops depth h.ahead ≡ false = stops_text bs (at + scan_len (Blank Comments) (drop at bs)) depth h.ahead h.next r.goes_on in (
      ap (scan_last (Blank Comments)) same ∙ run_last h.inner h.ahead (scan_last (Blank Comments) (drop at bs)) h.reads h.stuck ∙ r.last,
      ap (λ x. text_stops depth (after_run x)) same ∙ ap (text_stops depth) (run_after h.inner h.ahead (scan_last (Blank Comments) (drop at bs)) h.reads h.stuck) ∙ stops,
    )

pub comment_row : (bs : List ℕ) (at depth end : ℕ) (p : Phase) (last : Reading) (h : Scanned bs at (Blank One) end last) → IsUtf8 bs → comment_next p ≡ Some Commented → last ≡ Done → (p ≡ Inside → IsInsideRun bs at depth)
    → IsRow bs at depth p (gap comment at h.inner none) Commented end
comment_row bs at depth end p last h u n d r =
    let e = comment_is p h.inner last n h.reads d in
    gap_row bs at depth end p Commented comment (Blank One) last h e (λ m w k. comment_moves depth p m h.inner h.ahead w k e (λ i. inside_run bs at depth (h.inner ++ h.ahead) u h.front (r i)))
