use Rattle.std.proofs.Common.{ap, sym, ◌∙◌}
use Rattle.css_text.proofs.Slices.{slice_chars}
use Rattle.selector_parse.specs.declared.reading.Gap.TheVariants.{Comments}
use Rattle.selector_parse.specs.declared.reading.Reading.TheVariants.{Blank}
use Rattle.selector_parse.specs.Tree.{none, made, absent, part_before}
use Rattle.selector_parse.specs.Row.{stops}
use Rattle.selector_parse.proofs.Scanned.{scanned}
use Rattle.selector_parse.proofs.Rows.{row_same, if_ok_map}
use Rattle.selector_parse.proofs.GapRows.{choice_row, choice_slash, choice_run}
use Rattle.selector_parse.proofs.bare.gap_part.Goals as goal

pub bare_part-requires-clause-high : goal.bare_part-requires-clause-high
bare_part-requires-clause-high c = (scanned c.args.src.now c.args.at (Blank Comments) c.args.end (Blank c.args.gap) c.requires.utf8 c.requires.boundary c.requires.end c.requires.gap).slice.high

pub returns-in-Some-clause-row : goal.returns-in-Some-clause-row
returns-in-Some-clause-row c =
    let bs = c.args.src.now in
    let h = scanned bs c.args.at (Blank Comments) c.args.end (Blank c.args.gap) c.requires.utf8 c.requires.boundary c.requires.end c.requires.gap in
    let b = c.stops.ensures ∙ ap (λ s. stops s c.args.end c.args.depth) c.as_bytes.ensures.value in
    let r = choice_row bs c.args.at c.args.depth c.args.end c.args.phase c.args.gap c.stops.result h c.requires.order c.requires.phase b c.in-Some.next c.in-Some.kind (sym c.gap_kind.ensures ∙ c.in-Some.is) in
    let t = slice_chars bs c.args.at c.args.end h.inner c.requires.utf8 h.slice in
    if_ok_map c.bare_part.result _ _ (λ p k. row_same bs c.args.at c.args.depth c.args.phase p.phase c.in-Some.next (part_before p.part none) (made c.in-Some.kind c.args.at h.inner absent none) p.end c.args.end r
    (k.0 ∙ ap (λ x. made c.in-Some.kind c.args.at x absent none) t) k.2 k.1) c.bare_part.ensures.part

pub comment_from-requires-clause-slash : goal.comment_from-requires-clause-slash
comment_from-requires-clause-slash c =
    let bs = c.args.src.now in
    let h = scanned bs c.args.at (Blank Comments) c.args.end (Blank c.args.gap) c.requires.utf8 c.requires.boundary c.requires.end c.requires.gap in
    let b = c.stops.ensures ∙ ap (λ s. stops s c.args.end c.args.depth) c.as_bytes.ensures.value in
    choice_slash bs c.args.at c.args.depth c.args.end c.args.phase c.args.gap c.stops.result h c.requires.order c.requires.phase b (sym c.gap_kind.ensures ∙ c.in-None.is)

pub comment_from-requires-clause-comments : goal.comment_from-requires-clause-comments
comment_from-requires-clause-comments c =
    let bs = c.args.src.now in
    let h = scanned bs c.args.at (Blank Comments) c.args.end (Blank c.args.gap) c.requires.utf8 c.requires.boundary c.requires.end c.requires.gap in
    let b = c.stops.ensures ∙ ap (λ s. stops s c.args.end c.args.depth) c.as_bytes.ensures.value in
    λ i. choice_run bs c.args.at c.args.depth c.args.end c.args.phase c.args.gap c.stops.result h c.requires.order c.requires.phase b (sym c.gap_kind.ensures ∙ c.in-None.is) c.requires.gap c.requires.end i
