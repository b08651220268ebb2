use Rattle.std.proofs.Common.{ap, ◌∙◌}
use Rattle.css_text.proofs.Slices.{slice_chars}
use Rattle.selector_parse.specs.declared.phase.Phase.TheVariants.{Commented}
use Rattle.selector_parse.specs.declared.reading.Gap.TheVariants.{One}
use Rattle.selector_parse.specs.declared.reading.Reading.TheVariants.{Blank}
use Rattle.selector_parse.specs.Tree.{none, gap, comment, part_before}
use Rattle.selector_parse.proofs.Scanned.{scanned_by}
use Rattle.selector_parse.proofs.Rows.{row_same, if_ok_map}
use Rattle.selector_parse.proofs.GapHalts.{comment_halt}
use Rattle.selector_parse.proofs.Comments.{comment_row}
use Rattle.selector_parse.proofs.bare.comment_from.Goals as goal

pub bare_part-requires-clause-high : goal.bare_part-requires-clause-high
bare_part-requires-clause-high c =
    let h = scanned_by c.args.src.now c.as_bytes.result.now c.args.at (Blank One) c.scan-end.result.0 c.scan-end.result.1 c.as_bytes.ensures.value c.requires.utf8 c.requires.boundary c.scan-end.ensures.end c.scan-end.ensures.last in
    h.slice.high

pub returns-in-Done-clause-row : goal.returns-in-Done-clause-row
returns-in-Done-clause-row c =
    let bs = c.args.src.now in
    let h = scanned_by bs c.as_bytes.result.now c.args.at (Blank One) c.scan-end.result.0 c.scan-end.result.1 c.as_bytes.ensures.value c.requires.utf8 c.requires.boundary c.scan-end.ensures.end c.scan-end.ensures.last in
    let r = comment_row bs c.args.at c.args.depth c.scan-end.result.0 c.args.phase c.scan-end.result.1 h c.requires.utf8 c.requires.inside c.in-Done.is c.requires.comments in
    let t = slice_chars bs c.args.at c.scan-end.result.0 h.inner c.requires.utf8 h.slice in
    if_ok_map c.bare_part.result _ _ (λ p k. row_same bs c.args.at c.args.depth c.args.phase p.phase Commented (part_before p.part none) (gap comment c.args.at h.inner none) p.end c.scan-end.result.0 r (k.0 ∙ ap (λ x. gap comment c.args.at x none) t) k.2 k.1)
    c.bare_part.ensures.part

pub returns-in_default : goal.returns-in_default
returns-in_default c =
    let h = scanned_by c.args.src.now c.as_bytes.result.now c.args.at (Blank One) c.scan-end.result.0 c.scan-end.result.1 c.as_bytes.ensures.value c.requires.utf8 c.requires.boundary c.scan-end.ensures.end c.scan-end.ensures.last in
    record { row = tt; longer = tt; flat = tt; halt = comment_halt c.args.src.now c.args.at c.args.depth c.scan-end.result.0 c.args.phase c.scan-end.result.1 h c.requires.inside c.requires.slash c.requires.within c.in_default.not-Done }
