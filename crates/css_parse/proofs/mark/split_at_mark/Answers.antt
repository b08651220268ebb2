use Rattle.std.proofs.Common.{◌≡◌, ◌-◌, false, ap, ◌∙◌, sym, take, arith}
use Rattle.std.specs.Str.{chars}
use Rattle.css_text.specs.Ahead.{byte_len}
use Rattle.css_tree.specs.Mark.{mark_at}
use Rattle.css_parse.proofs.Ascii.{text-length}
use Rattle.css_parse.proofs.Marks.{MarkCut, mark-none, mark-cut}
use Rattle.css_parse.proofs.mark.split_at_mark.Goals as goal
use Rattle.css_parse.proofs.mark.split_at_mark.Goals.{In-Some}

cut : (c : In-Some) → MarkCut c.args.letters.now c.args.text.now c.in-Some.at
cut c = mark-cut c.args.letters.now c.args.text.now c.in-Some.at c.requires c.utf8.text (ap (λ z. mark_at false c.args.letters.now z) (sym c.as_bytes.ensures.value) ∙ sym c.in-Some.ensures)

pub range-requires-clause-end_boundary : goal.range-requires-clause-end_boundary
range-requires-clause-end_boundary c = (cut (goal.at.range-requires-clause-end_boundary c).In-Some).cut.boundary

pub range_from-requires : goal.range_from-requires
range_from-requires c = λ _. (cut (goal.at.range_from-requires c).In-Some).cut.boundary

pub returns-in-None : goal.returns-in-None
returns-in-None c = mark-none c.args.letters.now c.args.text.now c.requires c.utf8.text (ap (λ z. mark_at false c.args.letters.now z) (sym c.as_bytes.ensures.value) ∙ sym c.in-None.ensures)

pub returns-in-Some : goal.returns-in-Some
returns-in-Some c =
    let k = cut (goal.at.returns-in-Some c).In-Some in
    let z : c.in-Some.at - 0 ≡ c.in-Some.at = omega arith in
    let f = ap chars (c.range.ensures.value ∙ ap (λ n. take n c.args.text.now) z) ∙ k.cut.front in
    (k.place, k.found, f, ap chars c.range_from.ensures.value ∙ k.cut.back, text-length c.range.result.now c.range.utf8 ∙ ap byte_len f)
