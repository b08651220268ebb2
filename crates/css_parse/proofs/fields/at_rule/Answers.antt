use Rattle.std.proofs.Common.{◌≤◌, ◌∷◌, subst, length, ap, ◌∙◌, sym, take, drop}
use Rattle.css_tree.specs.Pieces.{join}
use Rattle.css_tree.proofs.Split.{solid, tail}
use Rattle.css_parse.specs.Standing.{sheet, gap_text, AreParts}
use Rattle.css_parse.proofs.FieldTexts.{at_rule_made, rest-from}
use Rattle.css_parse.proofs.Standing.{rest-parts, parts-take, parts-between}
use Rattle.css_parse.proofs.NodeParts.{Made, gap-made, in-at_word}
use Rattle.css_parse.proofs.fields.at_rule.Goals as goal
use Rattle.css_parse.proofs.fields.at_rule.Goals.{Start, After-end}

rest : (c : Start) → AreParts (sheet c.args.texts) c.args.rest.now
rest c = rest-parts (sheet c.args.texts) c.args.before c.args.word.now c.args.rest.now c.requires.behind

name : (c : After-end) → Made (sheet c.args.texts) c.name_start.result c.end.result (drop 1 c.args.word.now.text)
name c = in-at_word (sheet c.args.texts) c.args.before c.args.word.now c.args.rest.now c.name_start.result c.end.result c.requires.behind c.name_start.ensures.sign c.name_start.ensures.value c.end.ensures.value

pub part-requires : goal.part-requires
part-requires c = c.requires.behind.gap

pub part-requires-2 : goal.part-requires-2
part-requires-2 c = (name (goal.at.part-requires-2 c).After-end).is_part

pub text_of-requires : goal.text_of-requires
text_of-requires c = parts-between (sheet c.args.texts) c.lead_len-front.result _ c.args.rest.now (rest (goal.at.text_of-requires c).Start)

pub text_of-requires-2 : goal.text_of-requires-2
text_of-requires-2 c = parts-take (sheet c.args.texts) c.unless_empty-name_end.result c.args.rest.now (rest (goal.at.text_of-requires-2 c).Start)

pub text_of-requires-3 : goal.text_of-requires-3
text_of-requires-3 c = parts-between (sheet c.args.texts) c.unless_empty-between_start.result _ c.args.rest.now (rest (goal.at.text_of-requires-3 c).Start)

pub returns : goal.returns
returns c =
    let n = c.lead_len-front.result in
    let k = c.solid_len.result in
    let r = c.args.rest.now in
    let e = rest-from n r in
    at_rule_made (gap_text (sheet c.args.texts) c.args.before) c.args.word.now r c.args.block n k _ _ _ _ _ _
    (c.in_ok-before.ensures ∙ (gap-made (sheet c.args.texts) c.args.before (c.args.word.now ∷ r) c.requires.behind).text) (c.in_ok-name.ensures ∙ (name (goal.at.returns c).After-end).text) c.in_ok-source.ensures c.in_ok-params.ensures
    (c.in_ok-after_name.ensures ∙ ap (λ z. join (take z r)) c.unless_empty-name_end.ensures)
    (c.in_ok-between.ensures ∙ ap join (rest-from c.unless_empty-between_start.result r ∙ ap (λ z. drop z r) c.unless_empty-between_start.ensures))
    c.lead_len-front.ensures.front c.lead_len-front.ensures.back
    (ap (take k) (sym e) ∙ (c.solid_len.ensures.front ∙ ap solid e)) (ap (drop k) (sym e) ∙ (c.solid_len.ensures.back ∙ ap tail e)) (subst (λ z. k ≤ length z) e c.solid_len.ensures.within)
