use Rattle.std.proofs.Common.{◌+◌, refl, ap, ◌∙◌, sym, take, drop}
use Rattle.css_tree.specs.Pieces.{join}
use Rattle.css_tree.proofs.Split.{solid, tail, lead, unlead}
use Rattle.css_parse.specs.Standing.{sheet, gap_text, AreParts}
use Rattle.css_parse.proofs.FieldTexts.{declaration_made, rest-from}
use Rattle.css_parse.proofs.Standing.{rest-parts, parts-take, parts-between}
use Rattle.css_parse.proofs.NodeParts.{InProperty, in-property}
use Rattle.css_parse.proofs.fields.declaration.Goals as goal
use Rattle.css_parse.proofs.fields.declaration.Goals.{Start, After-hack_end-prop_start, After-end}

rest : (c : Start) → AreParts (sheet c.args.texts) c.args.rest.now
rest c = rest-parts (sheet c.args.texts) c.args.before c.args.word.now c.args.rest.now c.requires

prop : (c : After-end) → InProperty (sheet c.args.texts) c.args.before c.args.word.now c.hack_end-prop_start.result c.end.result
prop c = in-property (sheet c.args.texts) c.args.before c.args.word.now c.args.rest.now c.hack_end-prop_start.result c.end.result c.requires c.hack_end-prop_start.ensures c.end.ensures.value

pub part-requires : goal.part-requires
part-requires c =
    let f = (goal.at.part-requires c).After-hack_end-prop_start in
    (in-property (sheet f.args.texts) f.args.before f.args.word.now f.args.rest.now f.hack_end-prop_start.result _ f.requires f.hack_end-prop_start.ensures refl).before.is_part

pub part-requires-2 : goal.part-requires-2
part-requires-2 c = (prop (goal.at.part-requires-2 c).After-end).prop.is_part

pub text_of-requires : goal.text_of-requires
text_of-requires c = parts-take (sheet c.args.texts) _ c.args.rest.now (rest (goal.at.text_of-requires c).Start)

pub read_value-requires : goal.read_value-requires
read_value-requires c = parts-between (sheet c.args.texts) _ _ c.args.rest.now (rest (goal.at.read_value-requires c).Start)

pub text_of-requires-2 : goal.text_of-requires-2
text_of-requires-2 c = parts-between (sheet c.args.texts) _ _ c.args.rest.now (rest (goal.at.text_of-requires-2 c).Start)

pub returns : goal.returns
returns c =
    let n = c.lead_len-front.result in
    let m = c.past_colon-colon.result in
    let k = c.lead_len.result in
    let s = c.solid_len.result in
    let r = c.args.rest.now in
    let e = rest-from m r in
    let d = rest-from (m + k) r in
    let p = prop (goal.at.returns c).After-end in
    declaration_made (gap_text (sheet c.args.texts) c.args.before) c.args.word.now r n m k s _ _ _ _ c.in_ok-value.value
    (c.in_ok-before.ensures ∙ p.before.text) (c.in_ok-prop.ensures ∙ p.prop.text)
    c.in_ok-between.ensures c.in_ok-value.ensures (c.in_ok-tail.ensures ∙ ap join (rest-from (m + k + s) r))
    c.lead_len-front.ensures.front c.lead_len-front.ensures.back c.past_colon-colon.ensures
    (ap (take k) (sym e) ∙ (c.lead_len.ensures.front ∙ ap lead e)) (ap (drop k) (sym e) ∙ (c.lead_len.ensures.back ∙ ap unlead e))
    (ap (take s) (sym d) ∙ (c.solid_len.ensures.front ∙ ap solid d)) (ap (drop s) (sym d) ∙ (c.solid_len.ensures.back ∙ ap tail d))
