use Rattle.std.proofs.Common.{◌≡◌, ◌<◌, ◌++◌, take, length, ap, sym, ◌∙◌, subst, arith, IfOk}
use Rattle.std.proofs.lemmas.Grind.{common_steps}
use Rattle.std.specs.Str.{chars}
use Rattle.css_tree.specs.Pieces.{join}
use Rattle.css_parse.specs.Standing.{sheet}
use Rattle.css_parse.proofs.Standing.{parts-take}
use Rattle.css_parse.proofs.NodeParts.{Made, mark-small, value-part, bare-value}
use Rattle.css_parse.proofs.fields.value_text.Goals as goal
use Rattle.css_parse.proofs.fields.value_text.Goals.{After-mark_start}

whole : (c : After-mark_start) → Made (sheet c.args.texts) c.start.result c.mark_start.result (join (take c.args.end c.args.body.now) ++ chars c.args.mark.now.word.front.now)
whole c =
    let some : 0 < length c.args.mark.now.word.front.now = grind (arith, common_steps) in
    let p = value-part (sheet c.args.texts) c.args.mark.now c.args.body.now c.args.end c.mark_start.result c.index-body-0.result c.requires.parts c.requires.mark c.requires.end some (c.mark_start.ensures c.requires.mark) in
    subst (λ z. Made (sheet c.args.texts) z c.mark_start.result (join (take c.args.end c.args.body.now) ++ chars c.args.mark.now.word.front.now)) (sym (c.start.ensures.value ∙ ap (λ q. q.at) c.index-body-0.is)) p

pub text_of-requires : goal.text_of-requires
text_of-requires c = parts-take (sheet c.args.texts) c.args.end c.args.body.now c.requires.parts

pub mark_start-requires-clause-short : goal.mark_start-requires-clause-short
mark_start-requires-clause-short c = λ h. mark-small (sheet c.args.texts) c.args.mark.now c.args.body.now c.requires.parts h

pub part-requires : goal.part-requires
part-requires c = (whole (goal.at.part-requires c).After-mark_start).is_part

pub returns-then-is_empty : goal.returns-then-is_empty
returns-then-is_empty c =
    let none : length c.args.mark.now.word.front.now < 1 = grind (arith, common_steps) in
    subst (λ x. IfOk c.text_of.result (λ t. t ≡ x)) (bare-value c.args.mark.now c.args.body.now c.args.end none) c.text_of.ensures

pub returns-else-is_empty : goal.returns-else-is_empty
returns-else-is_empty c = subst (λ x. IfOk c.part.result (λ t. t ≡ x)) (whole (goal.at.returns-else-is_empty c).After-mark_start).text c.part.ensures
