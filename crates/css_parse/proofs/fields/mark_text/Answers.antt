use Rattle.std.proofs.Common.{◌≡◌, ◌<◌, ◌+◌, ◌-◌, ◌++◌, take, drop, length, ap, sym, ◌∙◌, subst, arith, IfOk}
use Rattle.std.proofs.lemmas.Grind.{common_steps}
use Rattle.std.specs.Str.{chars}
use Rattle.css_tree.specs.Pieces.{join}
use Rattle.css_parse.specs.Standing.{sheet}
use Rattle.css_parse.proofs.FieldTexts.{rest-from}
use Rattle.css_parse.proofs.Standing.{parts-between}
use Rattle.css_parse.proofs.NodeParts.{Made, mark-small, mark-part, bare-mark}
use Rattle.css_parse.proofs.fields.mark_text.Goals as goal
use Rattle.css_parse.proofs.fields.mark_text.Goals.{After-last_end}

whole : (c : After-last_end)
    → Made (sheet c.args.texts) c.mark_start-start.result c.last_end.result
    (join (take (c.args.mark.now.before - c.args.end) (drop c.args.end c.args.body.now)) ++ (chars c.args.mark.now.word.back.now ++ join (drop (c.args.mark.now.before + 1) c.args.body.now)))
whole c =
    let some : 0 < length c.args.mark.now.word.front.now = grind (arith, common_steps) in
    let p = mark-part (sheet c.args.texts) c.args.mark.now c.args.body.now c.args.end c.mark_start-start.result c.requires.parts c.requires.mark c.requires.end some (c.mark_start-start.ensures c.requires.mark) in
    subst (λ z. Made (sheet c.args.texts) c.mark_start-start.result z
    (join (take (c.args.mark.now.before - c.args.end) (drop c.args.end c.args.body.now)) ++ (chars c.args.mark.now.word.back.now ++ join (drop (c.args.mark.now.before + 1) c.args.body.now)))) (sym c.last_end.ensures) p

pub text_of-requires : goal.text_of-requires
text_of-requires c = parts-between (sheet c.args.texts) c.args.end (length c.args.body.now - c.args.end) c.args.body.now c.requires.parts

pub mark_start-start-requires-clause-short : goal.mark_start-start-requires-clause-short
mark_start-start-requires-clause-short c = λ h. mark-small (sheet c.args.texts) c.args.mark.now c.args.body.now c.requires.parts h

pub part-requires : goal.part-requires
part-requires c = (whole (goal.at.part-requires c).After-last_end).is_part

pub returns-then-is_empty : goal.returns-then-is_empty
returns-then-is_empty c =
    let none : length c.args.mark.now.word.front.now < 1 = grind (arith, common_steps) in
    subst (λ x. IfOk c.text_of.result (λ t. t ≡ x)) (ap join (rest-from c.args.end c.args.body.now) ∙ bare-mark c.args.mark.now c.args.body.now c.args.end c.requires.mark c.requires.end none) c.text_of.ensures

pub returns-else-is_empty : goal.returns-else-is_empty
returns-else-is_empty c = subst (λ x. IfOk c.part.result (λ t. t ≡ x)) (whole (goal.at.returns-else-is_empty c).After-last_end).text c.part.ensures
