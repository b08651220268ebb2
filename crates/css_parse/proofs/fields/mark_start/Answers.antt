use Rattle.std.proofs.Common.{◌≡◌, ◌+◌, length, ap, ◌∙◌, arith}
use Rattle.std.proofs.lemmas.Grind.{common_steps}
use Rattle.css_parse.specs.Marks.{IsIn}
use Rattle.css_parse.proofs.NodeParts.{mark-word}
use Rattle.css_parse.proofs.fields.mark_start.Goals as goal
use Rattle.css_parse.proofs.fields.mark_start.Goals.{After-start}

word_at : (c : After-start) (h : IsIn c.args.mark.now c.args.body.now) → c.start.result ≡ h.word.at
word_at c h = c.start.ensures.value ∙ ap (λ p. p.at) (c.index-body-mark.is ∙ mark-word c.args.mark.now c.args.body.now h c.index-body-mark.result)

pub overflow_cast-result : goal.overflow_cast-result
overflow_cast-result c =
    let k = c.requires.short c.requires.mark in
    grind (arith, common_steps)

pub overflow_add-result : goal.overflow_add-result
overflow_add-result c =
    let k = c.requires.short c.requires.mark in
    let e = word_at (goal.at.overflow_add-result c).After-start c.requires.mark in
    grind (arith, common_steps)

pub returns : goal.returns
returns c = λ h. ap (λ x. x + length c.args.mark.now.word.front.now) (word_at (goal.at.returns c).After-start h)
