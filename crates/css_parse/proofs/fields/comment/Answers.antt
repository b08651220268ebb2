use Rattle.std.proofs.Common.{◌≡◌, [], ◌∷◌, ap, ◌∙◌, refl, arith}
use Rattle.std.proofs.lemmas.Grind.{common_steps}
use Rattle.css_text.specs.Ahead.{byte_len}
use Rattle.css_text.specs.Characters.{is_space}
use Rattle.css_tree.specs.Pieces.{end_of}
use Rattle.css_tree.proofs.Split.{solid_by, lead_by, unlead_by}
use Rattle.css_tree.proofs.TreeOf.{inner_of}
use Rattle.css_parse.specs.Standing.{sheet, gap_text}
use Rattle.css_parse.proofs.FieldTexts.{comment_made}
use Rattle.css_parse.proofs.NodeParts.{InComment, in-comment, gap-made}
use Rattle.css_parse.proofs.fields.comment.Goals as goal
use Rattle.css_parse.proofs.fields.comment.Goals.{After-start-start}

parts : (c : After-start-start) (z : _) → z ≡ end_of c.args.piece.now → InComment (sheet c.args.texts) c.start-start.result z (inner_of c.args.piece.now.text) c.trim-lens.result.left c.trim-lens.result.text
parts c z e =
    in-comment (sheet c.args.texts) c.args.before c.args.piece.now (inner_of c.args.piece.now.text) c.start-start.result z c.trim-lens.result.left c.trim-lens.result.text c.requires.behind c.inner.ensures.marks c.start-start.ensures.value e
    (c.trim-lens.ensures.left ∙ ap (λ x. byte_len (lead_by is_space x)) c.inner.ensures.value) (c.trim-lens.ensures.text ∙ ap (λ x. byte_len (solid_by is_space (unlead_by is_space x))) c.inner.ensures.value)

pub overflow_cast-text_start : goal.overflow_cast-text_start
overflow_cast-text_start c =
    let p = parts (goal.at.overflow_cast-text_start c).After-start-start (end_of c.args.piece.now) refl in
    let few = p.few in
    let short = p.short in
    grind (arith, common_steps)

pub overflow_add-text_start : goal.overflow_add-text_start
overflow_add-text_start c =
    let p = parts (goal.at.overflow_add-text_start c).After-start-start (end_of c.args.piece.now) refl in
    let few = p.few in
    let short = p.short in
    grind (arith, common_steps)

pub overflow_cast-text_end : goal.overflow_cast-text_end
overflow_cast-text_end c =
    let p = parts (goal.at.overflow_cast-text_end c).After-start-start (end_of c.args.piece.now) refl in
    let few = p.few in
    let short = p.short in
    grind (arith, common_steps)

pub overflow_add-text_end : goal.overflow_add-text_end
overflow_add-text_end c =
    let p = parts (goal.at.overflow_add-text_end c).After-start-start (end_of c.args.piece.now) refl in
    let few = p.few in
    let short = p.short in
    grind (arith, common_steps)

pub part-requires-2 : goal.part-requires-2
part-requires-2 c = (parts (goal.at.part-requires-2 c).After-start-start (end_of c.args.piece.now) refl).left.is_part

pub part-requires-3 : goal.part-requires-3
part-requires-3 c = (parts (goal.at.part-requires-3 c).After-start-start (end_of c.args.piece.now) refl).text.is_part

pub part-requires-4 : goal.part-requires-4
part-requires-4 c = (parts (goal.at.part-requires-4 c).After-start-start c.end.result c.end.ensures.value).right.is_part

pub returns : goal.returns
returns c =
    let p = parts (goal.at.returns c).After-start-start c.end.result c.end.ensures.value in
    comment_made (gap_text (sheet c.args.texts) c.args.before) c.args.piece.now (inner_of c.args.piece.now.text) _ _ _ _ (c.in_ok-before.ensures ∙ (gap-made (sheet c.args.texts) c.args.before (c.args.piece.now ∷ []) c.requires.behind).text) refl
    (c.in_ok-left.ensures ∙ p.left.text) (c.in_ok-text.ensures ∙ p.text.text) (c.in_ok-right.ensures ∙ p.right.text)
