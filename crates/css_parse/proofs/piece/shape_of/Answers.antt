use Rattle.std.proofs.Common.{ap, ◌∙◌, sym, subst, get_or, [], ◌∷◌}
use Rattle.std.specs.Str.{chars}
use Rattle.css_tree.specs.Pieces.{shape_of, single_shape}
use Rattle.css_text.specs.PieceKinds.{IsOfKind}
use Rattle.css_parse.proofs.Ascii.{at-shape_name, at-shape_bare, single-shape}
use Rattle.css_parse.proofs.piece.shape_of.Goals as goal

pub returns-then-text-gt1 : goal.returns-then-text-gt1
returns-then-text-gt1 c =
    let k = subst (λ z. IsOfKind z (chars c.args.text.now)) c.in-AtWord.is c.requires.kind in
    sym (ap (λ z. shape_of z (chars c.args.text.now)) c.in-AtWord.is ∙ at-shape_name c.args.text.now c.utf8.text k c.if-text-gt1.true)

pub returns-else-text-gt1 : goal.returns-else-text-gt1
returns-else-text-gt1 c =
    let k = subst (λ z. IsOfKind z (chars c.args.text.now)) c.in-AtWord.is c.requires.kind in
    sym (ap (λ z. shape_of z (chars c.args.text.now)) c.in-AtWord.is ∙ at-shape_bare c.args.text.now c.utf8.text k c.if-text-gt1.false)

pub returns-in-Single : goal.returns-in-Single
returns-in-Single c =
    let k = subst (λ z. IsOfKind z (chars c.args.text.now)) c.in-Single.is c.requires.kind in
    c.single_shape.ensures ∙ (ap (λ z. single_shape (get_or z 0 0 ∷ [])) c.as_bytes.ensures.value ∙ (single-shape c.args.text.now 0 c.utf8.text k ∙ ap (λ z. shape_of z (chars c.args.text.now)) (sym c.in-Single.is)))
