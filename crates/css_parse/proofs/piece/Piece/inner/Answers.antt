use Rattle.std.proofs.Common.{ap, ◌∙◌, subst, ◌≡◌, [], ◌∷◌, ◌++◌}
use Rattle.std.specs.Str.{chars}
use Rattle.css_tree.specs.Pieces.{shape, shape_of, Shape as S}
use Rattle.css_tree.proofs.Formed.{FormedBy}
use Rattle.css_tree.proofs.TreeOf.{inner_of}
use Rattle.css_parse.proofs.Ascii.{IsMiddle, middle}
use Rattle.css_parse.proofs.piece.Piece.inner.Goals as goal
use Rattle.css_parse.proofs.piece.Piece.inner.Goals.{After-self}

parts : (c : After-self) → IsMiddle c.self.inside.text.now (inner_of (chars c.self.inside.text.now))
unfolding shape
parts c =
    let e : shape_of c.self.inside.kind (chars c.self.inside.text.now) ≡ S.comment = ap shape c.self.view_is ∙ c.requires in
    middle c.self.inside.text.now (inner_of (chars c.self.inside.text.now)) c.self.invariant.0 (subst (λ s. FormedBy s (chars c.self.inside.text.now)) e c.self.invariant.2)

pub overflow_sub-self-inside : goal.overflow_sub-self-inside
overflow_sub-self-inside c = (parts (goal.at.overflow_sub-self-inside c).After-self).long

pub range-requires-clause-start_le_end : goal.range-requires-clause-start_le_end
range-requires-clause-start_le_end c = (parts (goal.at.range-requires-clause-start_le_end c).After-self).order

pub range-requires-clause-start_boundary : goal.range-requires-clause-start_boundary
range-requires-clause-start_boundary c = λ _. (parts (goal.at.range-requires-clause-start_boundary c).After-self).low

pub range-requires-clause-end_boundary : goal.range-requires-clause-end_boundary
range-requires-clause-end_boundary c = (parts (goal.at.range-requires-clause-end_boundary c).After-self).high

pub returns-clause-value : goal.returns-clause-value
returns-clause-value c = ap chars c.range.ensures.value ∙ ((parts (goal.at.returns-clause-value c).After-self).text ∙ ap (λ p. inner_of p.text) c.self.view_is)

pub returns-clause-marks : goal.returns-clause-marks
unfolding shape
returns-clause-marks c =
    let e : shape_of c.self.inside.kind (chars c.self.inside.text.now) ≡ S.comment = ap shape c.self.view_is ∙ c.requires in
    subst (λ t. t ≡ 47 ∷ 42 ∷ (inner_of t ++ 42 ∷ 47 ∷ [])) (ap (λ p. p.text) c.self.view_is) (subst (λ s. FormedBy s (chars c.self.inside.text.now)) e c.self.invariant.2)
