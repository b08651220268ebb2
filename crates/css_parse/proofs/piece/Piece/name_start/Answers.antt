use Rattle.std.proofs.Common.{ap, ◌∙◌, subst, ◌∷◌, drop, ◌≡◌}
use Rattle.std.specs.Str.{chars}
use Rattle.css_tree.specs.Pieces.{shape, shape_of, Shape as S}
use Rattle.css_tree.proofs.Formed.{FormedBy}
use Rattle.css_parse.proofs.piece.Piece.name_start.Goals as goal

pub returns-clause-sign : goal.returns-clause-sign
unfolding shape
returns-clause-sign c =
    let e : shape_of c.self.inside.kind (chars c.self.inside.text.now) ≡ S.at_name = ap shape c.self.view_is ∙ c.requires in
    subst (λ t. t ≡ 64 ∷ drop 1 t) (ap (λ p. p.text) c.self.view_is) (subst (λ s. FormedBy s (chars c.self.inside.text.now)) e c.self.invariant.2).0
