use Rattle.std.proofs.Common.{◌≡◌, [], ◌∷◌, refl, ap, ◌∙◌, subst, sym, arith}
use Rattle.std.specs.Str.{chars}
use Rattle.css_text.specs.declared.lexer.PieceKind.TheVariants as K
use Rattle.css_text.specs.Characters.{is_single}
use Rattle.css_tree.specs.Pieces.{single_shape}
use Rattle.css_tree.proofs.Formed.{FormedBy}
use Rattle.css_parse.proofs.PlainSteps.{low-chars}
use Rattle.css_parse.proofs.plain_steps.brace_at.Goals as goal
use Rattle.css_parse.proofs.plain_steps.brace_at.Goals.{After-range}

text : (c : After-range) → chars c.range.result.now ≡ 123 ∷ []
text c = ap chars (c.range.ensures.value ∙ c.requires.is_brace) ∙ low-chars (123 ∷ []) (omega arith, tt)

pub new-requires-clause-kind : goal.new-requires-clause-kind
unfolding is_single
new-requires-clause-kind c = (123, refl, text c)

pub new-requires-clause-formed : goal.new-requires-clause-formed
new-requires-clause-formed c = subst (λ z. FormedBy (single_shape z) z) (sym (text c)) refl

pub returns : goal.returns
returns c = c.new.ensures ∙ ap (λ z. record { kind = K.Single; at = c.args.at; text = z }) (text (goal.at.returns c).After-range)
