use Rattle.std.proofs.Common.{◌≡◌, sym, ◌∙◌, subst, IfOk}
use Rattle.std.proofs.lemmas.Str.{chars-nil}
use Rattle.css_parse.specs.Standing.{sheet}
use Rattle.css_tree.specs.Pieces.{join}
use Rattle.css_parse.proofs.Joins.{empty_text}
use Rattle.css_parse.proofs.NodeParts.{Made, text-made}
use Rattle.css_parse.proofs.texts.text_of.Goals as goal
use Rattle.css_parse.proofs.texts.text_of.Goals.{After-last_end}

whole : (c : After-last_end) → Made (sheet c.args.texts) c.start-start.result c.last_end.result (join c.args.pieces.now)
whole c =
    text-made (sheet c.args.texts) c.args.pieces.now c.first-item.result c.start-start.result c.last_end.result c.in-len1-up.len_at_least c.first-item.is c.start-start.ensures.value c.last_end.ensures c.requires

pub returns-in-empty : goal.returns-in-empty
returns-in-empty c = subst (λ x. IfOk c.empty.result (λ t. t ≡ x)) (sym chars-nil ∙ empty_text c.args.pieces.now c.in-empty.len_below) c.empty.ensures

pub part-requires : goal.part-requires
part-requires c = (whole (goal.at.part-requires c).After-last_end).is_part

pub returns-in-len1-up : goal.returns-in-len1-up
returns-in-len1-up c = subst (λ x. IfOk c.part.result (λ t. t ≡ x)) (whole (goal.at.returns-in-len1-up c).After-last_end).text c.part.ensures
