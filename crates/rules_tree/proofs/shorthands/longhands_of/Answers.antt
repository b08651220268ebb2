use Rattle.std.proofs.Common.{◌∙◌, ap}
use Rattle.std.specs.List.{find}
use Rattle.std.specs.Str.{chars}
use Rattle.css_tree.specs.Mark.{is_text}
use Rattle.rules_tree.specs.Shorthands.{longhands_in}
use Rattle.rules_tree.proofs.shorthands.longhands_of.Goals as goal

pub returns : goal.returns
returns c = c.longhands_in.ensures ∙ ap (λ z. longhands_in (find (λ s. is_text s.name (chars c.args.prop.now)) z)) c.table.ensures.rows
