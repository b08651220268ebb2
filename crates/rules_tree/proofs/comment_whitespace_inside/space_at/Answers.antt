use Rattle.std.proofs.Common.{◌≡◌, ap, codes, refl, ◌∙◌}
use Rattle.std.specs.Str.{chars}
use Rattle.rules_tree.proofs.comment_whitespace_inside.space_at.Goals as goal

pub returns : goal.returns
unfolding chars
returns c = ap (λ t. record { span = record { start = c.args.at; end = c.args.at }; text = t }) c.in_ok-new.ensures
