use Rattle.std.proofs.Common.{◌∙◌, ap, subst, ◌≡◌, IfOk}
use Rattle.std.specs.Str.{chars}
use Rattle.css_tree.proofs.Cleaning.{clean-chars}
use Rattle.css_tree.proofs.clean.clean.Goals as goal

pub returns : goal.returns
returns c = subst (λ x. IfOk c.from_string.result (λ t. t ≡ x)) (ap chars c.in_ok-text.ensures ∙ clean-chars c.args.src.now c.utf8.src) c.from_string.ensures
