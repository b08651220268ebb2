use Rattle.std.proofs.Common.{◌≡◌, ◌++◌, ap, ◌∙◌, subst, IfOk}
use Rattle.std.specs.Str.{chars}
use Rattle.std.proofs.lemmas.Str.{chars-nil}
use Rattle.css_text.specs.ValueParts.{written}
use Rattle.value_parse.specs.Tree.{parts_of}
use Rattle.value_parse.proofs.print.print_value.Goals as goal

pub returns : goal.returns
returns c = subst (λ x. IfOk c.from_string.result (λ t. t ≡ x)) (c.in_ok-write_parts.ensures
    ∙ ap (λ s. s ++ written (parts_of c.args.parts.now)) (ap chars c.new-text.ensures.bytes ∙ chars-nil)) c.from_string.ensures
