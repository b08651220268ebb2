use Rattle.std.proofs.Common.{◌++◌, ap, sym, ◌∙◌, append-nil}
use Rattle.std.specs.Str.{chars}
use Rattle.std.specs.String.{string_bytes}
use Rattle.selector_parse.specs.Row.{comma_unless}
use Rattle.selector_parse.proofs.Printed.{push_comma}
use Rattle.selector_parse.proofs.print.write_comma.Goals as goal

pub returns-then-is_first : goal.returns-then-is_first
returns-then-is_first c = sym (append-nil (chars (string_bytes c.args.text.now))) ∙ ap (λ b. chars (string_bytes c.args.text.now) ++ comma_unless b) (sym c.if-is_first.true)

pub returns : goal.returns
returns c = push_comma c.args.text.now _ c.in_ok-push.ensures.bytes ∙ ap (λ b. chars (string_bytes c.args.text.now) ++ comma_unless b) (sym c.if-is_first.false)
