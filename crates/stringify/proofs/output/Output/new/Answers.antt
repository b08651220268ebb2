use Rattle.std.proofs.Common.{[], ap, ◌∙◌}
use Rattle.std.specs.Str.{chars}
use Rattle.std.proofs.lemmas.Str.{chars-nil}
use Rattle.stringify.proofs.Puts.{sheet}
use Rattle.stringify.proofs.output.Output.new.Goals as goal

pub returns : goal.returns
returns c = ap (λ t. sheet t c.new-2.result.items) (ap chars c.new.ensures.bytes ∙ chars-nil) ∙ ap (sheet []) c.new-2.ensures.items
