use Rattle.std.proofs.Common.{◌≡◌, ◌∙◌, []}
use Rattle.std.specs.Str.{chars}
use Rattle.std.proofs.lemmas.Result.{IfOk-weaker}
use Rattle.std.proofs.lemmas.Str.{chars-nil}
use Rattle.edit_calls.proofs.making.nothing.Goals as goal

pub returns : goal.returns
returns c = IfOk-weaker c.new.result (λ t. t ≡ chars []) (λ t. t ≡ []) (λ t e. e ∙ chars-nil) c.new.ensures
