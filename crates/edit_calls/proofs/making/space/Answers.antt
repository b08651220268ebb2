use Rattle.std.proofs.Common.{◌≡◌, ◌∙◌, refl}
use Rattle.std.specs.Prelude.{codes}
use Rattle.std.specs.Str.{chars}
use Rattle.std.proofs.lemmas.Result.{IfOk-weaker}
use Rattle.std.proofs.lemmas.Str.{chars-encodes}
use Rattle.edit_calls.proofs.making.space.Goals as goal

pub returns : goal.returns
unfolding lib.Utf8.encode
returns c = IfOk-weaker c.new.result (λ t. t ≡ chars _) (λ t. t ≡ codes " ") (λ t e. e ∙ chars-encodes (codes " ") refl) c.new.ensures
