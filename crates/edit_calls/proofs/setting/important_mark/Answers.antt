use Rattle.std.proofs.Common.{refl}
use Rattle.std.specs.Prelude.{codes}
use Rattle.std.proofs.lemmas.Str.{chars-encodes, chars-nil}
use Rattle.edit_calls.proofs.setting.important_mark.Goals as goal

pub returns-in-true : goal.returns-in-true
unfolding lib.Utf8.encode
returns-in-true c = rw c.in-true.is (chars-encodes (codes " !important") refl)

pub returns-in-false : goal.returns-in-false
returns-in-false c = rw c.in-false.is chars-nil
