use Rattle.std.proofs.Common.{[], ◌∷◌, refl}
use Rattle.std.proofs.lemmas.Str.{chars-encodes, chars-nil}
use Rattle.node_store.proofs.parts.semicolon.Goals as goal

pub returns-in-true : goal.returns-in-true
unfolding lib.Utf8.encode
returns-in-true c = rw c.in-true.is (chars-encodes (59 ∷ []) refl)

pub returns-in-false : goal.returns-in-false
returns-in-false c = rw c.in-false.is chars-nil
