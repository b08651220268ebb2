-- What a read or write comes to after calls that lost and took nothing.
use Rattle.std.proofs.Common.{◌≡◌, ℕ, List, ◌++◌, Some, None, Result, Ok, Err, sym, ap, ◌∙◌}
use Rattle.std.specs.Prelude.{Option}
use Rattle.std.specs.Io.KnownBytes.{Keeps, Consumes, Appends, ReadConsumes, WriteAppends}
use Rattle.std.proofs.KnownBytes.{Keeps-trans}

consumed : (a b c : Option (List ℕ)) (bs : List ℕ) → Keeps a b → Consumes b c bs → Consumes a c bs
consumed None b c bs p q = tt
consumed (Some x) None c bs p q = absurd p
consumed (Some x) (Some y) None bs p q = absurd q
consumed (Some x) (Some y) (Some z) bs p q = sym p ∙ q

appended : (a b c : Option (List ℕ)) (bs : List ℕ) → Keeps a b → Appends b c bs → Appends a c bs
appended None b c bs p q = tt
appended (Some x) None c bs p q = absurd p
appended (Some x) (Some y) None bs p q = absurd q
appended (Some x) (Some y) (Some z) bs p q = q ∙ ap (λ l. l ++ bs) p

pub read_after : {E : Type 0} (a b c : Option (List ℕ)) (r : Result ℕ E) (buf : List ℕ) → Keeps a b → ReadConsumes b c r buf → ReadConsumes a c r buf
read_after a b c (Ok n) buf k h = (consumed a b c _ k h.0, h.1)
read_after a b c (Err e) buf k h = Keeps-trans a b c k h

pub write_after : {E : Type 0} (a b c : Option (List ℕ)) (r : Result ℕ E) (piece : List ℕ) → Keeps a b → WriteAppends b c r piece → WriteAppends a c r piece
write_after a b c (Ok n) piece k h = appended a b c _ k h
write_after a b c (Err e) piece k h = Keeps-trans a b c k h
