-- What goes out piece by piece.
use Rattle.std.proofs.Common.{◌≡◌, ℕ, ◌+◌, ◌-◌, ◌<◌, List, length, take, drop, Err, sym, subst, ◌∙◌, arith, length-drop, take-append-drop}
use Rattle.std.specs.Prelude.{Option}
use Rattle.std.specs.Io.KnownBytes.{Appends, Keeps}
use Rattle.std.proofs.KnownBytes.{Appends-trans, Appends-kept}
use Rattle.std.proofs.Math.Seq.{take-add}
use Rattle.std.proofs.lemmas.List.{take_all}
use Rattle.io_edge.specs.Causes.{Rose, WriteCause}
use Rattle.io_edge.specs.Whole.{WritesAll}
use Rattle.io_edge.specs.declared.edge.WriteStop.{WriteStop}
use Rattle.io_edge.specs.declared.edge.WriteStop.TheVariants.{WriteFault, Memory}

pub taken_more : (a b c : Option (List ℕ)) (bytes : List ℕ) (i n : ℕ) → Appends a b (take i bytes) → Appends b c (take n (take (length bytes - i) (drop i bytes))) → Appends a c (take (i + n) bytes)
taken_more a b c bytes i n h k =
    let all : take (length bytes - i) (drop i bytes) ≡ drop i bytes = take_all (length bytes - i) (drop i bytes) (omega (arith, length-drop i bytes)) in
    subst (Appends a c) (sym (take-add i n bytes)) (Appends-trans a b c _ _ h (subst (λ xs. Appends b c (take n xs)) all k))

-- where a piece is refused
pub refused : (a b c : Option (List ℕ)) (bytes : List ℕ) (i before mid now : ℕ) (e : WriteStop) → i < length bytes → Appends a b (take i bytes) → Keeps b c → mid ≡ before → WriteCause {T = ℕ} mid now (Err e) → WritesAll bytes a c before now (Err e)
refused a b c bytes i before mid now WriteFault lt h k same rose =
    (take i bytes, drop i bytes, take-append-drop i bytes, omega (arith, length-drop i bytes), Appends-kept a b c _ h k, subst (λ n. Rose n now) same rose)
refused a b c bytes i before mid now (Memory e) lt h k same kept =
    (take i bytes, drop i bytes, take-append-drop i bytes, Appends-kept a b c _ h k, kept ∙ same)
