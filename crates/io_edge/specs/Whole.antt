-- What reading to the end and writing all do.
use Rattle.std.specs.Prelude.{◌≡◌, ℕ, ◌+◌, ◌≤◌, ◌<◌, List, ◌++◌, length, Option, Result, Ok, Err}
use Rattle.std.specs.Io.KnownBytes.{Consumes, Appends, IsAtEnd}
use Rattle.std.specs.declared.vec.Vec.{Vec}
use Rattle.std.specs.declared.alloc.Global.{Global}
use Rattle.io_edge.specs.Causes.{Rose}
use Rattle.io_edge.specs.declared.edge.ReadStop.{ReadStop}
use Rattle.io_edge.specs.declared.edge.ReadStop.TheVariants.{ReadFault, TooLarge}
use Rattle.io_edge.specs.declared.edge.ReadStop.TheVariants as RS
use Rattle.io_edge.specs.declared.edge.WriteStop.{WriteStop}
use Rattle.io_edge.specs.declared.edge.WriteStop.TheVariants.{WriteFault}
use Rattle.io_edge.specs.declared.edge.WriteStop.TheVariants as WS

-- the most bytes that one read is asked for
abbrev pub chunk_len : ℕ
chunk_len = 16384

-- all that was left came, or the front that came before a fault, want of memory, or the passing of the limit
abbrev pub ReadsAll : ℕ → Option (List ℕ) → Option (List ℕ) → ℕ → ℕ → Result (Vec ℕ Global) ReadStop → Type 0
ReadsAll limit old new before now (Ok bytes) = Consumes old new bytes.items × IsAtEnd new × (length bytes.items ≤ limit) × (now ≡ before)
ReadsAll limit old new before now (Err ReadFault) = (front : List ℕ) × Consumes old new front × (length front ≤ limit) × Rose before now
ReadsAll limit old new before now (Err TooLarge) = (front : List ℕ) × Consumes old new front × (limit < length front) × (now ≡ before) × (length front ≤ limit + chunk_len)
ReadsAll limit old new before now (Err (RS.Memory e)) = (front : List ℕ) × Consumes old new front × (now ≡ before) × (length front ≤ limit + chunk_len)

-- all of it went out, or a front that isn't all of it
abbrev pub WritesAll : List ℕ → Option (List ℕ) → Option (List ℕ) → ℕ → ℕ → Result (Unit {0}) WriteStop → Type 0
WritesAll bytes old new before now (Ok x) = Appends old new bytes × (now ≡ before)
WritesAll bytes old new before now (Err WriteFault) = (front : List ℕ) × (rest : List ℕ) × (front ++ rest ≡ bytes) × (0 < length rest) × Appends old new front × Rose before now
WritesAll bytes old new before now (Err (WS.Memory e)) = (front : List ℕ) × (rest : List ℕ) × (front ++ rest ≡ bytes) × Appends old new front × (now ≡ before)
