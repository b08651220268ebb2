-- When a call of something outside may answer that it failed.
use Rattle.std.specs.Prelude.{◌≡◌, ℕ, ◌+◌, ◌-◌, ◌^◌, ◌≤◌, min, Option, Some, Result, Ok, Err}
use Rattle.io_edge.specs.declared.edge.ReadStop.{ReadStop}
use Rattle.io_edge.specs.declared.edge.ReadStop.TheVariants.{ReadFault, TooLarge}
use Rattle.io_edge.specs.declared.edge.ReadStop.TheVariants as RS
use Rattle.io_edge.specs.declared.edge.WriteStop.{WriteStop}
use Rattle.io_edge.specs.declared.edge.WriteStop.TheVariants.{WriteFault}
use Rattle.io_edge.specs.declared.edge.WriteStop.TheVariants as WS

-- a count of faults rose, or stands at the last value of a u64
pub record Rose (before now : ℕ) : Type 0 where
  pub later : before ≤ now
  pub rose : min (before + 1) (2 ^ 64 - 1) ≤ now

-- an error comes only where the count rose, and every other answer leaves the count
abbrev pub HasCause : {T E : Type 0} → ℕ → ℕ → Result T E → Type 0
HasCause before now (Ok x) = now ≡ before
HasCause before now (Err e) = Rose before now

-- the same of a write, where want of memory is no fault
abbrev pub WriteCause : {T : Type 0} → ℕ → ℕ → Result T WriteStop → Type 0
WriteCause before now (Ok x) = now ≡ before
WriteCause before now (Err WriteFault) = Rose before now
WriteCause before now (Err (WS.Memory e)) = now ≡ before

-- the same of a read
abbrev pub ReadCause : {T : Type 0} → ℕ → ℕ → Result T ReadStop → Type 0
ReadCause before now (Ok x) = now ≡ before
ReadCause before now (Err ReadFault) = Rose before now
ReadCause before now (Err TooLarge) = now ≡ before
ReadCause before now (Err (RS.Memory e)) = now ≡ before

-- a failed call on a file is blamed, and every other answer leaves who is blamed
abbrev pub ReadFileCause : {T B : Type 0} → B → Option B → Option B → ℕ → ℕ → Result T ReadStop → Type 0
ReadFileCause this old new before now (Ok x) = (new ≡ old) × (now ≡ before)
ReadFileCause this old new before now (Err ReadFault) = (new ≡ Some this) × Rose before now
ReadFileCause this old new before now (Err TooLarge) = (new ≡ old) × (now ≡ before)
ReadFileCause this old new before now (Err (RS.Memory e)) = (new ≡ old) × (now ≡ before)

abbrev pub WriteFileCause : {T B : Type 0} → B → Option B → Option B → ℕ → ℕ → Result T WriteStop → Type 0
WriteFileCause this old new before now (Ok x) = (new ≡ old) × (now ≡ before)
WriteFileCause this old new before now (Err WriteFault) = (new ≡ Some this) × Rose before now
WriteFileCause this old new before now (Err (WS.Memory e)) = (new ≡ old) × (now ≡ before)
