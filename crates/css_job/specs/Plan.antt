-- What is to be done once all is read: the fault that stopped a run, or the texts that it writes.
use Rattle.std.specs.Prelude.{ℕ, List, [], Option, Some}
use Rattle.css_job.specs.Faults.{status_of}
use Rattle.css_job.specs.declared.fault.Fault.{Fault}
use Rattle.css_job.specs.declared.target.Target.{Target}
use Rattle.css_job.specs.declared.target.Target.TheVariants.{StdOut, StdErr}

-- a text that goes to a target
pub record Piece : Type 0 where
  pub to : Target
  pub bytes : List ℕ

-- a fault of the words, of what was read or of the walk, the name of the plugin that was called last, the status where no write fails, and the writes in order
pub record Plan : Type 0 where
  pub fault : Option Fault
  pub caller : List ℕ
  pub status : ℕ
  pub writes : List Piece

abbrev pub stopped : Fault → Plan
stopped f = record { fault = Some f; caller = []; status = status_of f; writes = [] }

-- the most bytes of an input
abbrev pub limit : ℕ
limit = 8388608

abbrev pub to_err : List ℕ → Piece
to_err bytes = record { to = StdErr; bytes = bytes }

abbrev pub to_out : List ℕ → Piece
to_out bytes = record { to = StdOut; bytes = bytes }
