-- What a run answers and writes, as a function of its command, the names of the shelf's plugins, its input, what that is read as, what its walk came to, and the object whose call failed first.
use Rattle.std.specs.Prelude.{ℕ, List, [], ◌∷◌, ◌++◌, Bool, true, false, Option, Some, None, if◌then◌else◌}
use Rattle.css_job.specs.Faults.{line_of, name_of}
use Rattle.command_words.specs.Words.{Command}
use Rattle.css_job.specs.Plan.{Piece, Plan, to_err}
use Rattle.css_job.specs.TransformPlan.{Reached}
use Rattle.css_job.specs.CommandPlan.{plan_of}
use Rattle.css_job.specs.Reading.{Reading}
use Rattle.css_job.specs.declared.fault.Fault.{Fault}
use Rattle.css_job.specs.declared.fault.Fault.TheVariants.{WriteFault}
use Rattle.css_job.specs.declared.target.Target.{Target}
use Rattle.css_job.specs.declared.target.Target.TheVariants.{StdOut, StdErr}

-- what a run calls: a read of the input, or a write to a target
pub data Object : Type 0 where
  input : Object
  write_to : Target → Object

-- how a run ends, and what each target is to get
pub record Answer : Type 0 where
  pub fault : Option Fault
  pub status : ℕ
  pub out : List ℕ
  pub err : List ℕ

abbrev pub same_target : Target → Target → Bool
same_target StdOut StdOut = true
same_target StdErr StdErr = true
same_target _ _ = false

-- the texts that go to a target, in order
abbrev pub bytes_for : Target → List Piece → List ℕ
bytes_for t [] = []
bytes_for t (p ∷ ps) = if same_target t p.to then p.bytes ++ bytes_for t ps else bytes_for t ps

-- the writes through the first one to a target
abbrev pub begun : Target → List Piece → List Piece
begun t [] = []
begun t (p ∷ ps) = if same_target t p.to then p ∷ [] else p ∷ begun t ps

abbrev pub fault_line : List ℕ → Fault → List Piece
fault_line caller f = to_err (line_of caller f) ∷ []

-- what a failed write adds: the line of its fault, but for the target of the lines
abbrev pub after_failed : Target → List Piece
after_failed StdErr = []
after_failed t = fault_line [] (WriteFault (name_of t))

abbrev pub ending : Option Fault → ℕ → List Piece → Answer
ending fault status pieces = record { fault = fault; status = status; out = bytes_for StdOut pieces; err = bytes_for StdErr pieces }

-- the end of a plan, where a write to a target may have failed: the writes that were begun, and the fault line last
abbrev pub finish_with : Option Fault → List ℕ → ℕ → List Piece → Option Target → Answer
finish_with (Some f) caller status writes failed = ending (Some f) status (writes ++ fault_line caller f)
finish_with None caller status writes None = ending None status writes
finish_with None caller status writes (Some t) = ending (Some (WriteFault (name_of t))) 1 (begun t writes ++ after_failed t)

abbrev pub finish : Plan → Option Target → Answer
finish plan failed = finish_with plan.fault plan.caller plan.status plan.writes failed

abbrev pub is_input : Option Object → Bool
is_input (Some input) = true
is_input _ = false

abbrev pub failed_target : Option Object → Option Target
failed_target (Some (write_to t)) = Some t
failed_target _ = None

-- how a run of this command ends, where the shelf's plugins have these names, the input's text is read as this, the walk came to this, and the call of this object, or of none, failed first
unfoldable pub answer : Option Command → List (List ℕ) → List ℕ → Reading → Reached → Option Object → Answer
answer command names bytes reading reached failed = finish (plan_of command names bytes reading reached (is_input failed)) (failed_target failed)
