-- When a run stops with each of the faults that all commands have, and with which status.
use Rattle.std.specs.Prelude.{ℕ, ◌≡◌, ◌<◌, ◌≤◌, ◌⊎◌, ◌↔◌, List, length, Option, Some, None}
use Rattle.std.specs.Str.{chars, IsUtf8, IsValidUpTo}
use Rattle.io_edge.specs.Causes.{Rose}
use Rattle.css_tree.specs.declared.fault.SyntaxFault.{SyntaxFault}
use Rattle.css_parse.specs.Answer.{IsFaultOf}
use Rattle.command_words.specs.Words.{Options, Command, Transform, Lint}
use Rattle.css_job.specs.Faults.{input_name, name_of, status_of}
use Rattle.css_job.specs.Reading.{HasNoTree}
use Rattle.css_job.specs.Plan.{limit}
use Rattle.css_job.specs.Outside.{Snapshot}
use Rattle.css_job.specs.declared.fault.Fault.{Fault}
use Rattle.css_job.specs.declared.fault.Fault.TheVariants.{Usage, ReadFault, WriteFault, TooLarge, NotUtf8, Syntax}
use Rattle.css_job.specs.declared.run.Ended.{Ended}
use Rattle.css_job.specs.declared.target.Target.TheVariants.{StdOut, StdErr}

-- the words are taken: they ask for a command
abbrev pub IsTaken : Option Command → Type 0
IsTaken command = (c : Command) × (command ≡ Some c)

abbrev pub IsTransform : Option Command → Type 0
IsTransform command = (o : Options) × (command ≡ Some (Transform o))

abbrev pub UsageCause : Option Command → Ended → Type 0
UsageCause command ended = (ended.fault ≡ Some Usage) ↔ (command ≡ None)

abbrev pub ReadCause : Option Command → Snapshot → Snapshot → Ended → Type 0
ReadCause command old new ended = (name : List ℕ) → ended.fault ≡ Some (ReadFault name) → (name ≡ input_name) × IsTaken command × Rose old.reads new.reads

-- the name is that of a sink whose count rose
abbrev pub IsFailedSink : List ℕ → Snapshot → Snapshot → Type 0
IsFailedSink name old new = ((name ≡ name_of StdOut) × Rose old.outs new.outs) ⊎ ((name ≡ name_of StdErr) × Rose old.errs new.errs)

abbrev pub WriteCause : Option Command → Snapshot → Snapshot → Ended → Type 0
WriteCause command old new ended = (name : List ℕ) → ended.fault ≡ Some (WriteFault name) → IsTaken command × IsFailedSink name old new

-- the words are taken, and these are the bytes of the input that is told
pub record Gets (command : Option Command) (old : Snapshot) (bytes : List ℕ) : Type 0 where
  pub taken : IsTaken command
  pub told : old.left ≡ Some bytes

-- the bytes are no more than the limit, and they are UTF-8
pub record IsTextInput (bytes : List ℕ) : Type 0 where
  pub short : length bytes ≤ limit
  pub utf8 : IsUtf8 bytes

-- of an input that is told: exactly where no read failed and it has too many bytes
pub record TooLargeCause (command : Option Command) (old new : Snapshot) (ended : Ended) : Type 0 where
  pub only : (bytes name : List ℕ) → old.left ≡ Some bytes → ended.fault ≡ Some (TooLarge name) → (name ≡ input_name) × IsTaken command × (limit < length bytes) × (new.reads ≡ old.reads)
  pub always : (bytes : List ℕ) → Gets command old bytes → limit < length bytes → ¬ Rose old.reads new.reads → ended.fault ≡ Some (TooLarge input_name)

-- of an input that is told: exactly where no read failed, it isn't too large, and its bytes are UTF-8 up to that one alone
pub record NotUtf8Cause (command : Option Command) (old new : Snapshot) (ended : Ended) : Type 0 where
  pub only : (bytes name : List ℕ) (at : ℕ) → old.left ≡ Some bytes → ended.fault ≡ Some (NotUtf8 name at) → (name ≡ input_name) × IsTaken command × (length bytes ≤ limit) × IsValidUpTo bytes at × (new.reads ≡ old.reads)
  pub always : (bytes : List ℕ) (at : ℕ) → Gets command old bytes → length bytes ≤ limit → IsValidUpTo bytes at → ¬ Rose old.reads new.reads → ended.fault ≡ Some (NotUtf8 input_name at)

-- of an input that is told: exactly where `transform` read it as a text that no tree is the reading of, with that text's first fault
pub record SyntaxCause (command : Option Command) (old new : Snapshot) (ended : Ended) : Type 0 where
  pub only : (bytes name : List ℕ) (f : SyntaxFault) → old.left ≡ Some bytes → ended.fault ≡ Some (Syntax name f) → (name ≡ input_name) × IsTransform command × IsTextInput bytes × IsFaultOf f (chars bytes) × (new.reads ≡ old.reads)
  pub always : (bytes : List ℕ) → IsTransform command → old.left ≡ Some bytes → IsTextInput bytes → HasNoTree (chars bytes) → ¬ Rose old.reads new.reads → (f : SyntaxFault) × IsFaultOf f (chars bytes) × (ended.fault ≡ Some (Syntax input_name f))

-- the status of each fault; without one it is 0, or 2 for `lint`
pub record StatusCause (command : Option Command) (ended : Ended) : Type 0 where
  pub faulty : (f : Fault) → ended.fault ≡ Some f → ended.status ≡ status_of f
  pub transformed : IsTransform command → ended.fault ≡ None → ended.status ≡ 0
  pub linted : command ≡ Some Lint → ended.fault ≡ None → (ended.status ≡ 0) ⊎ (ended.status ≡ 2)

-- without a fault no call failed
abbrev pub Unfailed : Snapshot → Snapshot → Ended → Type 0
Unfailed old new ended = ended.fault ≡ None → (new.reads ≡ old.reads) × (new.outs ≡ old.outs) × (new.errs ≡ old.errs)
