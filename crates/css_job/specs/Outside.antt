-- What a run did to its input, its folder and its sinks, as far as they tell.
use Rattle.std.specs.Prelude.{ℕ, ◌≡◌, ◌≤◌, ◌<◌, ◌⊎◌, List, [], ◌++◌, length, Option, Some, None, IfSome}
use Rattle.std.specs.Io.KnownBytes.{Consumes, Appends, IsAtEnd, Keeps}
use Rattle.io_edge.specs.Causes.{Rose}
use Rattle.io_edge.specs.declared.edge.Source as source
use Rattle.io_edge.specs.declared.edge.Folder as folder
use Rattle.io_edge.specs.declared.edge.Sink as sink
use Rattle.io_edge.specs.declared.edge.Action.{Action}
use Rattle.command_words.specs.Words.{Command}
use Rattle.css_job.specs.Plan.{limit}
use Rattle.css_job.specs.Answer.{Object, input, write_to}
use Rattle.css_job.specs.declared.target.Target.TheVariants.{StdOut, StdErr}

-- What the outside can be seen to hold, at one time: what is left of the input, the bytes under each name of the folder and its last failed call, and what each sink has, where they tell; and how often calls of each have failed.
pub record Snapshot : Type 0 where
  pub left : Option (List ℕ)
  pub held : Option (List ℕ → Option (List ℕ))
  pub blamed : Option (Action × List ℕ)
  pub out : Option (List ℕ)
  pub err : Option (List ℕ)
  pub reads : ℕ
  pub files : ℕ
  pub outs : ℕ
  pub errs : ℕ

abbrev pub snapshot : {S F O E : Type 0} → source.Ghosts S → folder.Ghosts F → sink.Ghosts O → sink.Ghosts E → S → F → O → E → Snapshot
snapshot s f o e reader files writer errors = record { left = s.left reader; held = f.held files; blamed = f.blamed files; out = o.written writer; err = e.written errors; reads = s.faults reader; files = f.faults files; outs = o.faults writer; errs = e.faults errors }

-- no command names a file: the folder is as it was, and no call of it failed
pub record KeepsFolder (old new : Snapshot) : Type 0 where
  pub held : new.held ≡ old.held
  pub blamed : new.blamed ≡ old.blamed
  pub files : new.files ≡ old.files

-- the object that failed first may be this one: its count rose, and no other count changed, but that of the fault line's sink
abbrev pub Licensed : Option Object → Snapshot → Snapshot → Type 0
Licensed None old new = (new.reads ≡ old.reads) × (new.outs ≡ old.outs) × (new.errs ≡ old.errs)
Licensed (Some input) old new = Rose old.reads new.reads × (new.outs ≡ old.outs) × (old.errs ≤ new.errs)
Licensed (Some (write_to StdOut)) old new = (new.reads ≡ old.reads) × Rose old.outs new.outs × (old.errs ≤ new.errs)
Licensed (Some (write_to StdErr)) old new = (new.reads ≡ old.reads) × (new.outs ≡ old.outs) × Rose old.errs new.errs

-- a sink took a text, or a front of it where a call of it failed
pub record Took (text : List ℕ) (old new : Option (List ℕ)) (before now : ℕ) : Type 0 where
  pub front : List ℕ
  pub rest : List ℕ
  pub joined : front ++ rest ≡ text
  pub appended : Appends old new front
  pub whole : (rest ≡ []) ⊎ Rose before now

-- a sink took a front of a text
pub record TookFront (text : List ℕ) (old new : Option (List ℕ)) : Type 0 where
  pub front : List ℕ
  pub rest : List ℕ
  pub joined : front ++ rest ≡ text
  pub appended : Appends old new front

-- the input was read as far as this: not at all where its turn didn't come, to its end where no read failed and it is not too long
pub record Fed (command : Option Command) (bytes : List ℕ) (old new : Option (List ℕ)) : Type 0 where
  pub told : IfSome old (λ xs. bytes ≡ xs)
  pub given : List ℕ
  pub front : Consumes old new given
  pub unread : command ≡ None → Keeps old new

-- where the input's turn came and no read failed, it was read to its end, or beyond the limit
pub record IsRead (bytes given : List ℕ) (new : Option (List ℕ)) : Type 0 where
  pub drained : length bytes ≤ limit → IsAtEnd new
  pub passed : limit < length bytes → limit < length given
