-- The two stages of a run: all that is read and computed, and then all that is written.
use Rattle.std.specs.Prelude.{ℕ, ◌≡◌, ◌<◌, ◌≤◌, ◌⊎◌, List, [], ◌∷◌, ◌++◌, length, map, Bool, true, false, Option, Some, None, is_some, Result, Ok, Err, encode_utf8_all}
use Rattle.std.specs.Io.KnownBytes.{Appends}
use Rattle.std.specs.declared.alloc.AllocError.{AllocError}
use Rattle.io_edge.specs.Causes.{Rose}
use Rattle.io_edge.specs.declared.edge.Sink as sink
use Rattle.io_edge.specs.declared.edge.WriteStop.{WriteStop}
use Rattle.io_edge.specs.declared.edge.WriteStop.TheVariants.{WriteFault, Memory}
use Rattle.std.specs.Str.{chars}
use Rattle.node_store.specs.declared.item.Item.{Item}
use Rattle.node_store.specs.Forest.{Forest}
use Rattle.plugin_api.specs.Shelf.{PluginSeen}
use Rattle.visitor_walk.specs.Heard.{Hears}
use Rattle.command_words.specs.Words.{Command, Transform}
use Rattle.css_job.specs.Reading.{Reading, IsReadingOf}
use Rattle.css_job.specs.Faults.{line_of, name_of}
use Rattle.css_job.specs.Plan.{Piece, Plan}
use Rattle.css_job.specs.TransformPlan.{Reached, Turn, turn_of, kept_log}
use Rattle.css_job.specs.CommandPlan.{plan_of, input_plan, text_plan}
use Rattle.css_job.specs.declared.prepared.Prepared as S
use Rattle.css_job.specs.Answer.{finish_with, begun, bytes_for}
use Rattle.css_job.specs.Stated.{Asked, Heard, IsCutLog, names_of}
use Rattle.css_job.specs.Outside.{Fed, IsRead, Took, TookFront}
use Rattle.css_job.specs.Walked.{IsWalked, IsKept}
use Rattle.css_job.specs.declared.fault.Fault.{Fault}
use Rattle.css_job.specs.declared.fault.Fault.TheVariants as F
use Rattle.css_job.specs.declared.carry_out.Settled.{Settled}
use Rattle.css_job.specs.declared.plan.Write.{Write}
use Rattle.css_job.specs.declared.plan.Plan as P
use Rattle.css_job.specs.declared.target.Target.{Target}
use Rattle.css_job.specs.declared.target.Target.TheVariants.{StdOut, StdErr}

abbrev pub piece_of : Write → Piece
piece_of w = record { to = w.to; bytes = encode_utf8_all w.text }

abbrev pub plan_seen : P.Plan → Plan
plan_seen p = record { fault = p.fault; caller = p.caller; status = p.status; writes = map piece_of p.writes.items }

-- a plan that writes one text
abbrev pub writing : Target → List ℕ → ℕ → Plan
writing to text status = record { fault = None; caller = []; status = status; writes = record { to = to; bytes = encode_utf8_all text } ∷ [] }

-- what a stage did: its plan, the log, the work, and the shelf
pub record Stage : Type 0 where
  pub plan : Plan
  pub log : List Item
  pub work : Option Forest

abbrev pub stage_seen : S.Prepared → Stage
stage_seen p = record { plan = plan_seen p.plan; log = p.log.items; work = p.work }

-- the walk of a text's reading and what is kept of it
pub record Kept (shelf after : List PluginSeen) (s : List ℕ) (turn : Option Turn) (r : Reached) (stage : Stage) : Type 0 where
  pub walked : IsWalked shelf s turn r
  pub log : stage.log ≡ kept_log turn r
  pub work : IsKept s turn r stage.work
  pub heard : Heard shelf after stage.log

-- the walk that a command makes of a text
abbrev pub command_turn : Command → Reading → Option Turn
command_turn (Transform o) (Ok t) = Some (record { options = o; tree = t })
command_turn _ reading = None

-- the plan of a command for a text, for what that is read as
pub record IsTextPlan (command : Command) (shelf after : List PluginSeen) (s : List ℕ) (stage : Stage) : Type 0 where
  pub reading : Reading
  pub is_reading : IsReadingOf s reading
  pub reached : Reached
  pub kept : Kept shelf after s (command_turn command reading) reached stage
  pub is : stage.plan ≡ text_plan command (names_of shelf) s reading reached

-- the visitors, where a run was out of memory
pub record CutOff (shelf after : List PluginSeen) (command : Option Command) (s : List ℕ) : Type 0 where
  pub log : List Item
  pub cut : (log ≡ []) ⊎ IsCutLog shelf command s log
  pub heard : Hears {A = Unit {0}} (Err (record {})) 0 log shelf after

abbrev pub Planned : Command → List PluginSeen → List PluginSeen → List ℕ → Result S.Prepared AllocError → Type 0
Planned command shelf after s (Ok p) = IsTextPlan command shelf after s (stage_seen p)
Planned command shelf after s (Err e) = CutOff shelf after (Some command) s

-- the plan of a command for an input that was read whole, for what its text is read as
pub record IsInputPlan (command : Command) (shelf after : List PluginSeen) (bytes : List ℕ) (stage : Stage) : Type 0 where
  pub reading : Reading
  pub is_reading : IsReadingOf (chars bytes) reading
  pub reached : Reached
  pub kept : Kept shelf after (chars bytes) (turn_of (Some command) bytes reading false) reached stage
  pub is : stage.plan ≡ input_plan command (names_of shelf) bytes reading reached

abbrev pub PlansInput : Command → List PluginSeen → List PluginSeen → List ℕ → Result S.Prepared AllocError → Type 0
PlansInput command shelf after bytes (Ok p) = IsInputPlan command shelf after bytes (stage_seen p)
PlansInput command shelf after bytes (Err e) = CutOff shelf after (Some command) (chars bytes)

-- the first stage: the input is read as far as the words want it, and the plan is that of the input
pub record IsPrepared (asked : Asked) (after : List PluginSeen) (old new : Option (List ℕ)) (before now : ℕ) (stage : Stage) : Type 0 where
  pub bytes : List ℕ
  pub reading : Reading
  pub is_reading : IsReadingOf (chars bytes) reading
  pub unread : Bool
  pub rose : unread ≡ true → Rose before now
  pub same : unread ≡ false → now ≡ before
  pub wanted : unread ≡ true → is_some asked.command ≡ true
  pub fed : Fed asked.command bytes old new
  pub is_read : is_some asked.command ≡ true → unread ≡ false → IsRead bytes fed.given new
  pub reached : Reached
  pub kept : Kept asked.shelf after (chars bytes) (turn_of asked.command bytes reading unread) reached stage
  pub is : stage.plan ≡ plan_of asked.command (names_of asked.shelf) bytes reading reached unread

-- the first stage, where it wanted memory
pub record Unprepared (asked : Asked) (after : List PluginSeen) (old new : Option (List ℕ)) (before now : ℕ) : Type 0 where
  pub bytes : List ℕ
  pub reads : (now ≡ before) ⊎ Rose before now
  pub fed : Fed asked.command bytes old new
  pub visits : CutOff asked.shelf after asked.command (chars bytes)

abbrev pub Prepares : Asked → List PluginSeen → Option (List ℕ) → Option (List ℕ) → ℕ → ℕ → Result S.Prepared AllocError → Type 0
Prepares asked after old new before now (Ok p) = IsPrepared asked after old new before now (stage_seen p)
Prepares asked after old new before now (Err e) = Unprepared asked after old new before now

-- both sinks at a moment
pub record Sinks : Type 0 where
  pub out : Option (List ℕ)
  pub err : Option (List ℕ)
  pub outs : ℕ
  pub errs : ℕ

abbrev pub sinks : {O E : Type 0} → sink.Ghosts O → sink.Ghosts E → O → E → Sinks
sinks o e writer errors = record { out = o.written writer; err = e.written errors; outs = o.faults writer; errs = e.faults errors }

pub record Sent (pieces : List Piece) (old new : Sinks) : Type 0 where
  pub out : Appends old.out new.out (bytes_for StdOut pieces)
  pub err : Appends old.err new.err (bytes_for StdErr pieces)

pub record Same (old new : Sinks) : Type 0 where
  pub outs : new.outs ≡ old.outs
  pub errs : new.errs ≡ old.errs

abbrev pub RoseAt : Target → Sinks → Sinks → Type 0
RoseAt StdOut old new = Rose old.outs new.outs × (new.errs ≡ old.errs)
RoseAt StdErr old new = (new.outs ≡ old.outs) × Rose old.errs new.errs

-- the pieces before one to this target went out, and a front of that one
pub record Broken (t : Target) (pieces : List Piece) (old new : Sinks) : Type 0 where
  pub done : List Piece
  pub front : List ℕ
  pub rest : List ℕ
  pub after : List Piece
  pub is : pieces ≡ done ++ record { to = t; bytes = front ++ rest } ∷ after
  pub sent : Sent (done ++ record { to = t; bytes = front } ∷ []) old new

abbrev pub WritesOne : Piece → Sinks → Sinks → Result (Unit {0}) WriteStop → Type 0
WritesOne p old new (Ok x) = Sent (p ∷ []) old new × Same old new
WritesOne p old new (Err WriteFault) = Broken p.to (p ∷ []) old new × RoseAt p.to old new
WritesOne p old new (Err (Memory e)) = Broken p.to (p ∷ []) old new × Same old new

abbrev pub WritesEach : List Piece → Sinks → Sinks → Result (Option Target) AllocError → Type 0
WritesEach pieces old new (Ok None) = Sent pieces old new × Same old new
WritesEach pieces old new (Ok (Some t)) = Broken t pieces old new × RoseAt t old new
WritesEach pieces old new (Err e) = (t : Target) × Broken t pieces old new × Same old new

-- the last line, where one is to be written
abbrev pub last_line : List ℕ → Option Fault → Option Target → List ℕ
last_line caller None failed = []
last_line caller (Some f) None = line_of caller f
last_line caller (Some f) (Some StdOut) = line_of caller f
last_line caller (Some f) (Some StdErr) = []

-- a line of which a front went out, and then a write failed
pub record Cut (text : List ℕ) (old new : Option (List ℕ)) (before now : ℕ) : Type 0 where
  pub front : List ℕ
  pub rest : List ℕ
  pub joined : front ++ rest ≡ text
  pub more : 0 < length rest
  pub appended : Appends old new front
  pub rose : Rose before now

abbrev pub SaysLast : List ℕ → Option (List ℕ) → Option (List ℕ) → ℕ → ℕ → Result (Unit {0}) AllocError → Type 0
SaysLast text old new before now (Ok x) = (Appends old new text × (now ≡ before)) ⊎ Cut text old new before now
SaysLast text old new before now (Err e) = TookFront text old new × (now ≡ before)

-- the fault and the status after the writes
abbrev pub settled : Option Fault → ℕ → Option Target → Option Fault × ℕ
settled (Some f) status failed = (Some f, status)
settled None status None = (None, status)
settled None status (Some t) = (Some (F.WriteFault (name_of t)), 1)

abbrev pub OnlyErr : List Piece → Type 0
OnlyErr [] = Unit {0}
OnlyErr (p ∷ ps) = (p.to ≡ StdErr) × OnlyErr ps

-- a plan that can be carried out: beside a fault nothing but the trace is written, and each target has one piece
pub record IsSound (plan : Plan) : Type 0 where
  pub quiet : (f : Fault) → plan.fault ≡ Some f → OnlyErr plan.writes
  pub once : (done after : List Piece) (p : Piece) → plan.writes ≡ done ++ p ∷ after → begun p.to plan.writes ≡ done ++ p ∷ []

-- which sink failed first
abbrev pub Blames : Option Target → Sinks → Sinks → Type 0
Blames None old new = Same old new
Blames (Some StdOut) old new = Rose old.outs new.outs × (old.errs ≤ new.errs)
Blames (Some StdErr) old new = (new.outs ≡ old.outs) × Rose old.errs new.errs

-- the second stage
pub record Carried (plan : Plan) (old new : Sinks) (ended : Settled) : Type 0 where
  pub failed : Option Target
  pub blamed : Blames failed old new
  pub quiet : (f : Fault) → plan.fault ≡ Some f → failed ≡ Some StdOut → ⊥
  pub status : ended.status ≡ (finish_with plan.fault plan.caller plan.status plan.writes failed).status
  pub fault : ended.fault ≡ (finish_with plan.fault plan.caller plan.status plan.writes failed).fault
  pub out : Took (finish_with plan.fault plan.caller plan.status plan.writes failed).out old.out new.out old.outs new.outs
  pub err : Took (finish_with plan.fault plan.caller plan.status plan.writes failed).err old.err new.err old.errs new.errs

-- the second stage, where it wanted memory
pub record Stranded (plan : Plan) (old new : Sinks) : Type 0 where
  pub failed : Option Target
  pub blamed : Blames failed old new
  pub quiet : (f : Fault) → plan.fault ≡ Some f → failed ≡ Some StdOut → ⊥
  pub out : TookFront (finish_with plan.fault plan.caller plan.status plan.writes failed).out old.out new.out
  pub err : TookFront (finish_with plan.fault plan.caller plan.status plan.writes failed).err old.err new.err

abbrev pub CarriesOut : Plan → Sinks → Sinks → Result Settled AllocError → Type 0
CarriesOut plan old new (Ok ended) = Carried plan old new ended
CarriesOut plan old new (Err e) = Stranded plan old new
