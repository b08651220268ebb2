-- What a run was asked for, and that all that it answers and writes is as the definition of the answer says.
use Rattle.std.specs.Prelude.{ℕ, ◌≡◌, ◌≤◌, ◌⊎◌, List, [], map, true, false, Option, Some, is_some, Result, Ok, Err}
use Rattle.std.specs.Str.{chars}
use Rattle.std.specs.declared.alloc.AllocError.{AllocError}
use Rattle.std.specs.Io.KnownBytes.{Keeps}
use Rattle.io_edge.specs.Causes.{Rose}
use Rattle.css_tree.specs.Tree.{Tree}
use Rattle.css_tree.specs.Reads.{Reads}
use Rattle.node_store.specs.declared.item.Item.{Item}
use Rattle.plugin_api.specs.Shelf.{PluginSeen}
use Rattle.visitor_machine.specs.Calls.{calls_in}
use Rattle.visitor_walk.specs.Heard.{Hears}
use Rattle.visitor_walk.specs.Picked.{picked_hooks}
use Rattle.command_words.specs.Words.{Options, Command, Transform, command_of}
use Rattle.css_job.specs.TransformPlan.{Reached, Turn, turn_of, kept_log, budget_for}
use Rattle.css_job.specs.Walked.{Run, IsWalked, IsKept}
use Rattle.css_job.specs.Reading.{Reading, IsReadingOf}
use Rattle.css_job.specs.Answer.{Object, Answer, answer, is_input}
use Rattle.css_job.specs.Outside.{Snapshot, Licensed, Took, TookFront, Fed, IsRead}
use Rattle.css_job.specs.declared.run.Ended.{Ended}

-- what a run was asked for: its command, and the shelf of plugins
pub record Asked : Type 0 where
  pub command : Option Command
  pub shelf : List PluginSeen

abbrev pub names_of : List PluginSeen → List (List ℕ)
names_of shelf = map (λ p. p.name) shelf

abbrev pub asked : List (List ℕ) → List PluginSeen → Asked
asked words shelf = record { command = command_of (names_of shelf) words; shelf = shelf }

abbrev pub answer_to : Asked → List ℕ → Reading → Reached → Option Object → Answer
answer_to asked bytes reading reached failed = answer asked.command (names_of asked.shelf) bytes reading reached failed

-- the walk's turn, where the call of this object failed first
abbrev pub turn_in : Asked → List ℕ → Reading → Option Object → Option Turn
turn_in asked bytes reading failed = turn_of asked.command bytes reading (is_input failed)

-- a run that ended: for its input, for what that is read as, for what its walk came to, and for the object that failed first, all is as the answer says
pub record Ends (asked : Asked) (old new : Snapshot) (ended : Ended) : Type 0 where
  pub bytes : List ℕ
  pub reading : Reading
  pub is_reading : IsReadingOf (chars bytes) reading
  pub failed : Option Object
  pub licensed : Licensed failed old new
  pub fed : Fed asked.command bytes old.left new.left
  pub is_read : is_some asked.command ≡ true → is_input failed ≡ false → IsRead bytes fed.given new.left
  pub reached : Reached
  pub walked : IsWalked asked.shelf (chars bytes) (turn_in asked bytes reading failed) reached
  pub log : ended.log.items ≡ kept_log (turn_in asked bytes reading failed) reached
  pub work : IsKept (chars bytes) (turn_in asked bytes reading failed) reached ended.work
  pub status : ended.status ≡ (answer_to asked bytes reading reached failed).status
  pub fault : ended.fault ≡ (answer_to asked bytes reading reached failed).fault
  pub out : Took (answer_to asked bytes reading reached failed).out old.out new.out old.outs new.outs
  pub err : Took (answer_to asked bytes reading reached failed).err old.err new.err old.errs new.errs

-- the visitors on the shelf tell and say what the log holds of them; names, events, filters and duties stay
abbrev pub Heard : List PluginSeen → List PluginSeen → List Item → Type 0
Heard old new log = Hears {A = Unit {0}} (Ok tt) 0 log old new

-- a run that wanted memory at its writes or after them: each sink took a front of what the answer says
pub record RanOutWriting (asked : Asked) (after : List PluginSeen) (old new : Snapshot) : Type 0 where
  pub bytes : List ℕ
  pub reading : Reading
  pub is_reading : IsReadingOf (chars bytes) reading
  pub failed : Option Object
  pub licensed : Licensed failed old new
  pub fed : Fed asked.command bytes old.left new.left
  pub reached : Reached
  pub walked : IsWalked asked.shelf (chars bytes) (turn_in asked bytes reading failed) reached
  pub heard : Heard asked.shelf after (kept_log (turn_in asked bytes reading failed) reached)
  pub out : TookFront (answer_to asked bytes reading reached failed).out old.out new.out
  pub err : TookFront (answer_to asked bytes reading reached failed).err old.err new.err

-- the log of a walk that may have been cut off: that of `transform` is a run with no more calls than its budget
pub record IsCutLog (shelf : List PluginSeen) (command : Option Command) (s : List ℕ) (log : List Item) : Type 0 where
  pub options : Options
  pub is_transform : command ≡ Some (Transform options)
  pub tree : Tree
  pub reads : Reads s tree
  pub made : Run (picked_hooks shelf options.picked) (budget_for options.edit_budget tree) shelf s log
  pub paid : calls_in log ≤ budget_for options.budget tree

-- a run that wanted memory before its writes: nothing went out
pub record RanOutReading (asked : Asked) (after : List PluginSeen) (old new : Snapshot) : Type 0 where
  pub bytes : List ℕ
  pub fed : Fed asked.command bytes old.left new.left
  pub reads : (new.reads ≡ old.reads) ⊎ Rose old.reads new.reads
  pub outs : new.outs ≡ old.outs
  pub errs : new.errs ≡ old.errs
  pub out : Keeps old.out new.out
  pub err : Keeps old.err new.err
  pub log : List Item
  pub cut : (log ≡ []) ⊎ IsCutLog asked.shelf asked.command (chars bytes) log
  pub heard : Hears {A = Unit {0}} (Err (record {})) 0 log asked.shelf after

abbrev pub RanOut : Asked → List PluginSeen → Snapshot → Snapshot → Type 0
RanOut asked after old new = RanOutWriting asked after old new ⊎ RanOutReading asked after old new

abbrev pub Runs : Asked → List PluginSeen → Snapshot → Snapshot → Result Ended AllocError → Type 0
Runs asked after old new (Ok ended) = Ends asked old new ended × Heard asked.shelf after ended.log.items
Runs asked after old new (Err e) = RanOut asked after old new
