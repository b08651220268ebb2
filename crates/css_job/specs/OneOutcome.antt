-- Two runs that are asked for the same, over the same bytes, have one outcome.
use Rattle.std.specs.Prelude.{◌≡◌, ℕ, List, [], map, Option, Some, None, IsSome}
use Rattle.std.specs.List.{All}
use Rattle.std.specs.Io.KnownBytes.{Appends}
use Rattle.io_edge.specs.Causes.{Rose}
use Rattle.plugin_api.specs.Shelf.{HookSeen, PluginSeen, hook_at}
use Rattle.command_words.specs.Words.{Options, Transform}
use Rattle.css_job.specs.Outside.{Snapshot}
use Rattle.css_job.specs.Stated.{Asked, asked, Ends}
use Rattle.css_job.specs.declared.run.Ended.{Ended}

-- a hook without what its visitor told, said and left open: its event, filter and duty stay
abbrev pub untold : HookSeen → HookSeen
untold h = record { event = h.event; filter = h.filter; told = None; said = []; duty = h.duty; left = 0 }

abbrev pub untold_plugin : PluginSeen → PluginSeen
untold_plugin p = record { name = p.name; hooks = map untold p.hooks }

-- two shelves have the same names, and hook for hook the same event, filter and duty
abbrev pub SameShelf : List PluginSeen → List PluginSeen → Type 0
SameShelf a b = map untold_plugin a ≡ map untold_plugin b

-- each hook of the picked plugins has a duty
abbrev pub AllOwe : List PluginSeen → List ℕ → Type 0
AllOwe shelf picked = All (λ i. (j : ℕ) (h : HookSeen) → hook_at shelf i j ≡ Some h → IsSome h.duty) picked

-- the same of the plugins that a run picks
abbrev pub PickedOwe : Asked → Type 0
PickedOwe job = (o : Options) → job.command ≡ Some (Transform o) → AllOwe job.shelf o.picked

-- no call failed: no count rose or stands at its last value
pub record NoneRose (old new : Snapshot) : Type 0 where
  pub reads : ¬ Rose old.reads new.reads
  pub outs : ¬ Rose old.outs new.outs
  pub errs : ¬ Rose old.errs new.errs

-- a run: what it was asked for, the moments before and after it, and how it ended
pub record EndedRun : Type 0 where
  pub job : Asked
  pub old : Snapshot
  pub new : Snapshot
  pub ended : Ended
  pub ends : Ends job old new ended

-- a run was asked for the same, and both inputs tell the same bytes
pub record SameJob (job : Asked) (old : Snapshot) (run : EndedRun) : Type 0 where
  pub command : job.command ≡ run.job.command
  pub shelf : SameShelf job.shelf run.job.shelf
  pub bytes : List ℕ
  pub told : old.left ≡ Some bytes
  pub its : run.old.left ≡ Some bytes

-- two sinks took one text
pub record TookOne (old new before after : Option (List ℕ)) : Type 0 where
  pub text : List ℕ
  pub one : Appends old new text
  pub other : Appends before after text

-- the status, the fault and all that is written are the same
pub record SameOutcome (old new : Snapshot) (ended : Ended) (run : EndedRun) : Type 0 where
  pub status : ended.status ≡ run.ended.status
  pub fault : ended.fault ≡ run.ended.fault
  pub out : TookOne old.out new.out run.old.out run.new.out
  pub err : TookOne old.err new.err run.old.err run.new.err

-- the logs are the same where no read failed in either run, and the outcomes where no call did
pub record Agrees (old new : Snapshot) (ended : Ended) (run : EndedRun) : Type 0 where
  pub log : ¬ Rose old.reads new.reads → ¬ Rose run.old.reads run.new.reads → ended.log.items ≡ run.ended.log.items
  pub outcome : NoneRose old new → NoneRose run.old run.new → SameOutcome old new ended run

-- where each picked visitor has a duty, each run that is asked for the same, over the same bytes, agrees with this one
abbrev pub Repeated : Asked → Snapshot → Snapshot → Ended → Type 0
Repeated job old new ended = PickedOwe job → (run : EndedRun) → SameJob job old run → Agrees old new ended run

abbrev pub OneOutcome : Type 0
OneOutcome = (job : Asked) (old new : Snapshot) (ended : Ended) → Ends job old new ended → Repeated job old new ended

-- the same words ask for the same command
abbrev pub OneCommand : Type 0
OneCommand = (words : List (List ℕ)) (a b : List PluginSeen) → SameShelf a b → (asked words a).command ≡ (asked words b).command
