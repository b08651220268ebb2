-- One call of a hook, with its log.
use Rattle.std.specs.Prelude.{◌≡◌, ℕ, ◌⊎◌, List, Option, Some, None, Result, Ok, Err}
use Rattle.std.specs.declared.alloc.AllocError.{AllocError}
use Rattle.node_store.specs.declared.item.Item.TheVariants as I
use Rattle.node_store.specs.Forest.{Forest, unreserved}
use Rattle.node_store.specs.Edits.{noted}
use Rattle.plugin_api.specs.declared.visitor.VisitFault.TheVariants.{Plugin, Memory}
use Rattle.plugin_api.specs.Visit.{Answer}
use Rattle.plugin_api.specs.Shelf.{PluginSeen, VisitedAt}
use Rattle.visitor_walk.specs.declared.turn.Due.{Due}

-- the call is logged, and the visitor called
pub record Visits (f k : Forest) (old new : List PluginSeen) (due : Due) (answer : Answer) : Type 0 where
  pub at : Forest
  pub logged : unreserved at ≡ noted (unreserved f) (I.Call due.plugin due.hook due.moment)
  pub visited : VisitedAt old new due.plugin due.hook at k due.moment answer

-- the visitor's answer, and the text with which the call comes back
abbrev pub IsBack : Answer → Option (List ℕ) → Type 0
IsBack (Ok _) fault = fault ≡ None
IsBack (Err (Plugin text)) fault = fault ≡ Some text
IsBack (Err (Memory _)) fault = ⊥

-- the call came back
pub record CameBack (f g : Forest) (old new : List PluginSeen) (due : Due) (fault : Option (List ℕ)) : Type 0 where
  pub answer : Answer
  pub end : Forest
  pub visits : Visits f end old new due answer
  pub back : IsBack answer fault
  pub logged : unreserved g ≡ noted (unreserved end) (I.Back fault)

-- the call was made, but its end wasn't logged
pub record IsOpen (f g : Forest) (old new : List PluginSeen) (due : Due) : Type 0 where
  pub answer : Answer
  pub end : Forest
  pub visits : Visits f end old new due answer
  pub same : unreserved g ≡ unreserved end

-- After want of memory the call wasn't logged, or its end wasn't.
abbrev pub Called : Forest → Forest → List PluginSeen → List PluginSeen → Due → Result (Option (List ℕ)) AllocError → Type 0
Called f g old new due (Ok fault) = CameBack f g old new due fault
Called f g old new due (Err _) = ((unreserved g ≡ unreserved f) × (new ≡ old)) ⊎ IsOpen f g old new due
