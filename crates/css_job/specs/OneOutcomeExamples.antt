-- Shelves that count as the same, and visitors that have a duty.
use Rattle.std.specs.Prelude.{List, [], ◌∷◌, Some, None, codes}
use Rattle.node_store.specs.declared.item.Event.TheVariants as E
use Rattle.plugin_api.specs.Shelf.{PluginSeen}
use Rattle.visitor_walk.specs.OneLogExamples.{dropping}
use Rattle.css_job.specs.OneOutcome.{SameShelf, AllOwe}

-- one plugin, whose one hook may do anything
abbrev pub free : List PluginSeen
free = record { name = codes "drop"; hooks = record { event = E.Comment; filter = None; told = None; said = []; duty = None; left = 0 } ∷ [] } ∷ []

-- what visitors told and said doesn't count
abbrev pub ToldAlone : Type 0
ToldAlone = SameShelf (dropping None []) (dropping (Some []) (codes "no" ∷ []))

-- duties count
abbrev pub DutyCounts : Type 0
DutyCounts = ¬ SameShelf (dropping None []) free

-- a visitor that drops comments has a duty
abbrev pub DropOwes : Type 0
DropOwes = AllOwe (dropping None []) (0 ∷ [])

-- one that may do anything has none, which doesn't matter where it isn't picked
abbrev pub FreeOwesNone : Type 0
FreeOwesNone = (¬ AllOwe free (0 ∷ [])) × AllOwe free []
