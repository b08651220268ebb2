-- A small walk whose visitor has a duty.
use Rattle.std.specs.Prelude.{◌≡◌, ℕ, List, [], ◌∷◌, ◌++◌, Option, Some, None, codes}
use Rattle.std.specs.List.{All}
use Rattle.css_tree.specs.declared.node.NodeText.TheVariants.{Comment}
use Rattle.node_rows.specs.Nodes.{Node}
use Rattle.node_store.specs.declared.item.Event.TheVariants as E
use Rattle.node_store.specs.declared.item.Edit.TheVariants.{Remove}
use Rattle.node_store.specs.declared.item.Item.{Item}
use Rattle.node_store.specs.declared.item.Item.TheVariants as I
use Rattle.plugin_api.specs.declared.visitor.Told.{Told}
use Rattle.plugin_api.specs.declared.visitor.Duty.TheVariants.{DropComment}
use Rattle.plugin_api.specs.Shelf.{PluginSeen}
use Rattle.visitor_machine.specs.Examples.{node, root, called}
use Rattle.visitor_walk.specs.declared.walk_end.WalkEnd.TheVariants.{Done}
use Rattle.visitor_walk.specs.Picked.{picked_hooks}
use Rattle.visitor_walk.specs.OneLog.{duty_at, SameDuties, HasDuty, EndedWalk}

-- one plugin, whose one hook drops comments
abbrev pub dropping : Option (List Told) → List (List ℕ) → List PluginSeen
dropping told said = record { name = codes "drop"; hooks = record { event = E.Comment; filter = None; told = told; said = said; duty = Some DropComment; left = 0 } ∷ [] } ∷ []

-- `/*a*/`
abbrev pub commented : List Node
commented = root (1 ∷ []) ∷ node (Comment (Some []) [] (codes "a") []) (Some 0) [] ∷ []

abbrev pub dropped : List Item
dropped =
    I.Pass ∷ I.Enter 0 ∷ I.Enter 1 ∷ called 0 E.Comment 1 (Remove 1 ∷ []) ++ I.Leave 1 ∷ I.Leave 0 ∷
    I.Pass ∷ I.Enter 0 ∷ I.Leave 0 ∷ I.End ∷ []

-- one call is within the budget of one, and takes the comment out
abbrev pub DropsOne : Type 0
DropsOne = EndedWalk (dropping None []) (picked_hooks (dropping None []) (0 ∷ [])) 1 1 commented dropped Done
    × All (HasDuty (dropping None [])) (picked_hooks (dropping None []) (0 ∷ []))

-- what a visitor tells and says of its calls is no duty
abbrev pub DutyAlone : Type 0
DutyAlone = SameDuties (dropping None []) (dropping (Some []) (codes "no" ∷ []))
    × (duty_at (dropping None []) 0 0 ≡ Some (Some DropComment))
    × (duty_at (dropping None []) 0 1 ≡ None)
    × (duty_at (dropping None []) 1 0 ≡ None)
