-- The plugins that are shipped, as a contract sees them on a shelf.
use Rattle.std.specs.Prelude.{ℕ, List, [], ◌∷◌, Option, None, codes}
use Rattle.std.specs.declared.alloc.Global.{Global}
use Rattle.std.specs.declared.dyn_box.DynBox.{DynBox}
use Rattle.node_store.specs.declared.item.Event.{Event}
use Rattle.node_store.specs.declared.item.Event.TheVariants as E
use Rattle.plugin_api.specs.declared.visitor.Told.{Told}
use Rattle.plugin_api.specs.declared.visitor.Duty.{Duty}
use Rattle.plugin_api.specs.Shelf.{HookSeen, PluginSeen}
use Rattle.transforms.specs.declared.shelf.Visitors.{Visitors}

-- X and F are the type behind a box: the vtables, and the values of each.
module _ {X : Type 0} {F : X → Type 0}
    (told : DynBox X Global F → Option (List Told)) (said : DynBox X Global F → List (List ℕ)) (duty : DynBox X Global F → Option Duty) (left : DynBox X Global F → ℕ) where
  -- a hook without a filter
  abbrev pub unfiltered : Event → DynBox X Global F → HookSeen
  unfiltered event b = record { event = event; filter = None; told = told b; said = said b; duty = duty b; left = left b }

  -- the plugins in their order, with these visitors
  abbrev pub shipped_plugins : Visitors X F → List PluginSeen
  shipped_plugins v =
      record { name = codes "drop-comment"; hooks = unfiltered E.Comment v.comment ∷ [] }
      ∷ record { name = codes "drop-empty"; hooks = unfiltered E.RuleExit v.empty_rule ∷ unfiltered E.AtRuleExit v.empty_at_rule ∷ [] }
      ∷ record { name = codes "short-hex"; hooks = unfiltered E.Declaration v.short_hex ∷ [] }
      ∷ record { name = codes "unnest"; hooks = unfiltered E.RuleExit v.unnest ∷ [] }
      ∷ []
