-- A shelf of plugins as a contract sees it: names, events and filters, and what the visitors tell, say, owe and leave open.
use Rattle.std.specs.Prelude.{◌≡◌, ℕ, List, [], Option, Some, None, map, sum_by, slice_get, slice_set}
use Rattle.std.specs.declared.alloc.Global.{Global}
use Rattle.std.specs.declared.dyn_box.DynBox.{DynBox}
use Rattle.node_store.specs.declared.item.Event.{Event}
use Rattle.node_store.specs.declared.item.Moment.{Moment}
use Rattle.node_store.specs.Forest.{Forest}
use Rattle.plugin_api.specs.declared.visitor.Told.{Told}
use Rattle.plugin_api.specs.declared.visitor.Duty.{Duty}
use Rattle.plugin_api.specs.declared.hook.Hook.{Hook}
use Rattle.plugin_api.specs.declared.plugin.Plugin.{Plugin}
use Rattle.plugin_api.specs.Visit.{Answer, Visited}

pub record HookSeen : Type 0 where
  pub event : Event
  pub filter : Option (List ℕ)
  pub told : Option (List Told)
  pub said : List (List ℕ)
  pub duty : Option Duty
  pub left : ℕ

pub record PluginSeen : Type 0 where
  pub name : List ℕ
  pub hooks : List HookSeen

-- X and F are the type behind a box: the vtables, and the values of each.
module _ {X : Type 0} {F : X → Type 0}
    (told : DynBox X Global F → Option (List Told)) (said : DynBox X Global F → List (List ℕ)) (duty : DynBox X Global F → Option Duty) (left : DynBox X Global F → ℕ) where
  abbrev pub hook_seen : Hook X F → HookSeen
  hook_seen h = record { event = h.event; filter = h.filter; told = told h.visitor; said = said h.visitor; duty = duty h.visitor; left = left h.visitor }

  abbrev pub hooks_seen : List (Hook X F) → List HookSeen
  hooks_seen hs = map hook_seen hs

  abbrev pub plugin_seen : Plugin X F → PluginSeen
  plugin_seen p = record { name = p.name; hooks = hooks_seen p.hooks.items }

  abbrev pub shelf_seen : List (Plugin X F) → List PluginSeen
  shelf_seen ps = map plugin_seen ps

abbrev pub hooks_of : Option PluginSeen → List HookSeen
hooks_of None = []
hooks_of (Some p) = p.hooks

-- how many cursors the calls of all its visitors have left open
abbrev pub left_total : List PluginSeen → ℕ
left_total ps = sum_by (λ p. sum_by (λ h. h.left) p.hooks) ps

-- the hook at a place of the plugin at a place of the shelf
abbrev pub hook_at : List PluginSeen → ℕ → ℕ → Option HookSeen
hook_at ps i j = slice_get (hooks_of (slice_get ps i)) j

-- one call of the visitor of a hook
pub record VisitedHook (old new : HookSeen) (before after : Forest) (m : Moment) (r : Answer) : Type 0 where
  pub event : new.event ≡ old.event
  pub filter : new.filter ≡ old.filter
  pub visited : Visited old.told new.told old.said new.said old.duty new.duty old.left new.left before after m r

-- the same of one of a plugin's hooks; all others stay
pub record VisitedIn (old new : List HookSeen) (j : ℕ) (before after : Forest) (m : Moment) (r : Answer) : Type 0 where
  pub was : HookSeen
  pub is : HookSeen
  pub at : slice_get old j ≡ Some was
  pub set : new ≡ slice_set old j is
  pub visited : VisitedHook was is before after m r

-- the same of one of the shelf's hooks; names and all other hooks stay
pub record VisitedAt (old new : List PluginSeen) (i j : ℕ) (before after : Forest) (m : Moment) (r : Answer) : Type 0 where
  pub was : PluginSeen
  pub hooks : List HookSeen
  pub at : slice_get old i ≡ Some was
  pub set : new ≡ slice_set old i (record { name = was.name; hooks = hooks })
  pub visited : VisitedIn was.hooks hooks j before after m r
