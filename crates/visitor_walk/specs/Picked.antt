-- The hooks of a run, from the shelf and the places of the picked plugins.
use Rattle.std.specs.Prelude.{ℕ, suc, List, [], ◌∷◌, ◌++◌, slice_get}
use Rattle.plugin_api.specs.Shelf.{HookSeen, PluginSeen, hooks_of}
use Rattle.visitor_machine.specs.Hooks.{PickedHook}

-- the hooks of a plugin, the first of which has that place in it
abbrev pub hooks_from : ℕ → ℕ → List HookSeen → List PickedHook
hooks_from plugin hook [] = []
hooks_from plugin hook (h ∷ hs) = record { plugin = plugin; hook = hook; event = h.event; filter = h.filter } ∷ hooks_from plugin (suc hook) hs

-- in the order of the picked plugins, and inside one plugin in its list's order
abbrev pub picked_hooks : List PluginSeen → List ℕ → List PickedHook
picked_hooks ps [] = []
picked_hooks ps (i ∷ is) = hooks_from i 0 (hooks_of (slice_get ps i)) ++ picked_hooks ps is
