-- A shelf of plugins as contracts see it.
use Rattle.std.specs.Prelude.{ℕ, List, map}
use Rattle.plugin_api.specs.declared.plugin.Plugin.{Plugin}
use Rattle.plugin_api.specs.declared.visitor.Visitor as visitor
use Rattle.plugin_api.specs.Shelf.{PluginSeen, shelf_seen}

-- By the ghost members of the visitors, which `⟦<dyn Visitor as Visitor>⟧` gives for each type behind a box: what they tell, say, owe and leave open.
abbrev pub seen_by : {X : Type 0} {F : X → Type 0} → ((x : X) → visitor.Ghosts (F x)) → List (Plugin X F) → List PluginSeen
seen_by g ps = shelf_seen (λ b. (g b.vtable).told b.value) (λ b. (g b.vtable).said b.value) (λ b. (g b.vtable).duty b.value) (λ b. (g b.vtable).left b.value) ps

-- the names of the plugins
abbrev pub shelf_names : {X : Type 0} {F : X → Type 0} → List (Plugin X F) → List (List ℕ)
shelf_names ps = map (λ p. p.name) ps
