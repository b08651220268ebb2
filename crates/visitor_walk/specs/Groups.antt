-- The walk's hooks by event, as the machine sees them.
use Rattle.std.specs.Prelude.{◌≡◌, ℕ, suc, ◌-◌, ◌<◌, ◌≤◌, ◌&&◌, not, List, [], ◌∷◌, ◌++◌, map, drop, length, Bool, true, false, Option, Some, None, slice_get}
use Rattle.std.specs.List.{All}
use Rattle.node_store.specs.declared.item.Event.{Event}
use Rattle.node_store.specs.declared.item.Event.TheVariants as E
use Rattle.node_store.specs.Cursors.{through}
use Rattle.plugin_api.specs.declared.hook.Hook.{Hook}
use Rattle.plugin_api.specs.declared.plugin.Plugin.{Plugin}
use Rattle.visitor_machine.specs.Hooks.{PickedHook, is_at, is_filtered, fits, hooks_at}
use Rattle.visitor_walk.specs.declared.hooks.RunHook.{RunHook}
use Rattle.visitor_walk.specs.declared.hooks.RunHooks.{RunHooks}

-- of that event, and with a filter or without
abbrev pub in_group : Event → Bool → PickedHook → Bool
in_group e false h = is_at e h && not (is_filtered h)
in_group e true h = is_at e h && is_filtered h

abbrev pub same_flag : Bool → Bool → Bool
same_flag true b = b
same_flag false b = not b

abbrev pub shown_hook : RunHook → PickedHook
shown_hook h = record { plugin = h.plugin; hook = h.hook; event = h.event; filter = h.filter }

abbrev pub shown_hooks : List RunHook → List PickedHook
shown_hooks hs = map shown_hook hs

abbrev pub group_of : RunHooks → Event → List RunHook
group_of hooks E.Once = hooks.once.items
group_of hooks E.Root = hooks.root.items
group_of hooks E.RootExit = hooks.root_exit.items
group_of hooks E.AtRule = hooks.at_rule.items
group_of hooks E.AtRuleExit = hooks.at_rule_exit.items
group_of hooks E.Rule = hooks.rule.items
group_of hooks E.RuleExit = hooks.rule_exit.items
group_of hooks E.Declaration = hooks.declaration.items
group_of hooks E.DeclarationExit = hooks.declaration_exit.items
group_of hooks E.Comment = hooks.comment.items
group_of hooks E.CommentExit = hooks.comment_exit.items
group_of hooks E.OnceExit = hooks.once_exit.items

-- each group holds the hooks of its event
abbrev pub IsGrouped : RunHooks → List PickedHook → Type 0
IsGrouped hooks hs = (e : Event) → shown_hooks (group_of hooks e) ≡ hooks_at e hs

-- the picked hooks, read from the shelf as it is
abbrev pub listed_from : {X : Type 0} {F : X → Type 0} → ℕ → ℕ → List (Hook X F) → List PickedHook
listed_from plugin hook [] = []
listed_from plugin hook (h ∷ hs) = record { plugin = plugin; hook = hook; event = h.event; filter = h.filter } ∷ listed_from plugin (suc hook) hs

abbrev pub hooks_in : {X : Type 0} {F : X → Type 0} → Option (Plugin X F) → List (Hook X F)
hooks_in None = []
hooks_in (Some p) = p.hooks.items

abbrev pub listed_hooks : {X : Type 0} {F : X → Type 0} → List (Plugin X F) → List ℕ → List PickedHook
listed_hooks ps [] = []
listed_hooks ps (i ∷ is) = listed_from i 0 (hooks_in (slice_get ps i)) ++ listed_hooks ps is

-- each plugin has fewer than 4,294,967,296 hooks
abbrev pub AreFew : {X : Type 0} {F : X → Type 0} → List (Plugin X F) → Type 0
AreFew ps = All (λ p. length p.hooks.items < 4294967296) ps

-- the hook at the place is the first, at or after `from`, that fits the key
pub record IsFitting (key : List ℕ) (hooks : List RunHook) (from at : ℕ) : Type 0 where
  pub hook : RunHook
  pub is : slice_get hooks at ≡ Some hook
  pub inside : at < length hooks
  pub after : from ≤ at
  pub first : through (fits key) (drop from (shown_hooks hooks)) ≡ Some (shown_hook hook, suc at - from)
