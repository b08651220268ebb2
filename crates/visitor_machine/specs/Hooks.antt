-- The hooks of a run, and which of them are called at a node.
use Rattle.std.specs.Prelude.{ℕ, List, [], ◌∷◌, ◌++◌, Bool, true, false, not, ◌&&◌, Option, Some, None, nat_eq, if◌then◌else◌, map, filter}
use Rattle.std.specs.Char.{to_ascii_lowercase}
use Rattle.css_tree.specs.declared.node.Kind.{Kind}
use Rattle.css_tree.specs.declared.node.Kind.TheVariants as K
use Rattle.css_tree.specs.declared.node.NodeText.{NodeText}
use Rattle.css_tree.specs.declared.node.NodeText.TheVariants.{Root, AtRule, Rule, Declaration, Comment}
use Rattle.css_tree.specs.Changes.{same_text}
use Rattle.node_store.specs.declared.item.Event.{Event}
use Rattle.node_store.specs.declared.item.Event.TheVariants as E

-- a picked hook: the place of its plugin on the shelf, its place in the plugin, its event and its filter
pub record PickedHook : Type 0 where
  pub plugin : ℕ
  pub hook : ℕ
  pub event : Event
  pub filter : Option (List ℕ)

abbrev pub event_number : Event → ℕ
event_number E.Once = 0
event_number E.Root = 1
event_number E.RootExit = 2
event_number E.AtRule = 3
event_number E.AtRuleExit = 4
event_number E.Rule = 5
event_number E.RuleExit = 6
event_number E.Declaration = 7
event_number E.DeclarationExit = 8
event_number E.Comment = 9
event_number E.CommentExit = 10
event_number E.OnceExit = 11

abbrev pub same_event : Event → Event → Bool
same_event e d = nat_eq (event_number e) (event_number d)

abbrev pub is_at : Event → PickedHook → Bool
is_at e h = same_event e h.event

-- the event at which a node of that kind is entered
abbrev pub enter_event : Kind → Event
enter_event K.Root = E.Root
enter_event K.AtRule = E.AtRule
enter_event K.Rule = E.Rule
enter_event K.Declaration = E.Declaration
enter_event K.Comment = E.Comment

-- the event at which a node of that kind is left
abbrev pub exit_event : Kind → Event
exit_event K.Root = E.RootExit
exit_event K.AtRule = E.AtRuleExit
exit_event K.Rule = E.RuleExit
exit_event K.Declaration = E.DeclarationExit
exit_event K.Comment = E.CommentExit

-- filters count at the events of at-rules and declarations alone
abbrev pub takes_filter : Event → Bool
takes_filter E.AtRule = true
takes_filter E.AtRuleExit = true
takes_filter E.Declaration = true
takes_filter E.DeclarationExit = true
takes_filter _ = false

-- `*` counts as no filter
abbrev pub is_filter : Option (List ℕ) → Bool
is_filter None = false
is_filter (Some text) = not (same_text text (42 ∷ []))

abbrev pub is_filtered : PickedHook → Bool
is_filtered h = takes_filter h.event && is_filter h.filter

-- what filters are compared with: an at-rule's name, a declaration's property
abbrev pub key_of : NodeText → List ℕ
key_of (AtRule before name after_name params between block) = name
key_of (Declaration before prop between value important important_raw tail) = prop
key_of _ = []

abbrev pub lower : List ℕ → List ℕ
lower text = map to_ascii_lowercase text

abbrev pub matches : List ℕ → Option (List ℕ) → Bool
matches key None = true
matches key (Some text) = same_text (lower text) (lower key)

-- the hook has no filter, or its filter is the key in any ASCII case
abbrev pub fits : List ℕ → PickedHook → Bool
fits key h = if is_filtered h then matches key h.filter else true

-- the hooks of an event, those without a filter first
abbrev pub hooks_at : Event → List PickedHook → List PickedHook
hooks_at e hs = filter (λ h. is_at e h && not (is_filtered h)) hs ++ filter (λ h. is_at e h && is_filtered h) hs

abbrev pub enters : List PickedHook → Kind → List PickedHook
enters hs kind = hooks_at (enter_event kind) hs

abbrev pub exits : List PickedHook → Kind → List PickedHook
exits hs kind = hooks_at (exit_event kind) hs

-- the hooks that are called when a node of that kind and key is entered
abbrev pub before : List PickedHook → Kind → List ℕ → List PickedHook
before hs kind key = filter (fits key) (enters hs kind)

-- the hooks that are called when it is left
abbrev pub after : List PickedHook → Kind → List ℕ → List PickedHook
after hs kind key = filter (fits key) (exits hs kind)
