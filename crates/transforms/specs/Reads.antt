-- What the transforms read of a node.
use Rattle.std.specs.Prelude.{ℕ, Bool, false, ◌==◌, List, [], ◌∷◌, Option, Some, None, if◌then◌else◌}
use Rattle.css_tree.specs.declared.node.Source.{Source}
use Rattle.css_tree.specs.declared.node.NodeText.{NodeText}
use Rattle.css_tree.specs.declared.node.NodeText.TheVariants.{Rule, Declaration}
use Rattle.node_store.specs.declared.item.Event.{Event}
use Rattle.node_store.specs.declared.item.Event.TheVariants as E
use Rattle.node_store.specs.declared.item.Edit.{Edit}
use Rattle.node_store.specs.declared.item.Edit.TheVariants.{Remove}
use Rattle.plugin_api.specs.Effect.{is_single_selector}

-- the text begins with the character
abbrev pub begins_with : ℕ → List ℕ → Bool
begins_with c [] = false
begins_with c (d ∷ ds) = d == c

-- a removal, where it is wanted
abbrev pub removal_if : Bool → ℕ → List Edit
removal_if wanted n = if wanted then Remove n ∷ [] else []

-- the value of a declaration that is entered
abbrev pub value_at : Event → NodeText → Option Source
value_at E.Declaration (Declaration before prop between value important important_raw tail) = Some value
value_at _ _ = None

-- the clean selector of a rule; empty for another kind
abbrev pub selector_of : NodeText → List ℕ
selector_of (Rule before selector between block) = selector.clean
selector_of _ = []

-- a rule that is left, whose selector can stand before those of its children
abbrev pub unnests : Event → NodeText → Bool
unnests E.RuleExit (Rule before selector between block) = is_single_selector selector.clean
unnests _ _ = false
