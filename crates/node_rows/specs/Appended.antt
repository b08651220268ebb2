-- One node more, as the last child of its parent.
use Rattle.std.specs.Prelude.{ℕ, zero, suc, ◌<◌, List, [], ◌∷◌, ◌++◌, Some, length}
use Rattle.node_rows.specs.declared.node_list.NodeAt.{NodeAt}
use Rattle.node_rows.specs.Nodes.{Node, new_node, children_of, linked}

abbrev pub added : List Node → NodeAt → List Node
added ns e = ns ++ new_node e.text (Some e.span) ∷ []

-- the nodes with one more; the first node is the root
abbrev pub appended_to : ℕ → List Node → NodeAt → List Node
appended_to zero ns e = added ns e
appended_to (suc n) ns e = linked (added ns e) e.parent (length (children_of (added ns e) e.parent)) (suc n)

abbrev pub appended : List Node → NodeAt → List Node
appended ns e = appended_to (length ns) ns e

-- there is room, and the parent is an earlier node unless the node comes first
pub record IsAppendable (ns : List Node) (e : NodeAt) : Type 0 where
  pub few : length ns < 67108865
  pub earlier : 0 < length ns → e.parent < length ns
