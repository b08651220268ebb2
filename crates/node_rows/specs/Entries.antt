-- Nodes as the list that they were made of.
use Rattle.std.specs.Prelude.{◌≡◌, ℕ, ◌<◌, List, map, length, Option, Some, None}
use Rattle.css_text.specs.declared.lexer.Span.{Span}
use Rattle.node_rows.specs.declared.node_list.NodeAt.{NodeAt}
use Rattle.node_rows.specs.Nodes.{Node}
use Rattle.node_rows.specs.NodeList.{nodes_of, Earlier}

-- the parent's number, 0 for the root
abbrev pub parent_or_root : Option ℕ → ℕ
parent_or_root None = 0
parent_or_root (Some p) = p

abbrev pub span_or_empty : Option Span → Span
span_or_empty None = record { start = 0; end = 0 }
span_or_empty (Some s) = s

-- a node as an entry of a list
abbrev pub entry_of : Node → NodeAt
entry_of x = record { parent = parent_or_root x.parent; text = x.text; span = span_or_empty x.span }

abbrev pub entries_of : List Node → List NodeAt
entries_of ns = map entry_of ns

-- the nodes are those of a list that has a root, in which each parent stands before its children
pub record IsBuilt (ns : List Node) : Type 0 where
  pub some : 0 < length ns
  pub built : ns ≡ nodes_of (entries_of ns)
  pub earlier : Earlier (entries_of ns)
