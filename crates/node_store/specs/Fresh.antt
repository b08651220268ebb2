-- The forest of a reading's nodes in document order.
use Rattle.std.specs.Prelude.{◌≡◌, ℕ, List, [], map, Some, None}
use Rattle.css_tree.specs.Tree.{Tree}
use Rattle.css_tree.specs.Reads.{Reads}
use Rattle.css_tree.specs.Numbered.{Numbered, numbered}
use Rattle.node_rows.specs.declared.node_list.NodeAt.{NodeAt}
use Rattle.node_rows.specs.NodeList.{nodes_of}
use Rattle.node_store.specs.Forest.{Forest, IsForest, tree_of, cursor_at, unreserved}
use Rattle.node_store.specs.Cursors.{IsOpened, IsClosed}

-- an entry of a list as a node of a tree with its parent's number
abbrev pub numbered_of : NodeAt → Numbered
numbered_of e = record { parent = e.parent; text = e.text; span = Some e.span }

-- The nodes are those of the tree that the text reads as, numbered in document order from the root, 0, each node dirty. No
-- cursor is open, and the log is empty. What is reserved doesn't count.
pub record IsFresh (f : Forest) : Type 0 where
  pub tree : Tree
  pub reads : Reads f.text tree
  pub entries : List NodeAt
  pub are_numbered : map numbered_of entries ≡ numbered tree
  pub are_nodes : f.nodes ≡ nodes_of entries
  pub no_cursor : (serial : ℕ) → cursor_at f.cursors serial ≡ None
  pub no_log : f.log ≡ []

-- the tree of a fresh forest is the one that its text reads as
abbrev pub FreshTree : Type 0
FreshTree = (f : Forest) → IsForest f → (h : IsFresh f) → tree_of f ≡ h.tree

-- a fresh forest stays fresh when something is reserved
abbrev pub ReservedIsFresh : Type 0
ReservedIsFresh = (before after : Forest) → unreserved after ≡ unreserved before → IsFresh before → IsFresh after

-- so it does when a cursor is opened and closed
abbrev pub ClosedIsFresh : Type 0
ClosedIsFresh = (before opened closed : Forest) (n serial : ℕ) → IsOpened before opened n serial → IsClosed opened closed serial → IsFresh before → IsFresh closed
