-- The forest of a list of nodes in document order.
use Rattle.std.specs.Prelude.{◌≡◌, ◌≢◌, ℕ, ◌<◌, ◌≤◌, List, [], true, length, IsSome, None}
use Rattle.css_tree.specs.declared.node.Kind.TheVariants as K
use Rattle.css_tree.specs.Parts.{kind_of, block_of}
use Rattle.node_rows.specs.declared.node_list.NodeAt.{NodeAt}
use Rattle.node_rows.specs.NodeList.{entry_at, is_document_order, parents_in, nodes_of}
use Rattle.node_store.specs.Forest.{Forest, IsSpanOf}

-- what a list has to meet so that it is a tree of the text
pub record IsNodeList (text : List ℕ) (es : List NodeAt) : Type 0 where
  pub some : 0 < length es
  pub few : length es ≤ 33554433
  pub order : is_document_order (parents_in es) ≡ true
  pub root : kind_of (entry_at es 0).text ≡ K.Root
  pub others : (n : ℕ) → 0 < n → n < length es → kind_of (entry_at es n).text ≢ K.Root
  pub containers : (n : ℕ) → 0 < n → n < length es → IsSome (block_of (entry_at es (entry_at es n).parent).text)
  pub spans : (n : ℕ) → n < length es → IsSpanOf text (entry_at es n).span

-- The forest of a list: its texts, spans and parents as given, its children in rising order, each node dirty, no cursor,
-- and an empty log.
abbrev pub forest_of : List ℕ → List NodeAt → Forest
forest_of text es = record { text = text; nodes = nodes_of es; cursors = []; log = []; spare = 0; room = None }
