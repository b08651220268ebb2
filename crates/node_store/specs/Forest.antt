-- A forest: the source text, the nodes by number, the open cursors, and the log; and what reading it answers.
use Rattle.std.specs.Prelude.{◌≡◌, ◌≢◌, ℕ, ◌<◌, ◌≤◌, List, Bool, false, nat_lt, length, Option, Some, None, IsSome, is_some, Result, Ok, Err, if◌then◌else◌, encode_utf8_all, slice_index_or}
use Rattle.std.specs.Str.{IsCharBoundary}
use Rattle.css_text.specs.declared.lexer.Span.{Span}
use Rattle.css_tree.specs.declared.node.Kind.TheVariants as K
use Rattle.css_tree.specs.declared.node.NodeText.{NodeText}
use Rattle.css_tree.specs.declared.node.NodeText.TheVariants.{Root}
use Rattle.css_tree.specs.Parts.{kind_of, block_of}
use Rattle.css_tree.specs.Tree.{Tree}
use Rattle.node_store.specs.declared.fault.TreeFault.{TreeFault}
use Rattle.node_store.specs.declared.fault.TreeFault.TheVariants.{NoSuchNode, WrongKind}
use Rattle.node_store.specs.declared.item.Item.{Item}
use Rattle.node_rows.specs.Nodes.{Node, node_at, text_of, span_of, parent_of, children_of}
use Rattle.node_rows.specs.Sound.{IsSound}
use Rattle.node_rows.specs.NumberTrees.{tree_at}

-- an open cursor: its container, and how many of the children are passed
pub record Place : Type 0 where
  pub container : ℕ
  pub passed : ℕ

-- The characters of the source, the nodes by number, the open cursors by serial, and the log. Beside these: how many
-- items the log can take without memory, and the container for which a place is kept.
pub record Forest : Type 0 where
  pub text : List ℕ
  pub nodes : List Node
  pub cursors : List (Option Place)
  pub log : List Item
  pub spare : ℕ
  pub room : Option ℕ

-- the open cursor of a serial
abbrev pub cursor_at : List (Option Place) → ℕ → Option Place
cursor_at cs serial = slice_index_or cs serial None

-- the forest with nothing reserved
abbrev pub unreserved : Forest → Forest
unreserved f = record f { spare = 0; room = None }

-- the plain tree of the root
abbrev pub tree_of : Forest → Tree
tree_of f = tree_at f.nodes 0

-- the number was given out
abbrev pub is_given : Forest → ℕ → Bool
is_given f n = nat_lt n (length f.nodes)

-- what a call answers that reads node n
abbrev pub read : {A : Type 0} → Forest → ℕ → (Node → A) → Result A TreeFault
read f n get = if is_given f n then Ok (get (node_at f.nodes n)) else Err NoSuchNode

abbrev pub or_wrong_kind : {A : Type 0} → Option A → Result A TreeFault
or_wrong_kind None = Err WrongKind
or_wrong_kind (Some x) = Ok x

-- what a call answers that reads what the kind of node n may not have
abbrev pub read_some : {A : Type 0} → Forest → ℕ → (NodeText → Option A) → Result A TreeFault
read_some f n get = if is_given f n then or_wrong_kind (get (node_at f.nodes n).text) else Err NoSuchNode

-- whether a byte order mark stood at the start of the source
abbrev pub bom_of : NodeText → Bool
bom_of (Root bom block) = bom
bom_of _ = false

abbrev pub has_block : NodeText → Bool
has_block text = is_some (block_of text)

-- from one character boundary of the text to the same or a later one
pub record IsSpanOf (text : List ℕ) (span : Span) : Type 0 where
  pub order : span.start ≤ span.end
  pub start : IsCharBoundary (encode_utf8_all text) span.start
  pub end : IsCharBoundary (encode_utf8_all text) span.end

-- the cursor, if it is one, stands in a container and has passed no more than its children
abbrev pub IsWithin : List Node → Option Place → Type 0
IsWithin ns None = Unit {0}
IsWithin ns (Some c) = (c.container < length ns) × IsSome (block_of (text_of ns c.container)) × (c.passed ≤ length (children_of ns c.container))

-- What is true of every forest: node 0 is the root and no other node is one, parents are containers, spans are spans of
-- the text, and cursors stand in containers.
pub record IsForest (f : Forest) : Type 0 where
  pub sound : IsSound f.nodes
  pub some : 0 < length f.nodes
  pub root : kind_of (text_of f.nodes 0) ≡ K.Root
  pub others : (n : ℕ) → 0 < n → n < length f.nodes → kind_of (text_of f.nodes n) ≢ K.Root
  pub containers : (n p : ℕ) → parent_of f.nodes n ≡ Some p → IsSome (block_of (text_of f.nodes p))
  pub spans : (n : ℕ) (span : Span) → span_of f.nodes n ≡ Some span → IsSpanOf f.text span
  pub cursors : (serial : ℕ) → IsWithin f.nodes (cursor_at f.cursors serial)
