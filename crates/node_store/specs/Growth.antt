-- How a plan of new nodes and insertions grows a forest, and what of the plan is still owed.
use Rattle.std.specs.Prelude.{◌≡◌, ◌≢◌, ℕ, ◌+◌, ◌<◌, ◌≤◌, List, [], ◌∷◌, ◌++◌, true, length, Option, Some, None, IsSome}
use Rattle.css_tree.specs.declared.node.Kind.TheVariants as K
use Rattle.css_tree.specs.Parts.{kind_of, block_of}
use Rattle.node_rows.specs.Nodes.{Node, new_node, text_of, parent_of, children_of, is_dirty, place_of, linked, siblings}
use Rattle.node_rows.specs.NumberTrees.{NumberTrees, number_trees, numbers}
use Rattle.node_store.specs.declared.item.Edit.{Edit}
use Rattle.node_store.specs.declared.item.Edit.TheVariants.{New, Insert}
use Rattle.node_store.specs.declared.frame.Frame.{Frame}
use Rattle.node_store.specs.Copies.{copied_trees}

-- the nodes after a new node, or an insertion that marks nothing
abbrev pub grow : List Node → Edit → List Node
grow ns (New n text span) = ns ++ new_node text span ∷ []
grow ns (Insert n p at) = linked ns p at n
grow ns _ = ns

abbrev pub grow_all : List Node → List Edit → List Node
grow_all ns [] = ns
grow_all ns (e ∷ es) = grow_all (grow ns e) es

-- the nodes that edits make
abbrev pub news : List Edit → List Node
news [] = []
news (New n text span ∷ es) = new_node text span ∷ news es
news (_ ∷ es) = news es

-- A node without children can be put into p, and both are dirty.
pub record Grafts (ns : List Node) (n p at : ℕ) : Type 0 where
  pub node_in : n < length ns
  pub parent_in : p < length ns
  pub not_first : n ≢ 0
  pub differ : n ≢ p
  pub loose : parent_of ns n ≡ None
  pub childless : children_of ns n ≡ []
  pub block : IsSome (block_of (text_of ns p))
  pub place : at ≤ length (children_of ns p)
  pub parent_dirty : is_dirty ns p ≡ true
  pub node_dirty : is_dirty ns n ≡ true

-- each edit of the plan makes the next node, or puts a dirty node without children into a dirty one
abbrev pub IsPlan : List Node → List Edit → Type 0
IsPlan ns [] = Unit {0}
IsPlan ns (New n text span ∷ es) = (n ≡ length ns) × (length ns < 5000000) × (kind_of text ≢ K.Root) × IsPlan (ns ++ new_node text span ∷ []) es
IsPlan ns (Insert n p at ∷ es) = Grafts ns n p at × IsPlan (linked ns p at n) es
IsPlan ns (_ ∷ es) = ⊥

-- the trees of a node and the siblings behind it
abbrev pub frame_trees : List Node → Frame → NumberTrees
frame_trees ns f = number_trees ns (f.node ∷ siblings ns f.node)

-- how many nodes are owed by the frames
abbrev pub owed_size : List Node → List Frame → ℕ
owed_size ns [] = 0
owed_size ns (f ∷ fs) = owed_size ns fs + length (numbers (frame_trees ns f))

-- The edits that are owed by the frames, of which the last comes first, where `next` is the next number.
abbrev pub owed : List Node → List Frame → ℕ → List Edit
owed ns [] next = []
owed ns (f ∷ fs) next = owed ns fs next ++ copied_trees ns (frame_trees ns f) f.parent f.at (next + owed_size ns fs)

-- the frame of a node, where it is one
abbrev pub frame_list : Option ℕ → ℕ → ℕ → List Frame
frame_list None p at = []
frame_list (Some n) p at = record { node = n; parent = p; at = at } ∷ []

-- the frame's node is a child, whose place is that of its copy
abbrev pub IsFrame : List Node → Frame → Type 0
IsFrame ns f = (q : ℕ) × (parent_of ns f.node ≡ Some q) × (f.at ≡ place_of ns q f.node)

-- what an insertion of the plan needs
abbrev pub IsGraft : List Node → Edit → Type 0
IsGraft ns (Insert n p at) = Grafts ns n p at
IsGraft ns _ = Unit {0}

-- the nodes after an insertion of the plan, where the new nodes are there
abbrev pub grafted : List Node → Edit → List Node
grafted ns (Insert n p at) = linked ns p at n
grafted ns _ = ns
