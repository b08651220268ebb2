-- Lists of nodes in document order, and the nodes of a forest that they give.
use Rattle.std.specs.Prelude.{ℕ, zero, suc, ◌+◌, ◌<◌, ◌&&◌, ◌==◌, List, [], ◌∷◌, Bool, true, nat_eq, map, drop, length, Option, Some, None, slice_index_or, if◌then◌else◌}
use Rattle.std.specs.List.{list_any}
use Rattle.css_tree.specs.declared.node.NodeText.TheVariants.{Comment}
use Rattle.node_rows.specs.declared.node_list.NodeAt.{NodeAt}
use Rattle.node_rows.specs.Nodes.{Node}

-- what is read past the end of a list
abbrev pub no_entry : NodeAt
no_entry = record { parent = 0; text = Comment None [] [] []; span = record { start = 0; end = 0 } }

abbrev pub entry_at : List NodeAt → ℕ → NodeAt
entry_at es n = slice_index_or es n no_entry

-- the path from p on up
abbrev pub path_from : ℕ → List ℕ → List ℕ
path_from p [] = []
path_from p (m ∷ ms) = if m == p then m ∷ ms else path_from p ms

-- Each parent is on the path from the node before up to the root. Here that path is given, with the number of the
-- node whose parent comes first.
abbrev pub are_ordered : List ℕ → ℕ → List ℕ → Bool
are_ordered path n [] = true
are_ordered path n (p ∷ ps) = list_any (nat_eq p) path && are_ordered (n ∷ path_from p path) (n + 1) ps

-- the parents of the nodes from number 1 on, in document order
abbrev pub is_document_order : List ℕ → Bool
is_document_order parents = are_ordered (0 ∷ []) 1 parents

-- the path from the last node up to the root, where the path from the first one is given
abbrev pub path_after : List ℕ → ℕ → List ℕ → List ℕ
path_after path n [] = path
path_after path n (p ∷ ps) = path_after (n ∷ path_from p path) (n + 1) ps

-- the path from the last node up to the root
abbrev pub last_path : List ℕ → List ℕ
last_path parents = path_after (0 ∷ []) 1 parents

-- the parents of the nodes from number 1 on
abbrev pub parents_in : List NodeAt → List ℕ
parents_in es = map (λ e. e.parent) (drop 1 es)

-- the numbers of the nodes whose parent is p, in rising order, where the first node has the number n
abbrev pub children_from : ℕ → ℕ → List NodeAt → List ℕ
children_from n p [] = []
children_from n p (e ∷ es) = if e.parent == p then n ∷ children_from (n + 1) p es else children_from (n + 1) p es

-- the numbers of the nodes whose parent is p
abbrev pub children_in : List NodeAt → ℕ → List ℕ
children_in es p = children_from 1 p (drop 1 es)

abbrev pub parent_in : ℕ → NodeAt → Option ℕ
parent_in zero e = None
parent_in (suc n) e = Some e.parent

-- the nodes of the entries, where the first has the number n
abbrev pub nodes_from : List NodeAt → ℕ → List NodeAt → List Node
nodes_from all n [] = []
nodes_from all n (e ∷ es) = record { text = e.text; span = Some e.span; parent = parent_in n e; children = children_in all n; dirty = true } ∷ nodes_from all (n + 1) es

abbrev pub nodes_of : List NodeAt → List Node
nodes_of es = nodes_from es 0 es

-- the parent of each node but the first is an earlier one
abbrev pub Earlier : List NodeAt → Type 0
Earlier es = (k : ℕ) → 0 < k → k < length es → (entry_at es k).parent < k
