-- Small forests: the root 0 with the children 1 and 3, and 2 below 1.
use Rattle.std.specs.Prelude.{◌≡◌, ℕ, List, [], ◌∷◌, Bool, true, false, map, Some, None}
use Rattle.css_tree.specs.declared.node.Block.{Block}
use Rattle.css_tree.specs.declared.node.NodeText.{NodeText}
use Rattle.css_tree.specs.declared.node.NodeText.TheVariants.{Root, Rule, Comment}
use Rattle.node_rows.specs.declared.node_list.NodeAt.{NodeAt}
use Rattle.node_rows.specs.Nodes.{Node, parent_of, children_of, depth_of, place_of, next_sibling_of, previous_sibling_of, linked, unlinked}
use Rattle.node_rows.specs.NumberTrees.{numbers_below}
use Rattle.node_rows.specs.Marks.{with_mark, mark, dirtied}
use Rattle.node_rows.specs.Beyond.{behind}
use Rattle.node_rows.specs.NodeList.{is_document_order, children_in, nodes_of}
use Rattle.node_rows.specs.Ends.{with_block, with_entry_end}
use Rattle.node_rows.specs.Entries.{entries_of}

abbrev pub rule_below : ℕ → NodeAt
rule_below p = record { parent = p; text = Rule None (record { source = []; clean = [] }) [] (record { semicolon = true; after = None }); span = record { start = 0; end = 0 } }

abbrev pub root : NodeAt
root = record { parent = 0; text = Root false (record { semicolon = false; after = None }); span = record { start = 0; end = 0 } }

abbrev pub entries : List NodeAt
entries = root ∷ rule_below 0 ∷ rule_below 1 ∷ rule_below 0 ∷ []

abbrev pub Order : Type 0
Order = is_document_order (0 ∷ 1 ∷ 0 ∷ []) ≡ true

-- the third node stands below 1, after 2 was opened beside it
abbrev pub WrongOrder : Type 0
WrongOrder = is_document_order (0 ∷ 0 ∷ 1 ∷ []) ≡ false

abbrev pub Children : Type 0
Children = (children_in entries 0 ≡ 1 ∷ 3 ∷ []) × (children_in entries 1 ≡ 2 ∷ []) × (children_in entries 3 ≡ [])

abbrev pub Numbers : Type 0
Numbers = (numbers_below (nodes_of entries) 0 ≡ 1 ∷ 2 ∷ 3 ∷ []) × (numbers_below (nodes_of entries) 1 ≡ 2 ∷ [])

abbrev pub Depths : Type 0
Depths = (depth_of (nodes_of entries) 0 ≡ 0) × (depth_of (nodes_of entries) 1 ≡ 0) × (depth_of (nodes_of entries) 2 ≡ 1)

abbrev pub NextSibling : Type 0
NextSibling = (next_sibling_of (nodes_of entries) 1 ≡ Some 3) × (next_sibling_of (nodes_of entries) 2 ≡ None) × (next_sibling_of (nodes_of entries) 0 ≡ None)

abbrev pub forest : List Node
forest = nodes_of entries

abbrev pub PreviousSibling : Type 0
PreviousSibling = (previous_sibling_of forest 3 ≡ Some 1) × (previous_sibling_of forest 1 ≡ None) × (previous_sibling_of forest 0 ≡ None)

abbrev pub Places : Type 0
Places = (place_of forest 0 1 ≡ 0) × (place_of forest 0 3 ≡ 1)

-- 1 is taken out with what stands below it
abbrev pub taken : List Node
taken = unlinked forest 0 0 1

abbrev pub Taken : Type 0
Taken = (children_of taken 0 ≡ 3 ∷ []) × (parent_of taken 1 ≡ None) × (children_of taken 1 ≡ 2 ∷ [])

abbrev pub PutIn : Type 0
PutIn = (children_of (linked taken 0 1 1) 0 ≡ 3 ∷ 1 ∷ []) × (children_of (linked taken 3 0 1) 3 ≡ 1 ∷ []) × (parent_of (linked taken 3 0 1) 1 ≡ Some 3)

abbrev pub marks_in : List Node → List Bool
marks_in ns = map (λ x. x.dirty) ns

abbrev pub clean_forest : List Node
clean_forest = with_mark (with_mark (with_mark (with_mark forest 0 false) 1 false) 2 false) 3 false

-- A dirty ancestor doesn't end the way up, and a dirty node is left.
abbrev pub Marked : Type 0
Marked = (marks_in (mark clean_forest 2) ≡ true ∷ true ∷ true ∷ false ∷ [])
    × (marks_in (mark (with_mark clean_forest 1 true) 2) ≡ true ∷ true ∷ true ∷ false ∷ [])
    × (marks_in (mark (with_mark clean_forest 2 true) 2) ≡ false ∷ false ∷ true ∷ false ∷ [])

abbrev pub Dirtied : Type 0
Dirtied = marks_in (dirtied clean_forest 1) ≡ false ∷ true ∷ true ∷ false ∷ []

abbrev pub Behind : Type 0
Behind = (behind forest 0 0 ≡ 1 ∷ 2 ∷ 3 ∷ []) × (behind forest 0 2 ≡ 3 ∷ []) × (behind forest 1 1 ≡ 2 ∷ []) × (behind forest 1 2 ≡ [])

abbrev pub closed : Block
closed = record { semicolon = false; after = Some [] }

abbrev pub closed_rule : NodeText
closed_rule = Rule None (record { source = []; clean = [] }) [] closed

abbrev pub note : NodeText
note = Comment None [] [] []

-- a rule has an end, and a comment has none
abbrev pub Blocks : Type 0
Blocks = (with_block (rule_below 0).text closed ≡ closed_rule) × (with_block note closed ≡ note)

-- the entry 1 of two once it ends before the byte 4
abbrev pub Ends : Type 0
Ends = with_entry_end (root ∷ rule_below 0 ∷ []) 1 4 ≡ root ∷ record (rule_below 0) { span = record { start = 0; end = 4 } } ∷ []

-- the nodes of a list give it back
abbrev pub Entries : Type 0
Entries = entries_of (nodes_of entries) ≡ entries
