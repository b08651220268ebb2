-- A small forest, its edits and its cursors: the root 0 with the rules 1 and 3, and the rule 2 below 1, all clean.
use Rattle.std.specs.Prelude.{◌≡◌, ℕ, List, [], ◌∷◌, Bool, true, false, map, Option, Some, None, Ok, Err, codes}
use Rattle.css_tree.specs.declared.node.Block.{Block}
use Rattle.css_tree.specs.declared.node.Field.TheVariants as F
use Rattle.css_tree.specs.declared.node.Raw.TheVariants as R
use Rattle.css_tree.specs.declared.node.NodeText.{NodeText}
use Rattle.css_tree.specs.declared.node.NodeText.TheVariants.{Root, Rule, Comment}
use Rattle.node_rows.specs.Nodes.{Node}
use Rattle.node_rows.specs.Marks.{with_mark}
use Rattle.node_store.specs.declared.fault.TreeFault.TheVariants.{NoSuchNode, WrongKind, NoSuchCursor}
use Rattle.node_store.specs.declared.item.Edit.TheVariants.{Set, SetRaw, New, Insert, Remove}
use Rattle.node_store.specs.declared.item.Item.TheVariants as I
use Rattle.node_store.specs.Forest.{Forest, Place, read, read_some, cursor_at}
use Rattle.css_tree.specs.Parts.{field_of}
use Rattle.node_store.specs.Edits.{can, apply, moved, edited, edited_where, noted, touches}
use Rattle.node_store.specs.Cursors.{next_of, after_next, next_dirty_of, after_next_dirty}

abbrev pub block : Block
block = record { semicolon = false; after = Some [] }

abbrev pub rule : List ℕ → NodeText
rule selector = Rule (Some []) (record { source = selector; clean = selector }) [] block

abbrev pub node : NodeText → Option ℕ → List ℕ → Node
node text parent children = record { text = text; span = None; parent = parent; children = children; dirty = false }

-- `a{b{}}c{}`
abbrev pub nodes : List Node
nodes = node (Root false block) None (1 ∷ 3 ∷ []) ∷ node (rule (codes "a")) (Some 0) (2 ∷ []) ∷ node (rule (codes "b")) (Some 1) [] ∷ node (rule (codes "c")) (Some 0) [] ∷ []

-- one cursor is open, which has passed the first child of the root
abbrev pub passing : Option Place
passing = Some (record { container = 0; passed = 1 })

abbrev pub forest : Forest
forest = record { text = []; nodes = nodes; cursors = passing ∷ []; log = []; spare = 0; room = None }

-- 1 is taken out, with 2 below it
abbrev pub taken : List Node
taken = apply nodes (Remove 1)

-- A node that is loose may be put in, but not below itself, nor beyond the last child. The root and a loose node can't be
-- taken out. A new node takes the next number.
abbrev pub Allowed : Type 0
Allowed = (can nodes (Insert 1 3 0) ≡ false)
    × (can taken (Insert 1 3 0) ≡ true)
    × (can taken (Insert 1 3 1) ≡ false)
    × (can taken (Insert 1 2 0) ≡ false)
    × (can nodes (Remove 0) ≡ false)
    × (can taken (Remove 1) ≡ false)
    × (can nodes (New 4 (Comment None [] [] []) None) ≡ true)
    × (can nodes (New 3 (Comment None [] [] []) None) ≡ false)

-- A selector that is there already makes no edit, and a rule has no property.
abbrev pub Changing : Type 0
Changing = (can nodes (Set F.Selector 1 (codes "x")) ≡ true)
    × (can nodes (Set F.Selector 1 (codes "a")) ≡ false)
    × (can nodes (Set F.Prop 1 (codes "x")) ≡ false)
    × (edited_where forest (Set F.Selector 1 (codes "a")) ≡ forest)
    × ((edited_where forest (Set F.Selector 1 (codes "x"))).log ≡ I.Edit (Set F.Selector 1 (codes "x")) ∷ [])

-- how many children of the root are passed after an edit, where one was passed before it; those of another node stay
abbrev pub Moved : Type 0
Moved = (moved nodes (Remove 1) 0 1 ≡ 0)
    × (moved nodes (Remove 3) 0 1 ≡ 1)
    × (moved taken (Insert 1 0 0) 0 1 ≡ 2)
    × (moved taken (Insert 1 0 1) 0 1 ≡ 1)
    × (moved nodes (Remove 2) 0 1 ≡ 1)

-- The cursor goes on behind the child that it passed. Under no other serial is one open.
abbrev pub Next : Type 0
Next = (next_of forest 0 ≡ Ok (Some 3))
    × (next_of (after_next forest 0) 0 ≡ Ok None)
    × (next_of (edited forest (Remove 1)) 0 ≡ Ok (Some 3))
    × (next_of (edited forest (Remove 3)) 0 ≡ Ok None)
    × (next_of forest 1 ≡ Err NoSuchCursor)

-- nothing is passed where no child ahead is dirty
abbrev pub NextDirty : Type 0
NextDirty = (next_dirty_of forest 0 ≡ Ok None)
    × (cursor_at (after_next_dirty forest 0).cursors 0 ≡ passing)
    × (next_dirty_of (record forest { nodes = with_mark nodes 3 true }) 0 ≡ Ok (Some 3))
    × (next_dirty_of (record forest { nodes = with_mark nodes 1 true }) 0 ≡ Ok None)

-- what a call answers that reads a node
abbrev pub Reads : Type 0
Reads = (read forest 2 (λ x. x.parent) ≡ Ok (Some 1))
    × (read forest 4 (λ x. x.parent) ≡ Err NoSuchNode)
    × (read_some forest 1 (field_of F.Selector) ≡ Ok (codes "a"))
    × (read_some forest 1 (field_of F.Prop) ≡ Err WrongKind)

-- An edit of children touches their parent, and what is put in as well; a raw touches nothing.
abbrev pub Touched : Type 0
Touched = (map (touches nodes (Set F.Selector 1 (codes "x"))) (0 ∷ 1 ∷ 2 ∷ 3 ∷ []) ≡ false ∷ true ∷ false ∷ false ∷ [])
    × (map (touches nodes (SetRaw R.Between 1 (codes " "))) (0 ∷ 1 ∷ 2 ∷ 3 ∷ []) ≡ false ∷ false ∷ false ∷ false ∷ [])
    × (map (touches nodes (Remove 1)) (0 ∷ 1 ∷ 2 ∷ 3 ∷ []) ≡ true ∷ false ∷ false ∷ false ∷ [])
    × (map (touches taken (Insert 1 3 0)) (0 ∷ 1 ∷ 2 ∷ 3 ∷ []) ≡ false ∷ true ∷ true ∷ true ∷ [])

-- The marks after an edit: a node of which a field is set is dirty, and its ancestors; a raw makes none; a removal marks the container and its
-- ancestors; an entry cleans its node.
abbrev pub Marked : Type 0
Marked = (map (λ x. x.dirty) (apply nodes (Set F.Selector 2 (codes "x"))) ≡ true ∷ true ∷ true ∷ false ∷ [])
    × (map (λ x. x.dirty) (apply nodes (SetRaw R.Between 2 (codes " "))) ≡ false ∷ false ∷ false ∷ false ∷ [])
    × (map (λ x. x.dirty) (apply nodes (Remove 2)) ≡ true ∷ true ∷ false ∷ false ∷ [])
    × (map (λ x. x.dirty) (noted (record forest { nodes = with_mark nodes 3 true }) (I.Enter 3)).nodes ≡ false ∷ false ∷ false ∷ false ∷ [])
