-- What a run without an edit leaves, and that a text is read as one list of nodes.
use Rattle.std.specs.Prelude.{◌≡◌, ℕ, List, Some}
use Rattle.css_tree.specs.Print.{print}
use Rattle.node_rows.specs.Nodes.{Node}
use Rattle.node_rows.specs.NumberTrees.{tree_at}
use Rattle.node_store.specs.declared.item.Item.{Item}
use Rattle.node_store.specs.Forest.{Forest, IsForest}
use Rattle.node_store.specs.Fresh.{IsFresh}
use Rattle.visitor_machine.specs.Hooks.{PickedHook}
use Rattle.visitor_machine.specs.Machine.{State}
use Rattle.visitor_machine.specs.Follow.{follow, start}
use Rattle.visitor_machine.specs.Calls.{IsQuiet}

-- a run without an edit leaves the plain tree of each node
abbrev pub QuietTree : Type 0
QuietTree = (hooks : List PickedHook) (most : ℕ) (nodes : List Node) (log : List Item) (end : State) → IsQuiet log → follow hooks most (start hooks nodes) log ≡ Some end → (n : ℕ) → tree_at end.nodes n ≡ tree_at nodes n

-- so the sheet prints the text that it was read from
abbrev pub QuietSheet : Type 0
QuietSheet = (hooks : List PickedHook) (most : ℕ) (forest : Forest) (log : List Item) (end : State) → IsForest forest → IsFresh forest → IsQuiet log → follow hooks most (start hooks forest.nodes) log ≡ Some end → print (tree_at end.nodes 0) ≡ forest.text

-- fresh forests of one text have the same nodes
abbrev pub OneFresh : Type 0
OneFresh = (f g : Forest) → IsFresh f → IsFresh g → f.text ≡ g.text → f.nodes ≡ g.nodes
