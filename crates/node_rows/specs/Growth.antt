-- New nodes, and the rows that show them.
use Rattle.std.specs.Prelude.{None, true}
use Rattle.node_rows.specs.declared.growth.NewNode.{NewNode}
use Rattle.node_rows.specs.declared.rows.Row.{Row}
use Rattle.node_rows.specs.Nodes.{Node, new_node}

abbrev pub made : NewNode → Node
made x = new_node x.text x.span

-- a row without links
abbrev pub row_of : NewNode → Row
row_of x = record { text = x.text; span = x.span; parent = None; first = None; last = None; before = None; after = None; tally = record { count = 0; dirty = true } }
