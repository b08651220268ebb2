use Rattle.std.proofs.Common.{◌≡◌, ◌+◌, ◌-◌, ◌++◌, length, map, All}
use Rattle.node_rows.specs.Growth.{made}
use Rattle.node_store.specs.Copies.{copied}
use Rattle.node_store.specs.Growth.{news, owed, IsFrame}
use Rattle.node_store.proofs.copying.plan_tree.Given as goal

abbrev pub invariant-loop-frame : goal.invariant-loop-frame
invariant-loop-frame l = record {
  whole : l.plan.edits.items ++ owed l.rows l.stack.items (length l.rows + length l.plan.nodes.items) ≡ copied l.rows l.fn.top;
  nodes : map made l.plan.nodes.items ≡ news l.plan.edits.items;
  frames : All (IsFrame l.rows) l.stack.items;
}

abbrev pub decreases-loop-frame : goal.decreases-loop-frame
decreases-loop-frame l = length (copied l.rows l.fn.top) - length l.plan.edits.items
