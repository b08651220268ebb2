use Rattle.std.proofs.Common.{◌≡◌, ℕ, Some, length}
use Rattle.node_rows.specs.Nodes.{parent_of}
use Rattle.node_store.specs.Forest.{IsForest}
use Rattle.transforms.proofs.Going.{Going}
use Rattle.transforms.proofs.unnest.move_all.Given as goal

abbrev pub invariant-loop-child : goal.invariant-loop-child
invariant-loop-child l = record {
  forest : IsForest l.work;
  going : (p : ℕ) → parent_of l.fn.work.nodes l.fn.rule ≡ Some p → Going l.fn.work l.work l.fn.rule p l.children.items;
}

abbrev pub decreases-loop-child : goal.decreases-loop-child
decreases-loop-child l = length l.children.items
