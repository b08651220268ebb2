use Rattle.std.proofs.Common.{◌≡◌, ◌+◌, ◌<◌, length}
use Rattle.node_rows.specs.Nodes.{depth_of, path}
use Rattle.stringify.proofs.reads.depth_of.Given as goal

abbrev pub invariant-loop-parent : goal.invariant-loop-parent
invariant-loop-parent l = record {
  given : l.at < length l.work.nodes;
  count : l.depth + depth_of l.work.nodes l.at ≡ depth_of l.work.nodes l.fn.n;
}

abbrev pub decreases-loop-parent : goal.decreases-loop-parent
decreases-loop-parent l = length (path l.work.nodes l.at)
