use Rattle.std.proofs.Common.{◌≡◌}
use Rattle.css_tree.specs.Print.{are_comments}
use Rattle.node_rows.specs.Nodes.{from_number, IsGiven}
use Rattle.node_rows.specs.NumberTrees.{plain, number_trees}
use Rattle.stringify.specs.Sheet.{size}
use Rattle.stringify.proofs.reads.are_comments.Given as goal

abbrev pub invariant-loop-at : goal.invariant-loop-at
invariant-loop-at l = record {
  given : IsGiven l.work.nodes l.at;
  same : are_comments (plain l.work.nodes (number_trees l.work.nodes (from_number l.work.nodes l.at))) ≡ are_comments (plain l.work.nodes (number_trees l.work.nodes (from_number l.work.nodes l.fn.first)));
}

abbrev pub decreases-loop-at : goal.decreases-loop-at
decreases-loop-at l = size (number_trees l.work.nodes (from_number l.work.nodes l.at))
