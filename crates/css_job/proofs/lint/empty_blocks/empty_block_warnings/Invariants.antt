use Rattle.std.proofs.Common.{◌≡◌, ◌++◌, length, map}
use Rattle.std.specs.Prelude.{Ok}
use Rattle.std.specs.List.{flat_map}
use Rattle.node_rows.specs.Nodes.{IsGiven}
use Rattle.node_store.specs.Forest.{tree_of}
use Rattle.css_job.specs.Warnings.{warnings}
use Rattle.css_job.specs.Shown.{warning_seen}
use Rattle.css_job.specs.Walk.{from, found, EachStands}
use Rattle.css_job.proofs.lint.empty_blocks.empty_block_warnings.Given as goal

abbrev pub invariant-loop-at : goal.invariant-loop-at
invariant-loop-at l = record {
  given : IsGiven l.work.nodes l.at;
  stand : EachStands l.work.text l.work.nodes (from l.work.nodes l.at);
  same : map warning_seen l.warnings.items ++ flat_map (found l.work.text l.work.nodes) (from l.work.nodes l.at) ≡ warnings l.work.text (Ok (tree_of l.work));
}

abbrev pub decreases-loop-at : goal.decreases-loop-at
decreases-loop-at l = length (from l.work.nodes l.at)
