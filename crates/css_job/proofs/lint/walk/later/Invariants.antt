use Rattle.std.proofs.Common.{◌≡◌, ◌<◌, length}
use Rattle.node_rows.specs.Nodes.{path}
use Rattle.css_job.specs.Walk.{later}
use Rattle.css_job.proofs.lint.walk.later.Given as goal

abbrev pub invariant-up : goal.invariant-up
invariant-up l = record {
  given : l.at < length l.work.nodes;
  same : later l.work.nodes l.at ≡ later l.work.nodes l.fn.n;
}

abbrev pub decreases-up : goal.decreases-up
decreases-up l = length (path l.work.nodes l.at)
