use Rattle.std.proofs.Common.{◌≡◌, ◌<◌, length}
use Rattle.node_rows.specs.Nodes.{holds, path}
use Rattle.node_rows.proofs.rows.Rows.holds.Given as goal

abbrev pub invariant-loop-at : goal.invariant-loop-at
invariant-loop-at l = (l.at < length l.self) × (holds l.self l.top l.at ≡ holds l.self l.top l.n)

abbrev pub decreases-loop-at : goal.decreases-loop-at
decreases-loop-at l = length (path l.self l.at)
