use Rattle.std.proofs.Common.{◌≡◌, ◌<◌, length, true}
use Rattle.node_rows.specs.Nodes.{holds, path}
use Rattle.node_rows.specs.Beyond.{behind, beyond}
use Rattle.node_rows.proofs.rows.Rows.follower.Given as goal

abbrev pub invariant-loop-at : goal.invariant-loop-at
invariant-loop-at l = record {
  given : l.at < length l.self;
  held : holds l.self l.top l.at ≡ true;
  rest : behind l.self l.top l.m ≡ beyond l.self l.top l.at;
}

abbrev pub decreases-loop-at : goal.decreases-loop-at
decreases-loop-at l = length (path l.self l.at)
