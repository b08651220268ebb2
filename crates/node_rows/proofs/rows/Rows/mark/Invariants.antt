use Rattle.std.proofs.Common.{◌≡◌, ◌<◌, length, MatchOption}
use Rattle.node_rows.specs.Nodes.{path}
use Rattle.node_rows.specs.Sound.{IsSound}
use Rattle.node_rows.specs.Marks.{all_dirty}
use Rattle.node_rows.proofs.SameLinks.{SameLinks}
use Rattle.node_rows.proofs.Marked.{left}
use Rattle.node_rows.proofs.rows.Rows.mark.Given as goal

abbrev pub invariant-loop-at : goal.invariant-loop-at
invariant-loop-at l = record {
  sound : IsSound l.fn.self;
  same : SameLinks l.fn.self l.self;
  rest : MatchOption l.at
      (l.self ≡ all_dirty l.fn.self (path l.fn.self l.n))
      (λ m. (m < length l.fn.self) × (all_dirty l.self (path l.fn.self m) ≡ all_dirty l.fn.self (path l.fn.self l.n)));
}

abbrev pub decreases-loop-at : goal.decreases-loop-at
decreases-loop-at l = left l.fn.self l.at
