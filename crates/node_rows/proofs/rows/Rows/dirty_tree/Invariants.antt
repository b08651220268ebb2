use Rattle.std.proofs.Common.{◌≡◌, ◌<◌, ◌∷◌, length, true, MatchOption}
use Rattle.node_rows.specs.Nodes.{holds}
use Rattle.node_rows.specs.Sound.{IsSound}
use Rattle.node_rows.specs.Marks.{all_dirty, dirtied}
use Rattle.node_rows.specs.Beyond.{behind}
use Rattle.node_rows.proofs.SameLinks.{SameLinks}
use Rattle.node_rows.proofs.Turns.{to_go}
use Rattle.node_rows.proofs.rows.Rows.dirty_tree.Given as goal

abbrev pub invariant-loop-at : goal.invariant-loop-at
invariant-loop-at l = record {
  sound : IsSound l.fn.self;
  same : SameLinks l.fn.self l.self;
  root : l.n < length l.fn.self;
  rest : MatchOption l.at (l.self ≡ dirtied l.fn.self l.n)
      (λ m. (m < length l.fn.self) × (holds l.fn.self l.n m ≡ true) × (all_dirty l.self (m ∷ behind l.fn.self l.n m) ≡ dirtied l.fn.self l.n));
}

abbrev pub decreases-loop-at : goal.decreases-loop-at
decreases-loop-at l = to_go l.fn.self l.n l.at
