use Rattle.std.proofs.Common.{◌≡◌, ◌+◌, Some, IfSome}
use Rattle.node_rows.specs.Nodes.{parent_of, place_of}
use Rattle.node_rows.proofs.rows.Rows.place_within.Given as goal

abbrev pub invariant-loop-at : goal.invariant-loop-at
invariant-loop-at l = record {
  child : parent_of l.self l.back ≡ Some l.parent;
  back : place_of l.self l.parent l.back + l.at ≡ place_of l.self l.parent l.n;
  on : IfSome l.on (λ c. (parent_of l.self c ≡ Some l.parent) × (place_of l.self l.parent c ≡ place_of l.self l.parent l.n + l.at));
}
