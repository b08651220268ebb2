use Rattle.std.proofs.Common.{◌≡◌, ◌++◌, length}
use Rattle.std.specs.Prelude.{filter}
use Rattle.node_rows.specs.Nodes.{text_of, children_of, from_number, IsGiven}
use Rattle.plugin_api.specs.Effect.{is_movable}
use Rattle.transforms.proofs.unnest.movable_children.Given as goal

abbrev pub invariant-loop-at : goal.invariant-loop-at
invariant-loop-at l = record {
  given : IsGiven l.work.nodes l.at;
  same : l.children.items ++ filter (λ m. is_movable (text_of l.work.nodes m)) (from_number l.work.nodes l.at) ≡ filter (λ m. is_movable (text_of l.work.nodes m)) (children_of l.work.nodes l.fn.rule);
}

abbrev pub decreases-loop-at : goal.decreases-loop-at
decreases-loop-at l = length (from_number l.work.nodes l.at)
