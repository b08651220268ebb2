use Rattle.std.proofs.Common.{◌≡◌, ◌++◌, length, map}
use Rattle.std.specs.Vec.Iter.{into_iter_items, into_iter_len}
use Rattle.node_rows.specs.Growth.{row_of}
use Rattle.node_rows.proofs.growth.rows_of.Given as goal

abbrev pub invariant-loop-node : goal.invariant-loop-node
invariant-loop-node l = record {
  whole : l.yielded ++ into_iter_items l.node-iterator ≡ into_iter_items l.initial.node-iterator;
  count : into_iter_len l.node-iterator ≡ length (into_iter_items l.node-iterator);
  built : l.rows.items ≡ map row_of l.yielded;
}
