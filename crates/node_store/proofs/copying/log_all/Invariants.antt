use Rattle.std.proofs.Common.{◌≡◌, ◌+◌, ◌≤◌, ◌++◌, length, map}
use Rattle.std.specs.Vec.{vec_len, vec_capacity}
use Rattle.std.specs.Vec.Iter.{into_iter_items, into_iter_len}
use Rattle.node_store.specs.declared.item.Item.TheVariants as I
use Rattle.node_store.proofs.copying.log_all.Given as goal

abbrev pub invariant-loop-edit : goal.invariant-loop-edit
invariant-loop-edit l = record {
  whole : l.yielded ++ into_iter_items l.edit-iterator ≡ into_iter_items l.initial.edit-iterator;
  count : into_iter_len l.edit-iterator ≡ length (into_iter_items l.edit-iterator);
  room : vec_len l.log + length (into_iter_items l.edit-iterator) ≤ vec_capacity l.log;
  built : l.log.items ≡ l.initial.log.items ++ map I.Edit l.yielded;
}
