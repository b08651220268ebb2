use Rattle.std.proofs.Common.{◌≡◌, ◌++◌, take, drop}
use Rattle.node_store.specs.Growth.{grow_all, news, IsPlan}
use Rattle.node_store.proofs.copying.add_copies.Given as goal

abbrev pub invariant-loop-edit : goal.invariant-loop-edit
invariant-loop-edit l = record {
  grown : l.rows ≡ grow_all l.fn.rows (take l.edit-index l.edits.items) ++ news (drop l.edit-index l.edits.items);
  plan : IsPlan (grow_all l.fn.rows (take l.edit-index l.edits.items)) (drop l.edit-index l.edits.items);
}
