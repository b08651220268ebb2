use Rattle.std.proofs.Common.{◌≡◌, None, take, drop}
use Rattle.node_rows.specs.Segments.{end_of, start_of}
use Rattle.node_rows.specs.Shown.{listed, row_at}
use Rattle.node_rows.proofs.links.gap_onward.Given as goal

abbrev pub invariant-loop-i : goal.invariant-loop-i
invariant-loop-i l = record {
  left : l.before ≡ end_of None (take l._i (listed l.rows.items (row_at l.rows.items l.p)));
  right : l.after ≡ start_of (drop l._i (listed l.rows.items (row_at l.rows.items l.p))) None;
}
