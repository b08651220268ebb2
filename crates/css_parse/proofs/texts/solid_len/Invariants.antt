use Rattle.std.proofs.Common.{◌≡◌, ◌≤◌, take, length}
use Rattle.css_tree.specs.Pieces.{is_blank}
use Rattle.css_tree.proofs.Split.{solid_by}
use Rattle.css_parse.proofs.texts.solid_len.Given as goal

abbrev pub invariant-loop-len : goal.invariant-loop-len
invariant-loop-len l = record { same : solid_by is_blank l.pieces ≡ solid_by is_blank (take l.len l.pieces); within : l.len ≤ length l.pieces }

abbrev pub decreases-loop-len : goal.decreases-loop-len
decreases-loop-len l = l.len
