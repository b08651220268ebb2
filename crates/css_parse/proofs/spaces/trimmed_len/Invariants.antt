use Rattle.std.proofs.Common.{◌≡◌, ◌≤◌, take}
use Rattle.css_text.specs.Characters.{is_space}
use Rattle.css_tree.proofs.Split.{solid_by}
use Rattle.css_parse.proofs.spaces.trimmed_len.Given as goal

abbrev pub invariant-loop-i : goal.invariant-loop-i
invariant-loop-i l = record { front : take l.len l.bytes ≡ solid_by is_space (take l.i l.bytes); before : l.len ≤ l.i }
