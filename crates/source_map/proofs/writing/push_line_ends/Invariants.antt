use Rattle.std.proofs.Common.{◌≡◌, ◌++◌, replicate}
use Rattle.std.specs.String.{string_bytes}
use Rattle.source_map.proofs.writing.push_line_ends.Given as goal

abbrev pub invariant-loop-written : goal.invariant-loop-written
invariant-loop-written l = string_bytes l.text ≡ string_bytes l.initial.text ++ replicate l.written 59
