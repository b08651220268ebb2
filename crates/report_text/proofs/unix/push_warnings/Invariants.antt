use Rattle.std.proofs.Common.{◌≡◌, ◌++◌, take, string_bytes}
use Rattle.std.specs.List.{flat_map}
use Rattle.report_text.specs.Unix.{warning_line}
use Rattle.report_text.proofs.unix.push_warnings.Given as goal

abbrev pub invariant-loop-warning : goal.invariant-loop-warning
invariant-loop-warning l = string_bytes l.to ≡ string_bytes l.fn.to ++ flat_map (warning_line l.name) (take l.warning-index l.warnings)
