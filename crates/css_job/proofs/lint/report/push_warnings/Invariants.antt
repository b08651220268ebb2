use Rattle.std.proofs.Common.{◌≡◌, ◌++◌, map, take, string_bytes}
use Rattle.std.specs.List.{flat_map}
use Rattle.css_job.specs.Report.{warning_line}
use Rattle.css_job.specs.Shown.{warning_seen}
use Rattle.css_job.proofs.lint.report.push_warnings.Given as goal

abbrev pub invariant-loop-warning : goal.invariant-loop-warning
invariant-loop-warning l = string_bytes l.to ≡ string_bytes l.fn.to ++ flat_map warning_line (map warning_seen (take l.warning-index l.warnings))
