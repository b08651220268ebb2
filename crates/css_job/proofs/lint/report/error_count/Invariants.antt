use Rattle.std.proofs.Common.{◌≡◌, take, map, count_by}
use Rattle.css_job.specs.Report.{is_error}
use Rattle.css_job.specs.Shown.{warning_seen}
use Rattle.css_job.proofs.lint.report.error_count.Given as goal

abbrev pub invariant-loop-warning : goal.invariant-loop-warning
invariant-loop-warning l = l.count ≡ count_by is_error (map warning_seen (take l.warning-index l.warnings))
