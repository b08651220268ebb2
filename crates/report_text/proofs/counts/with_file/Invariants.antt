use Rattle.std.proofs.Common.{◌≡◌, ◌+◌, take, count_by}
use Rattle.report_text.specs.Parts.{is_error, is_warning}
use Rattle.report_text.proofs.counts.with_file.Given as goal

abbrev pub invariant-loop-warning : goal.invariant-loop-warning
invariant-loop-warning l =
    (l.counts.errors ≡ l.fn.counts.errors + count_by is_error (take l.warning-index l.warnings))
    × (l.counts.warnings ≡ l.fn.counts.warnings + count_by is_warning (take l.warning-index l.warnings))
