use Rattle.std.proofs.Common.{◌≡◌, take, count_by}
use Rattle.report_text.specs.Parts.{is_error, is_warning, all_warnings}
use Rattle.report_text.proofs.counts.count_all.Given as goal

abbrev pub invariant-loop-file : goal.invariant-loop-file
invariant-loop-file l =
    (l.counts.errors ≡ count_by is_error (all_warnings (take l.file-index l.files)))
    × (l.counts.warnings ≡ count_by is_warning (all_warnings (take l.file-index l.files)))
