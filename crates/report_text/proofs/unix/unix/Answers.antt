use Rattle.std.proofs.Common.{◌∙◌, ap, string_bytes}
use Rattle.report_text.proofs.Texts.{unix_some, unix_none}
use Rattle.report_text.proofs.unix.unix.Goals as goal
use Rattle.report_text.proofs.unix.unix.Goals.{then-problems-gt0+in_ok-push_str+in_ok-push_counted+in_ok-end_line, else-problems-gt0}

pub returns : goal.returns
returns c = elim c.if-problems-gt0.branch [
  | then-problems-gt0+in_ok-push_str+in_ok-push_counted+in_ok-end_line w ↦
      ap string_bytes w.text-is ∙ unix_some c.args.files.now c.in_ok-problems.problems c.in_ok-count_all.field-0.errors c.in_ok-count_all.field-0.warnings c.in_ok-problems.ensures c.in_ok-count_all.ensures.errors c.in_ok-count_all.ensures.warnings
      _ _ _ _ _ c.new-text.ensures.bytes c.in_ok-push_files.ensures w.in_ok-push_str.ensures.bytes w.in_ok-push_counted.ensures w.in_ok-end_line.ensures w.if-problems-gt0.true
  | else-problems-gt0 w ↦
      ap string_bytes w.text-is ∙ unix_none c.args.files.now c.in_ok-problems.problems c.in_ok-count_all.field-0.errors c.in_ok-count_all.field-0.warnings c.in_ok-problems.ensures c.in_ok-count_all.ensures.errors c.in_ok-count_all.ensures.warnings
      _ _ c.new-text.ensures.bytes c.in_ok-push_files.ensures w.if-problems-gt0.false
]
