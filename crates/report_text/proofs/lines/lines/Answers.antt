use Rattle.std.proofs.Common.{◌∙◌, ap, string_bytes}
use Rattle.report_text.proofs.Texts.{lines_some, lines_none}
use Rattle.report_text.proofs.lines.lines.Goals as goal
use Rattle.report_text.proofs.lines.lines.Goals.{then-problems-gt0+in_ok-push_total, else-problems-gt0}

pub returns : goal.returns
returns c = elim c.if-problems-gt0.branch [
  | then-problems-gt0+in_ok-push_total w ↦
      ap string_bytes w.text-is ∙ lines_some c.args.files.now c.in_ok-problems.problems c.in_ok-counts.counts.errors c.in_ok-counts.counts.warnings c.in_ok-problems.ensures c.in_ok-counts.ensures.errors c.in_ok-counts.ensures.warnings
      _ _ _ c.new-text.ensures.bytes c.in_ok-push_files.ensures w.in_ok-push_total.ensures w.if-problems-gt0.true
  | else-problems-gt0 w ↦
      ap string_bytes w.text-is ∙ lines_none c.args.files.now c.in_ok-problems.problems c.in_ok-counts.counts.errors c.in_ok-counts.counts.warnings c.in_ok-problems.ensures c.in_ok-counts.ensures.errors c.in_ok-counts.ensures.warnings
      _ _ c.new-text.ensures.bytes c.in_ok-push_files.ensures w.if-problems-gt0.false
]
