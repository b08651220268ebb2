use Rattle.std.proofs.Common.{ap, string_bytes, map, ◌∙◌}
use Rattle.std.proofs.lemmas.Str.{IsUtf8-string_bytes}
use Rattle.css_job.specs.Shown.{warning_seen}
use Rattle.css_job.proofs.Commands.{unwalked, lint_is}
use Rattle.css_job.proofs.lint.report_plan.Goals as goal

pub returns : goal.returns
returns c = c.unwalked.ensures ∙ ap (λ p. unwalked p) (c.in_ok-plan.ensures ∙ lint_is c.in_ok-text.text (string_bytes c.in_ok-report.field-0) (map warning_seen c.args.warnings.now) c.lint_status.result c.in_ok-text.ensures (IsUtf8-string_bytes c.in_ok-report.field-0) c.in_ok-report.ensures c.lint_status.ensures)
