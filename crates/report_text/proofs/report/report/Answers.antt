use Rattle.std.proofs.Common.{◌∙◌, ap, sym, string_bytes}
use Rattle.std.proofs.lemmas.Str.{IsUtf8-string_bytes}
use Rattle.report_text.specs.Report.{report as report_of}
use Rattle.report_text.proofs.Texts.{told}
use Rattle.report_text.proofs.report.report.Goals as goal
use Rattle.report_text.proofs.report.report.Goals.{in-Lines+in_ok-text-in-Lines, in-Unix+in_ok-text-in-Unix, in-Json+in_ok-text-in-Json}

pub returns : goal.returns
returns c = told c.from_string.result (string_bytes c.match-format.text) (report_of c.args.format c.args.files.now) c.from_string.ensures (IsUtf8-string_bytes c.match-format.text) (elim c.match-format.branch [
  | in-Lines+in_ok-text-in-Lines w ↦ ap string_bytes w.text-is ∙ (w.in_ok-text-in-Lines.ensures ∙ ap (λ z. report_of z c.args.files.now) (sym w.in-Lines.is))
  | in-Unix+in_ok-text-in-Unix w ↦ ap string_bytes w.text-is ∙ (w.in_ok-text-in-Unix.ensures ∙ ap (λ z. report_of z c.args.files.now) (sym w.in-Unix.is))
  | in-Json+in_ok-text-in-Json w ↦ ap string_bytes w.text-is ∙ (w.in_ok-text-in-Json.ensures ∙ ap (λ z. report_of z c.args.files.now) (sym w.in-Json.is))
])
