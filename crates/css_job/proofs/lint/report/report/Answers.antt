use Rattle.std.proofs.Common.{map, string_bytes, sym, ap, ◌∙◌, ◌<◌, ◌++◌, length, [], ◌-◌, eqb}
use borrow.Author.Tests.{eqb-true}
use Rattle.std.proofs.lemmas.List.{length-map}
use Rattle.std.specs.Prelude.{encode_utf8_all}
use Rattle.std.specs.Str.{chars}
use Rattle.std.specs.List.{flat_map}
use Rattle.css_job.specs.Trace.{line}
use Rattle.css_job.specs.Report.{warning_line, total_line}
use Rattle.css_job.specs.Shown.{warning_seen}
use Rattle.css_job.proofs.Joined.{pushed_onto}
use Rattle.css_job.proofs.Reports.{report_none, report_some, not_none, total_is}
use Rattle.css_job.proofs.lint.report.report.Goals as goal

pub returns-then-is_empty : goal.returns-then-is_empty
returns-then-is_empty c = c.new-text.ensures.bytes ∙ sym (report_none (chars c.args.name.now) (map warning_seen c.args.warnings.now) (length-map c.args.warnings.now warning_seen ∙ eqb-true _ _ (sym c.is_empty.ensures ∙ c.if-is_empty.true)))

pub returns : goal.returns
returns c =
    let ws = map warning_seen c.args.warnings.now in
    let n = length c.args.warnings.now in
    let size = length-map c.args.warnings.now warning_seen in
    let some : 0 < length ws = not_none (length ws) (ap (λ n. eqb n 0) size ∙ (sym c.is_empty.ensures ∙ c.if-is_empty.false)) in
    pushed_onto (string_bytes c.new-text.result) (encode_utf8_all (chars c.args.name.now)) (line []) (flat_map warning_line ws) (line []) (total_line n c.error_count.result (n - c.error_count.result)) _ _ _ _ _ c.new-text.ensures.bytes c.in_ok-push_text.ensures c.in_ok-push_str.ensures.bytes c.in_ok-push_warnings.ensures c.in_ok-push_str-2.ensures.bytes c.in_ok-push_total.ensures
    ∙ (ap (λ z. line (encode_utf8_all (chars c.args.name.now)) ++ (flat_map warning_line ws ++ (line [] ++ z))) (total_is ws n c.error_count.result (sym size) c.error_count.ensures) ∙ sym (report_some (chars c.args.name.now) ws some))
