use Rattle.std.proofs.Common.{codes, string_bytes, []}
use Rattle.std.specs.Prelude.{encode_utf8_all}
use Rattle.std.specs.Str.{chars}
use Rattle.css_job.specs.Trace.{line}
use Rattle.css_job.specs.Report.{place_text, severity_name}
use Rattle.css_job.proofs.Joined.{pushed_eight, instead}
use Rattle.css_job.proofs.lint.report.push_warning.Goals as goal

pub returns : goal.returns
returns c = pushed_eight (string_bytes c.args.to.now) (place_text c.args.warning.now.place) (codes "  ") (severity_name c.args.warning.now.severity) (codes "  ") (encode_utf8_all (chars c.args.warning.now.text.now)) (codes "  ") (encode_utf8_all (chars c.args.warning.now.rule.now)) (line []) _ _ _ _ _ _ _ _ c.in_ok-push_place.ensures c.in_ok-push_str.ensures.bytes (instead _ _ _ _ c.in_ok-push_str-2.ensures.bytes c.name.ensures) c.in_ok-push_str-3.ensures.bytes c.in_ok-push_text.ensures c.in_ok-push_str-4.ensures.bytes c.in_ok-push_text-2.ensures c.in_ok-push_str-5.ensures.bytes
