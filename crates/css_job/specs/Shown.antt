-- A warning of the code as one of the definitions.
use Rattle.std.specs.Str.{chars}
use Rattle.css_job.specs.Warnings.{Warning}
use Rattle.css_job.specs.declared.lint.warning.Warning as W

abbrev pub warning_seen : W.Warning → Warning
warning_seen w = record { place = w.place; severity = w.severity; text = chars w.text.now; rule = chars w.rule.now }
