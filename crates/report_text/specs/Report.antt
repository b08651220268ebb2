-- The text of a report.
use Rattle.std.specs.Prelude.{ℕ, List}
use Rattle.lint_config.specs.declared.found.FileWarnings.{FileWarnings}
use Rattle.report_text.specs.declared.format.Format.{Format}
use Rattle.report_text.specs.declared.format.Format.TheVariants as F
use Rattle.report_text.specs.Lines.{lines}
use Rattle.report_text.specs.Unix.{unix}
use Rattle.report_text.specs.Json.{json}

-- the bytes of the report on these files
abbrev pub report : Format → List FileWarnings → List ℕ
report F.Lines files = lines files
report F.Unix files = unix files
report F.Json files = json files
