-- Reports on small lists of files.
use Rattle.std.specs.Prelude.{◌≡◌, ℕ, List, [], ◌∷◌, ◌++◌, codes}
use Rattle.lint_config.specs.declared.setting.Severity.{Severity}
use Rattle.lint_config.specs.declared.setting.Severity.TheVariants as S
use Rattle.lint_config.specs.declared.found.Warning.{Warning}
use Rattle.lint_config.specs.declared.found.FileWarnings.{FileWarnings}
use Rattle.report_text.specs.declared.format.Format.TheVariants.{Lines, Unix, Json}
use Rattle.report_text.specs.Report.{report}
use Rattle.report_text.specs.Parts.{counted}
use Rattle.report_text.specs.Lines.{warning_line, lines_of, total_of}
use Rattle.report_text.specs.Unix as unix
use Rattle.report_text.specs.Json.{warning_data}
use Rattle.serde_json.specs.Written.{compact_text}

abbrev warning : ℕ → ℕ → List ℕ → Severity → List ℕ → Warning
warning line column rule severity text = record { place = record { line = line; column = column }; rule = rule; severity = severity; text = text }

abbrev empty : Warning
empty = warning 1 2 (codes "r") S.Error (codes "no")

-- an euro sign in the text, which takes three bytes
abbrev quoted : Warning
quoted = warning 10 3 (codes "s") S.Warning (34 ∷ 0x20ac ∷ [])

abbrev pub NoWarning : Type 0
NoWarning = (report Lines [] ≡ []) × (report Unix [] ≡ []) × (report Json [] ≡ codes "[]\n") × (lines_of (codes "a.css") [] ≡ [])

abbrev pub OneWarning : Type 0
OneWarning = (warning_line empty ≡ codes "  1:2  error  no  r\n")
    × (unix.warning_line (codes "a.css") empty ≡ codes "a.css:1:2: no (r) [error]\n")
    × (compact_text (warning_data empty) ≡ codes "{\"column\":2,\"line\":1,\"rule\":\"r\",\"severity\":\"error\",\"text\":\"no\"}")
    × (lines_of (codes "a") (empty ∷ []) ++ total_of (empty ∷ []) ≡ codes "a\n  1:2  error  no  r\n\n1 problem (1 error, 0 warnings)\n")
    × (unix.total_of (empty ∷ []) ≡ codes "\n1 problem\n")

abbrev pub TwoFiles : Type 0
TwoFiles = (warning_line quoted ≡ codes "  10:3  warning  \"" ++ (0xe2 ∷ 0x82 ∷ 0xac ∷ codes "  s\n"))
    × (total_of (empty ∷ quoted ∷ quoted ∷ []) ≡ codes "3 problems (1 error, 2 warnings)\n")
    × (unix.total_of (empty ∷ quoted ∷ []) ≡ codes "\n2 problems\n")
    × (compact_text (warning_data quoted) ≡ codes "{\"column\":3,\"line\":10,\"rule\":\"s\",\"severity\":\"warning\",\"text\":\"\\\"" ++ (0xe2 ∷ 0x82 ∷ 0xac ∷ codes "\"}"))
