-- What the formats share. A text of a warning is a list of characters, and a report one of bytes.
use Rattle.std.specs.Prelude.{ℕ, ◌==◌, List, [], ◌∷◌, ◌++◌, Bool, true, false, not, codes, decimal, if◌then◌else◌}
use Rattle.std.specs.List.{flat_map}
use Rattle.css_text.specs.declared.text.Place.{Place}
use Rattle.lint_config.specs.declared.setting.Severity.{Severity}
use Rattle.lint_config.specs.declared.setting.Severity.TheVariants as S
use Rattle.lint_config.specs.declared.found.Warning.{Warning}
use Rattle.lint_config.specs.declared.found.FileWarnings.{FileWarnings}

abbrev pub severity_name : Severity → List ℕ
severity_name S.Error = codes "error"
severity_name S.Warning = codes "warning"

abbrev pub is_error_severity : Severity → Bool
is_error_severity S.Error = true
is_error_severity S.Warning = false

abbrev pub is_error : Warning → Bool
is_error w = is_error_severity w.severity

abbrev pub is_warning : Warning → Bool
is_warning w = not (is_error w)

abbrev pub place_text : Place → List ℕ
place_text p = decimal p.line ++ (codes ":" ++ decimal p.column)

-- a line feed
abbrev pub line_feed : List ℕ
line_feed = 10 ∷ []

-- so many of these, in the singular at 1
abbrev pub counted : ℕ → List ℕ → List ℕ
counted n things = decimal n ++ (codes " " ++ (things ++ (if n == 1 then [] else codes "s")))

-- the warnings of all files, in order
abbrev pub all_warnings : List FileWarnings → List Warning
all_warnings files = flat_map (λ f. f.warnings.items) files
