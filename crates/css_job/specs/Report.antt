-- The report on warnings, in the layout of stylelint's `string` formatter as this project defines it.
use Rattle.std.specs.Prelude.{ℕ, ◌==◌, List, [], ◌∷◌, ◌++◌, Bool, true, false, length, codes, decimal, encode_utf8_all, count_by, if◌then◌else◌}
use Rattle.std.specs.List.{flat_map}
use Rattle.css_text.specs.declared.text.Place.{Place}
use Rattle.css_job.specs.declared.lint.warning.Severity.{Severity}
use Rattle.css_job.specs.declared.lint.warning.Severity.TheVariants as S
use Rattle.css_job.specs.Trace.{line}
use Rattle.css_job.specs.Warnings.{Warning}

abbrev pub severity_name : Severity → List ℕ
severity_name S.Error = codes "error"
severity_name S.Warning = codes "warning"

abbrev pub is_error_severity : Severity → Bool
is_error_severity S.Error = true
is_error_severity S.Warning = false

abbrev pub is_error : Warning → Bool
is_error w = is_error_severity w.severity

abbrev pub is_warning : Warning → Bool
is_warning w = if is_error w then false else true

abbrev pub place_text : Place → List ℕ
place_text p = codes "  " ++ (decimal p.line ++ (codes ":" ++ decimal p.column))

abbrev pub warning_line : Warning → List ℕ
warning_line w = place_text w.place ++ (codes "  " ++ (severity_name w.severity ++ (codes "  " ++ (encode_utf8_all w.text ++ (codes "  " ++ line (encode_utf8_all w.rule))))))

-- so many of these, in the singular at 1
abbrev pub counted : ℕ → List ℕ → List ℕ
counted n things = decimal n ++ (codes " " ++ (things ++ (if n == 1 then [] else codes "s")))

abbrev pub total_line : ℕ → ℕ → ℕ → List ℕ
total_line problems errors warnings = counted problems (codes "problem") ++ (codes " (" ++ (counted errors (codes "error") ++ (codes ", " ++ (counted warnings (codes "warning") ++ line (codes ")")))))

-- nothing without warnings
unfoldable pub report : List ℕ → List Warning → List ℕ
report name [] = []
report name (w ∷ ws) = line (encode_utf8_all name) ++ (flat_map warning_line (w ∷ ws) ++ (line [] ++ total_line (length (w ∷ ws)) (count_by is_error (w ∷ ws)) (count_by is_warning (w ∷ ws))))
