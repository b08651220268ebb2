-- The report `string`, in the layout of stylelint's formatter of that name as this project defines it.
use Rattle.std.specs.Prelude.{ℕ, List, [], ◌∷◌, ◌++◌, codes, length, count_by, encode_utf8_all}
use Rattle.std.specs.List.{flat_map}
use Rattle.lint_config.specs.declared.found.Warning.{Warning}
use Rattle.lint_config.specs.declared.found.FileWarnings.{FileWarnings}
use Rattle.report_text.specs.Parts.{severity_name, is_error, is_warning, place_text, line_feed, counted, all_warnings}

abbrev pub warning_line : Warning → List ℕ
warning_line w =
    codes "  " ++ (place_text w.place ++ (codes "  " ++ (severity_name w.severity ++ (codes "  " ++ (encode_utf8_all w.text ++ (codes "  " ++ (encode_utf8_all w.rule ++ line_feed)))))))

abbrev pub lines_of : List ℕ → List Warning → List ℕ
lines_of name [] = []
lines_of name (w ∷ ws) = encode_utf8_all name ++ (line_feed ++ (flat_map warning_line (w ∷ ws) ++ line_feed))

-- a file's name, its warnings and an empty line; nothing where it has none
abbrev pub file_lines : FileWarnings → List ℕ
file_lines f = lines_of f.name f.warnings.items

abbrev pub total_line : ℕ → ℕ → ℕ → List ℕ
total_line problems errors warnings =
    counted problems (codes "problem") ++ (codes " (" ++ (counted errors (codes "error") ++ (codes ", " ++ (counted warnings (codes "warning") ++ (codes ")" ++ line_feed)))))

-- the total of these warnings; nothing without any
abbrev pub total_of : List Warning → List ℕ
total_of [] = []
total_of (w ∷ ws) = total_line (length (w ∷ ws)) (count_by is_error (w ∷ ws)) (count_by is_warning (w ∷ ws))

unfoldable pub lines : List FileWarnings → List ℕ
lines files = flat_map file_lines files ++ total_of (all_warnings files)
