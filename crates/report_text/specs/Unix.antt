-- The report `unix`, a line for each warning, as compilers write it.
use Rattle.std.specs.Prelude.{ℕ, List, [], ◌∷◌, ◌++◌, codes, length, encode_utf8_all}
use Rattle.std.specs.List.{flat_map}
use Rattle.lint_config.specs.declared.found.Warning.{Warning}
use Rattle.lint_config.specs.declared.found.FileWarnings.{FileWarnings}
use Rattle.report_text.specs.Parts.{severity_name, place_text, line_feed, counted, all_warnings}

abbrev pub warning_line : List ℕ → Warning → List ℕ
warning_line name w =
    encode_utf8_all name ++ (codes ":" ++ (place_text w.place ++ (codes ": " ++ (encode_utf8_all w.text ++ (codes " (" ++ (encode_utf8_all w.rule ++ (codes ") [" ++ (severity_name w.severity ++ (codes "]" ++ line_feed)))))))))

abbrev pub file_lines : FileWarnings → List ℕ
file_lines f = flat_map (warning_line f.name) f.warnings.items

-- an empty line and the total; nothing without warnings
abbrev pub total_of : List Warning → List ℕ
total_of [] = []
total_of (w ∷ ws) = line_feed ++ (counted (length (w ∷ ws)) (codes "problem") ++ line_feed)

unfoldable pub unix : List FileWarnings → List ℕ
unix files = flat_map file_lines files ++ total_of (all_warnings files)
