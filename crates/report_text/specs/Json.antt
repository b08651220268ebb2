-- The report `json`: the value that it is, whose text is `serde_json`'s.
use Rattle.std.specs.Prelude.{ℕ, List, [], ◌∷◌, ◌++◌, codes, map, encode_utf8_all}
use Rattle.serde_json.specs.Data.{Data, number, unsigned, string, array, object, Members, no_members, member}
use Rattle.serde_json.specs.View.{items_of}
use Rattle.serde_json.specs.Written.{compact_text}
use Rattle.lint_config.specs.declared.found.Warning.{Warning}
use Rattle.lint_config.specs.declared.found.FileWarnings.{FileWarnings}
use Rattle.report_text.specs.Parts.{severity_name, line_feed}

-- members in the order of their names, as an object has them
abbrev pub warning_data : Warning → Data
warning_data w =
    object (member (codes "column") (number (unsigned w.place.column)) (member (codes "line") (number (unsigned w.place.line)) (member (codes "rule") (string (encode_utf8_all w.rule))
    (member (codes "severity") (string (severity_name w.severity)) (member (codes "text") (string (encode_utf8_all w.text)) no_members)))))

abbrev pub file_data : FileWarnings → Data
file_data f = object (member (codes "source") (string (encode_utf8_all f.name)) (member (codes "warnings") (array (items_of (map warning_data f.warnings.items))) no_members))

-- all files, those without warnings too
unfoldable pub json : List FileWarnings → List ℕ
json files = compact_text (array (items_of (map file_data files))) ++ line_feed
