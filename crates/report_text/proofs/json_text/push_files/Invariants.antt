use Rattle.std.proofs.Common.{◌≡◌, ◌++◌, false, drop, map, string_bytes}
use Rattle.serde_json.specs.View.{items_of}
use Rattle.serde_json.specs.Written.{items_text}
use Rattle.report_text.specs.Json.{file_data}
use Rattle.report_text.proofs.json_text.push_files.Given as goal

abbrev pub invariant-loop-file : goal.invariant-loop-file
invariant-loop-file l =
    string_bytes l.fn.to ++ items_text false (items_of (map file_data l.files))
    ≡ string_bytes l.to ++ items_text l.later (items_of (map file_data (drop l.file-index l.files)))
