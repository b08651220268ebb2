use Rattle.std.proofs.Common.{◌≡◌, ◌++◌, false, drop, map, string_bytes}
use Rattle.serde_json.specs.View.{items_of}
use Rattle.serde_json.specs.Written.{items_text}
use Rattle.report_text.specs.Json.{warning_data}
use Rattle.report_text.proofs.json_text.push_warnings.Given as goal

abbrev pub invariant-loop-warning : goal.invariant-loop-warning
invariant-loop-warning l =
    string_bytes l.fn.to ++ items_text false (items_of (map warning_data l.warnings))
    ≡ string_bytes l.to ++ items_text l.later (items_of (map warning_data (drop l.warning-index l.warnings)))
