use Rattle.std.proofs.Common.{◌∙◌, ◌++◌, ap, false, map, string_bytes}
use Rattle.serde_json.specs.View.{items_of}
use Rattle.serde_json.specs.Written.{items_text}
use Rattle.report_text.specs.Json.{warning_data}
use Rattle.report_text.proofs.Texts.{file_whole}
use Rattle.report_text.proofs.json_text.push_file.Goals as goal

pub returns : goal.returns
returns c = file_whole c.args.file.now _ _ _ _ _ _ c.in_ok-push_str.ensures.bytes c.in_ok-push_string.ensures c.in_ok-push_str-2.ensures.bytes (c.in_ok-push_warnings.ensures ∙ ap (λ z. string_bytes c.push_str-2.new.self ++ items_text false (items_of (map warning_data z))) c.as_slice.ensures.value) c.in_ok-push_str-3.ensures.bytes
