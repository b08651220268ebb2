use Rattle.std.proofs.Common.{◌≡◌, ◌++◌, drop, map, true}
use Rattle.std.specs.Str.{chars}
use Rattle.std.specs.String.{string_bytes}
use Rattle.selector_parse.specs.Normal.{all_of, normal_of_part, normal_of_complex}
use Rattle.selector_parse.proofs.normal.+normal.Given as goal
use Rattle.selector_parse.specs.Row.{rest_joined}

abbrev pub invariant-write_parts-loop-part : goal.invariant-write_parts-loop-part
invariant-write_parts-loop-part l =
    chars (string_bytes l.text) ++ all_of (map normal_of_part (drop l.part-index l.parts)) ≡ chars (string_bytes l.initial.text) ++ all_of (map normal_of_part l.parts)

abbrev pub invariant-write_list-loop-complex : goal.invariant-write_list-loop-complex
invariant-write_list-loop-complex l =
    chars (string_bytes l.text) ++ rest_joined l.is_first (map normal_of_complex (drop l.complex-index l.list)) ≡ chars (string_bytes l.initial.text) ++ rest_joined true (map normal_of_complex l.list)
