use Rattle.std.proofs.Common.{◌≡◌, ◌++◌, drop, true}
use Rattle.std.specs.Str.{chars}
use Rattle.std.specs.String.{string_bytes}
use Rattle.selector_parse.specs.Tree.{written}
use Rattle.selector_parse.specs.Row.{complex_parts, rest_list}
use Rattle.selector_parse.proofs.print.+write.Given as goal

abbrev pub invariant-write_parts-loop-part : goal.invariant-write_parts-loop-part
invariant-write_parts-loop-part l =
    chars (string_bytes l.text) ++ written (complex_parts (drop l.part-index l.parts)) ≡ chars (string_bytes l.initial.text) ++ written (complex_parts l.parts)

abbrev pub invariant-write_list-loop-complex : goal.invariant-write_list-loop-complex
invariant-write_list-loop-complex l =
    chars (string_bytes l.text) ++ written (rest_list l.is_first (drop l.complex-index l.list)) ≡ chars (string_bytes l.initial.text) ++ written (rest_list true l.list)
