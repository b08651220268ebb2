use Rattle.std.proofs.Common.{◌≡◌, ◌++◌, drop}
use Rattle.std.specs.Str.{chars}
use Rattle.std.specs.String.{string_bytes}
use Rattle.css_text.specs.ValueParts.{written}
use Rattle.value_parse.specs.Tree.{parts_of}
use Rattle.plugin_api.specs.Effect.{shortened}
use Rattle.transforms.proofs.short_hex.+write.Given as goal

abbrev pub invariant-write_parts-loop-part : goal.invariant-write_parts-loop-part
invariant-write_parts-loop-part l =
    chars (string_bytes l.text) ++ written (shortened (parts_of (drop l.part-index l.parts))) ≡ chars (string_bytes l.initial.text) ++ written (shortened (parts_of l.parts))
