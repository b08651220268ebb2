use Rattle.std.proofs.Common.{◌≡◌, ◌++◌, drop, map}
use Rattle.std.specs.String.{string_bytes}
use Rattle.selector_parse.specs.Normal.{normal_bytes}
use Rattle.selector_parse.proofs.normal.normal_texts.Given as goal

abbrev pub invariant-loop-complex : goal.invariant-loop-complex
invariant-loop-complex l = map string_bytes l.texts.items ++ map normal_bytes (drop l.complex-index l.list) ≡ map normal_bytes l.list
