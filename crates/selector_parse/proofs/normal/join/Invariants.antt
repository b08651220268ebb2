use Rattle.std.proofs.Common.{◌≡◌, ◌++◌, drop, map, true}
use Rattle.std.specs.String.{string_bytes}
use Rattle.selector_parse.proofs.normal.join.Given as goal
use Rattle.selector_parse.specs.Row.{rest_joined}

abbrev pub invariant-loop-text : goal.invariant-loop-text
invariant-loop-text l = string_bytes l.joint ++ rest_joined l.is_first (map string_bytes (drop l.text-index l.texts)) ≡ rest_joined true (map string_bytes l.texts)
