use Rattle.std.proofs.Common.{◌≡◌, ◌++◌, length}
use denote.Text.{Utf8}
use denote.Shadow.{shadow}
use Rattle.std.specs.Str.{chars}
use Rattle.std.specs.String.{string_bytes}
use Rattle.transforms.specs.Hex.{firsts}
use Rattle.transforms.proofs.hex.push_firsts.Given as goal

abbrev pub invariant-loop-first : goal.invariant-loop-first
invariant-loop-first l = shadow (Utf8 l.rest) × (chars (string_bytes l.text) ++ firsts (chars l.rest) ≡ chars (string_bytes l.initial.text) ++ firsts (chars l.fn.digits))

abbrev pub decreases-loop-first : goal.decreases-loop-first
decreases-loop-first l = length (chars l.rest)
