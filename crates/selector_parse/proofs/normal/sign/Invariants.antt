use Rattle.std.proofs.Common.{◌≡◌, drop}
use Rattle.selector_parse.specs.Reading.{read_sign, sign_from}
use Rattle.selector_parse.proofs.normal.sign.Given as goal

abbrev pub invariant-loop-b : goal.invariant-loop-b
invariant-loop-b l = sign_from l.reading (drop l.b-index l.s) ≡ read_sign l.s
