use Rattle.std.proofs.Common.{◌+◌, arith}
use Rattle.css_text.specs.Characters.{is_space}
use Rattle.css_parse.proofs.PlainBrackets.{some-within}
use Rattle.css_parse.proofs.PlainScan.{leaf-marked}
use Rattle.css_parse.proofs.PlainSlices.{run-stops}
use Rattle.css_parse.proofs.plain.marked_at.Goals as goal

pub spaces_start-end-requires-clause-solid : goal.spaces_start-end-requires-clause-solid
spaces_start-end-requires-clause-solid c =
    let h = c.in_ok-value.ensures in
    run-stops is_space c.args.bytes.now (c.args.colon + 1) c.in_ok-value.value h.value_is (omega (arith, h.before, c.requires.scanned.run.within))

pub returns : goal.returns
returns c =
    let e = c.spaces_start-end.ensures in
    leaf-marked c.args.bytes.now c.args.at c.args.colon c.in_ok-value.value c.spaces_start-end.result c.args.bang (some-within c.args.bytes.now c.args.bang (omega (arith, c.requires.bang))) c.requires.scanned c.in_ok-value.ensures e.behind (omega (arith, e.before)) e.class e.last
    (c.begins_mark.ensures c.if-not-begins_mark.false)
