use Rattle.std.proofs.Common.{sym, ◌∙◌, arith}
use Rattle.css_parse.proofs.PlainBrackets.{some-within}
use Rattle.css_parse.proofs.PlainScan.{leaf-unmarked}
use Rattle.css_parse.proofs.plain.leaf_at.Goals as goal

pub returns : goal.returns
returns c =
    leaf-unmarked c.args.bytes.now c.args.at c.args.colon c.in_ok-value.value c.args.end (some-within c.args.bytes.now c.args.end (omega (arith, c.requires.semicolon))) c.requires.scanned c.requires.semicolon c.in_ok-value.ensures (sym c.is_space.ensures ∙ c.if-is_space.false)
