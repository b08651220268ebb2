use Rattle.std.proofs.Common.{arith}
use Rattle.css_parse.proofs.PlainBrackets.{run-more}
use Rattle.css_parse.proofs.plain.brackets_end.Goals as goal

pub loop-behind-preserved : goal.loop-behind-preserved
loop-behind-preserved c =
    let next = c.flat_end-i.ensures in (
      omega (arith, c.in-Some.ensures.few, next.value),
      run-more c.args.bytes.now c.args.from c.loop-behind.i c.flat_end-i.result c.loop-behind.depth c.in-Some.behind c.loop-behind.invariant.1 c.in-Some.ensures.run next.value next.within,
    )
