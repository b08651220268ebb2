use Rattle.std.proofs.Common.{◌<◌, ◌*◌, ◌/◌, length, arith}
use Rattle.css_text.proofs.BlockSteps.{units_split}
use Rattle.css_text.proofs.blocks.units_before.Goals as goal

pub returns-clause-value : goal.returns-clause-value
returns-clause-value c =
    let k = c.args.at / 256 in
    let inside : k < length c.args.table.now = omega (arith, c.requires.blocks.whole) in
    omega (arith, c.requires.blocks.counts.each k inside, units_split c.args.bytes.now (k * 256) c.args.at (omega arith), c.utf16_units.ensures.value)
