use Rattle.std.proofs.Common.{◌≡◌, ◌+◌, ◌*◌, ◌∷◌, [], length, take, ap, ◌∙◌, arith, length-append}
use Rattle.std.specs.Prelude.{sum_by}
use Rattle.css_text.specs.Lines.{byte_units}
use Rattle.css_text.proofs.BlockSteps.{units_split, CountsUnits-push}
use Rattle.css_text.proofs.blocks.block_units.Goals as goal

pub loop-at-preserved : goal.loop-at-preserved
loop-at-preserved c =
    let bs = c.args.bytes.now in
    let at = c.loop-at.at in
    let table = c.loop-at.table.items in
    let n = c.loop-at.units + c.utf16_units-units.result in
    let grown = c.in_ok-push-2.ensures.items in
    let size = ap length grown ∙ length-append table (n ∷ []) in
    let split = units_split bs at (at + 256) (omega arith) in
    let total : n ≡ sum_by byte_units (take (at + 256) bs) = omega (arith, split, c.utf16_units-units.ensures.value, c.loop-at.invariant.2) in
    let here : at + 256 ≡ length table * 256 = omega (arith, c.loop-at.invariant.1) in (
      omega arith,
      omega (arith, size, here),
      total,
      omega arith,
      CountsUnits-push table bs _ n c.loop-at.invariant.4 grown (total ∙ ap (λ m. sum_by byte_units (take m bs)) here) (omega arith),
    )
