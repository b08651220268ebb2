use Rattle.std.proofs.Common.{arith, refl}
use Rattle.source_map.proofs.Lines.{rise_more, rise_all}
use Rattle.source_map.proofs.writing.lines_rise.Goals as goal

pub loop-i-preserved : goal.loop-i-preserved
loop-i-preserved c = record { begun = omega arith; so_far = rise_more _ _ _ _ c.loop-i.invariant.begun c.loop-i-test.true c.loop-i.invariant.so_far c.if-segments-i.false }

pub returns : goal.returns
returns c = (λ t. rise_all _ _ c.loop-i-test.false c.loop-i.invariant.so_far, λ h. refl)
