use Rattle.std.proofs.Common.{arith}
use Rattle.std.proofs.lemmas.Grind.{common_steps}
use Rattle.source_map.proofs.Digits.{pushed_digit, pushed_last}
use Rattle.source_map.proofs.vlq.push_number.Goals as goal

pub loop-rest-preserved : goal.loop-rest-preserved
loop-rest-preserved c = record { small = omega arith; same = pushed_digit _ _ _ c.loop-rest.rest c.loop-rest-test.true c.loop-rest.invariant.small (grind (arith, common_steps, c.in_ok-push.ensures.ascii, c.in_ok-push.ensures.bytes, c.digit_code.ensures.value)) c.loop-rest.invariant.same }

pub returns : goal.returns
returns c = pushed_last _ _ _ c.loop-rest.rest (omega arith) (grind (arith, common_steps, c.in_ok-push-2.ensures.ascii, c.in_ok-push-2.ensures.bytes, c.digit_code-2.ensures.value)) c.loop-rest.invariant.same
