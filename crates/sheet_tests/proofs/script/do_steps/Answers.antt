use Rattle.sheet_tests.proofs.Answered.{edited_then}
use Rattle.sheet_tests.proofs.script.do_steps.Goals as goal

pub returns-in_err-do_step : goal.returns-in_err-do_step
returns-in_err-do_step c = edited_then _ _ _ c.loop-at.invariant c.in_err-do_step.ensures

pub loop-at-preserved : goal.loop-at-preserved
loop-at-preserved c = edited_then _ _ _ c.loop-at.invariant c.in_ok-do_step.ensures
