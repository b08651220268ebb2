use Rattle.sheet_tests.specs.Made.{IsEdited}
use Rattle.sheet_tests.proofs.script.do_steps.Given as goal

abbrev pub invariant-loop-at : goal.invariant-loop-at
invariant-loop-at l = IsEdited l.fn.work l.work
