use Rattle.sheet_tests.proofs.Answered.{met_by}
use Rattle.sheet_tests.proofs.script.meet.Goals as goal

pub returns : goal.returns
returns c = met_by _ _ _ _ c.do_steps.ensures
