use Rattle.std.proofs.Common.{Ok}
use Rattle.sheet_tests.proofs.Answered.{answered, answered_new, edited_then}
use Rattle.sheet_tests.proofs.deeds.insert_clone.Goals as goal

pub returns : goal.returns
returns c = edited_then _ _ _ (answered_new _ _ _ (Ok c.in_ok-copy.copy) c.in_ok-copy.ensures) (answered _ _ _ _ c.insert_after.ensures)
