use Rattle.std.proofs.Common.{Ok}
use Rattle.sheet_tests.proofs.Answered.{answered, answered_new, edited_then}
use Rattle.sheet_tests.proofs.deeds.append_rule.Goals as goal

pub returns : goal.returns
returns c = edited_then _ _ _ (answered_new _ _ _ (Ok c.in_ok-made.made) c.in_ok-made.ensures) (answered _ _ _ _ c.append.ensures)
