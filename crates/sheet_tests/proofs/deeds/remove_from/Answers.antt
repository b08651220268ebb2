use Rattle.std.proofs.Common.{Ok}
use Rattle.sheet_tests.proofs.Answered.{answered, edited_then}
use Rattle.sheet_tests.proofs.deeds.remove_from.Goals as goal

pub returns : goal.returns
returns c = edited_then _ _ _ (answered _ _ _ (Ok tt) c.in_ok-remove.ensures.answer) (answered _ _ _ _ c.append.ensures)
