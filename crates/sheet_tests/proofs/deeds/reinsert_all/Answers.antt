use Rattle.sheet_tests.proofs.Answered.{edited_then}
use Rattle.sheet_tests.proofs.deeds.reinsert_all.Goals as goal

pub returns-in_err-reinsert-2 : goal.returns-in_err-reinsert-2
returns-in_err-reinsert-2 c = edited_then _ _ _ c.reinsert.ensures c.reinsert-2.ensures

pub returns : goal.returns
returns c = edited_then _ _ _ (edited_then _ _ _ c.reinsert.ensures c.reinsert-2.ensures) c.reinsert-3.ensures
