use Rattle.sheet_tests.proofs.Answered.{answered, answered_new}
use Rattle.sheet_tests.proofs.deeds.carry_out.Goals as goal

pub returns-in-MakeRule : goal.returns-in-MakeRule
returns-in-MakeRule c = answered_new _ _ _ _ c.new_rule.ensures

pub returns-in-SetProp : goal.returns-in-SetProp
returns-in-SetProp c = answered _ _ _ _ c.set_prop.ensures

pub returns-in-InsertBefore : goal.returns-in-InsertBefore
returns-in-InsertBefore c = answered _ _ _ _ c.insert_before.ensures

pub returns-in-InsertAfter : goal.returns-in-InsertAfter
returns-in-InsertAfter c = answered _ _ _ _ c.insert_after.ensures

pub returns-in-Append : goal.returns-in-Append
returns-in-Append c = answered _ _ _ _ c.append.ensures

pub returns-in-Remove : goal.returns-in-Remove
returns-in-Remove c = answered _ _ _ _ c.remove.ensures.answer
