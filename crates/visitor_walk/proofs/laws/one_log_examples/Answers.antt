use Rattle.visitor_walk.proofs.OneLogShown.{drops_one, duty_alone}
use Rattle.visitor_walk.proofs.laws.one_log_examples.Goals as goal

pub returns-clause-drops_one : goal.returns-clause-drops_one
returns-clause-drops_one c = drops_one

pub returns-clause-duty_alone : goal.returns-clause-duty_alone
returns-clause-duty_alone c = duty_alone
