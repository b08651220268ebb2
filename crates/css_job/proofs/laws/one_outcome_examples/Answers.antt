use Rattle.css_job.proofs.OneOutcomeShown.{told_alone, duty_counts, drop_owes, free_owes_none}
use Rattle.css_job.proofs.laws.one_outcome_examples.Goals as goal

pub returns-clause-told_alone : goal.returns-clause-told_alone
returns-clause-told_alone c = told_alone

pub returns-clause-duty_counts : goal.returns-clause-duty_counts
returns-clause-duty_counts c = duty_counts

pub returns-clause-drop_owes : goal.returns-clause-drop_owes
returns-clause-drop_owes c = drop_owes

pub returns-clause-free_owes_none : goal.returns-clause-free_owes_none
returns-clause-free_owes_none c = free_owes_none
