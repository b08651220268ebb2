use Rattle.css_job.specs.declared.fault.Fault.TheVariants.{NotUtf8, Syntax, BudgetSpent, EditBudgetSpent}
use Rattle.css_job.proofs.Lines.{line_is}
use Rattle.css_job.proofs.fault.fault_text.Goals as goal

pub returns-in-NotUtf8 : goal.returns-in-NotUtf8
returns-in-NotUtf8 c = line_is c.wrong_text.result c.args.plugin.now (NotUtf8 c.in-NotUtf8.name c.in-NotUtf8.at) c.args.fault.now c.in-NotUtf8.is c.wrong_text.ensures

pub returns-in-Syntax : goal.returns-in-Syntax
returns-in-Syntax c = line_is c.syntax_text.result c.args.plugin.now (Syntax c.in-Syntax.name c.in-Syntax.fault) c.args.fault.now c.in-Syntax.is c.syntax_text.ensures

pub returns-in-BudgetSpent : goal.returns-in-BudgetSpent
returns-in-BudgetSpent c = line_is c.budget_text.result c.args.plugin.now (BudgetSpent c.in-BudgetSpent.calls c.in-BudgetSpent.next) c.args.fault.now c.in-BudgetSpent.is c.budget_text.ensures

pub returns-in-EditBudgetSpent : goal.returns-in-EditBudgetSpent
returns-in-EditBudgetSpent c = line_is c.edit_budget_text.result c.args.plugin.now (EditBudgetSpent c.in-EditBudgetSpent.edits c.in-EditBudgetSpent.budget c.in-EditBudgetSpent.at) c.args.fault.now c.in-EditBudgetSpent.is c.edit_budget_text.ensures
