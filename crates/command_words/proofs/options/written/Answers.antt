use Rattle.std.proofs.Common.{ap, sym, ◌∙◌}
use Rattle.std.specs.Str.{chars}
use Rattle.command_words.specs.Words.{written}
use Rattle.command_words.proofs.options.written.Goals as goal

pub returns-in-Use : goal.returns-in-Use
unfolding chars
returns-in-Use c = ap written (sym c.in-Use.is)

pub returns-in-Budget : goal.returns-in-Budget
unfolding chars
returns-in-Budget c = ap written (sym c.in-Budget.is)

pub returns-in-EditBudget : goal.returns-in-EditBudget
unfolding chars
returns-in-EditBudget c = ap written (sym c.in-EditBudget.is)

pub returns-in-Trace : goal.returns-in-Trace
unfolding chars
returns-in-Trace c = ap written (sym c.in-Trace.is)
