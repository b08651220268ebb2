use Rattle.std.proofs.Common.{arith}
use Rattle.lint_config.proofs.Items.{too_many}
use Rattle.lint_config.proofs.options.mode_of_items.Goals as goal

pub returns-in_default-2 : goal.returns-in_default-2
returns-in_default-2 c = too_many c.args.primary c.args.items.now (omega arith)
