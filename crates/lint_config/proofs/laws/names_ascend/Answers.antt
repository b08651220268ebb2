use Rattle.lint_config.proofs.Names.{names_ascend as law}
use Rattle.lint_config.proofs.laws.names_ascend.Goals as goal

pub returns : goal.returns
returns c = law
