use Rattle.lint_config.proofs.Names.{last_counts as law}
use Rattle.lint_config.proofs.laws.last_counts.Goals as goal

pub returns : goal.returns
returns c = law
