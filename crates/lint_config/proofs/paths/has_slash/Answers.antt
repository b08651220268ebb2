use Rattle.lint_config.proofs.Slashes.{contains_slash}
use Rattle.lint_config.proofs.paths.has_slash.Goals as goal

pub returns : goal.returns
returns c = contains_slash c.args.text.now c.contains.result c.utf8.text c.contains.ensures.cases
