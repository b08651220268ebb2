use Rattle.std.proofs.Common.{◌∙◌}
use Rattle.lint_config.proofs.Globs.{double_star}
use Rattle.lint_config.proofs.paths.is_double_star.Goals as goal

pub returns : goal.returns
returns c = c.eq.ensures ∙ double_star c.args.part.now c.utf8.part
