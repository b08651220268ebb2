use Rattle.std.proofs.Common.{◌∙◌, sym}
use Rattle.std.specs.Str.{chars}
use Rattle.lint_config.proofs.Globs.{with_slash, without_slash}
use Rattle.lint_config.proofs.paths.glob.Goals as goal

pub returns-then-has_slash : goal.returns-then-has_slash
returns-then-has_slash c = c.matches_parts.ensures ∙ with_slash (chars c.args.pattern.now) (chars c.args.path.now) (chars c.without_front-path.result.now) (sym c.has_slash.ensures ∙ c.if-has_slash.true) c.without_front-path.ensures

pub returns-else-has_slash : goal.returns-else-has_slash
returns-else-has_slash c = c.matches_part.ensures ∙ without_slash (chars c.args.pattern.now) (chars c.args.path.now) (chars c.without_front-path.result.now) (chars c.last_part.result.now) (sym c.has_slash.ensures ∙ c.if-has_slash.false) c.without_front-path.ensures c.last_part.ensures
