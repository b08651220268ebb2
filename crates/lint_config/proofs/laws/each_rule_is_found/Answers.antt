use Rattle.lint_config.proofs.SoundSettings.{named_as_such}
use Rattle.lint_config.proofs.laws.each_rule_is_found.Goals as goal

pub returns : goal.returns
returns c = named_as_such
