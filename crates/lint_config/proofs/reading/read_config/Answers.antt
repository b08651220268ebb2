use Rattle.serde_json.specs.View.{view}
use Rattle.lint_config.proofs.SoundRead.{config_sound}
use Rattle.lint_config.proofs.reading.read_config.Goals as goal

pub invariant_of-result : goal.invariant_of-result
invariant_of-result c = config_sound (view c.in-Ok.value) _ c.in_ok-contents-in-Ok.ensures
