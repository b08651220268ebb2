use Rattle.std.proofs.Common.{refl}
use Rattle.std.specs.Str.{chars}
use Rattle.css_job.proofs.lint.warning.Warning.empty_block.Goals as goal

pub returns : goal.returns
unfolding chars
returns c = refl
