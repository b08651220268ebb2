use Rattle.std.proofs.Common.{arith}
use Rattle.std.proofs.lemmas.Grind.{common_steps}
use Rattle.std.proofs.lemmas.Str.{chars-nil}
use Rattle.css_job.proofs.transform.trace.plugin_name.Goals as goal

pub returns-in-None-clause-characters : goal.returns-in-None-clause-characters
returns-in-None-clause-characters g c = grind (arith, common_steps, chars-nil)
