use Rattle.css_job.proofs.SameShelves.{one_command}
use Rattle.css_job.proofs.laws.one_command.Goals as goal

pub returns : goal.returns
returns c = one_command
