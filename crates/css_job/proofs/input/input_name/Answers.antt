use Rattle.css_job.proofs.Names.{input_named}
use Rattle.css_job.proofs.input.input_name.Goals as goal

pub returns : goal.returns
returns c = input_named c.new.result c.new.ensures
