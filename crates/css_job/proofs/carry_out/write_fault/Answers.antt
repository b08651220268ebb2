use Rattle.std.proofs.Common.{ap, ◌∙◌}
use Rattle.std.specs.Str.{chars}
use Rattle.css_job.specs.declared.fault.Fault.TheVariants.{WriteFault}
use Rattle.css_job.proofs.Names.{target_chars}
use Rattle.css_job.proofs.carry_out.write_fault.Goals as goal

pub returns : goal.returns
returns c = ap WriteFault (c.in_ok-name.ensures ∙ ap chars c.target_name.ensures ∙ target_chars c.args.target)
