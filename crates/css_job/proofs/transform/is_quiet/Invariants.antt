use Rattle.std.proofs.Common.{take}
use Rattle.visitor_machine.specs.Calls.{IsQuiet}
use Rattle.css_job.proofs.transform.is_quiet.Given as goal

abbrev pub invariant-loop-item : goal.invariant-loop-item
invariant-loop-item l = IsQuiet (take l.item-index l.log)
