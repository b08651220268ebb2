-- Whether a call is refused.
use Rattle.std.specs.Prelude.{Bool, List, Result}
use Rattle.node_store.specs.declared.fault.TreeFault.{TreeFault}
use Rattle.edit_calls.specs.Plans.{plan}

-- the refusals of a plan alone, with nothing to be done
abbrev pub checked : List (Bool × TreeFault) → Result (Unit {0}) TreeFault
checked rs = plan rs tt
