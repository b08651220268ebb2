use Rattle.std.proofs.Common.{refl}
use lib.Utf8.{encode}
use Rattle.std.specs.Fmt.{digits}
use Rattle.css_job.specs.Trace.{trace, caller}
use Rattle.css_job.proofs.transform.trace_laws.trace_examples.Goals as goal

pub returns-clause-dropped : goal.returns-clause-dropped
unfolding encode digits trace
returns-clause-dropped c = refl

pub returns-clause-edited : goal.returns-clause-edited
unfolding encode digits trace
returns-clause-edited c = refl

pub returns-clause-names : goal.returns-clause-names
unfolding encode digits trace
returns-clause-names c = (refl, refl, refl)

pub returns-clause-spelt : goal.returns-clause-spelt
returns-clause-spelt c = (refl, refl, refl)

pub returns-clause-caller : goal.returns-clause-caller
unfolding caller
returns-clause-caller c = (refl, refl, refl)
