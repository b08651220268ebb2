use Rattle.std.proofs.iter.Serving.{serving}
use Rattle.visitor_walk.proofs.known.taken_out.Goals as goal

pub returns-clause-value : goal.returns-clause-value
returns-clause-value c = grind serving
