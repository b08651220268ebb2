use Rattle.std.proofs.KnownBytes.{Keeps-refl, Keeps-trans}
use Rattle.io_edge.proofs.Kept.{read_after}
use Rattle.io_edge.proofs.stream.read_once.Goals as goal

pub tries-init : goal.tries-init
tries-init g c = Keeps-refl _

pub tries-preserved : goal.tries-preserved
tries-preserved g c = Keeps-trans _ _ _ c.tries.invariant c.in-Err.ensures.bytes
