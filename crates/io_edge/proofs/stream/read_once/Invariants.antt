use Rattle.std.specs.Io.KnownBytes.{Keeps}
use Rattle.io_edge.proofs.stream.read_once.Given as goal

abbrev pub invariant-tries : goal.invariant-tries
invariant-tries g l = Keeps (g.R.Read.remaining l.fn.stream) (g.R.Read.remaining l.stream)
