use Rattle.std.proofs.Common.{take, map}
use Rattle.css_job.specs.Stages.{piece_of, sinks}
use Rattle.css_job.proofs.Pieces.{SoFar}
use Rattle.css_job.proofs.carry_out.write_each.Given as goal

abbrev pub invariant-loop-write : goal.invariant-loop-write
invariant-loop-write g l = SoFar (map piece_of (take l.write-index l.writes)) (sinks g.O.Sink g.E.Sink l.fn.out l.fn.err) (sinks g.O.Sink g.E.Sink l.out l.err)
