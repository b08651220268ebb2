use Rattle.std.proofs.Common.{◌∙◌, ◌++◌, take, rules}
use Rattle.std.proofs.KnownBytes.{Consumes-trans}
use Rattle.io_edge.proofs.Given.{within_chunk}
use Rattle.io_edge.proofs.whole.read_all.Goals as goal

pub returns-in-Err-extend_from_slice : goal.returns-in-Err-extend_from_slice
returns-in-Err-extend_from_slice g c =
    (c.chunks.bytes.items ++ take c.in-Ok.count c.read.new.buf, Consumes-trans _ _ _ _ _ c.chunks.invariant.given c.in-Ok.ensures.bytes.0, c.in-Ok.ensures.cause ∙ c.chunks.invariant.no_fault, within_chunk _ _ _ _ _ c.chunks.invariant.few (search rules) (search rules))
