use Rattle.std.specs.String.{string_bytes}
use Rattle.source_map.proofs.Lines.{IsWrittenUpTo}
use Rattle.source_map.proofs.writing.mappings.Given as goal

abbrev pub invariant-loop-segment : goal.invariant-loop-segment
invariant-loop-segment l = IsWrittenUpTo l.segment-items l.segment-index l.last (string_bytes l.text)
