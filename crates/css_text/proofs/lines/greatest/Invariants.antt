use Rattle.std.proofs.Common.{◌≡◌, ◌<◌, take}
use Rattle.std.specs.Prelude.{sum_by}
use Rattle.css_text.specs.Lines.{byte_units}
use Rattle.css_text.proofs.lines.greatest.Given as goal

abbrev pub invariant-loop-b : goal.invariant-loop-b
invariant-loop-b l = l.greatest < 128 → sum_by byte_units (take l.b-index l.bytes) ≡ l.b-index
