use Rattle.std.proofs.Common.{◌≡◌, take, string_bytes}
use Rattle.css_job.specs.Trace.{trace}
use Rattle.css_job.specs.ShelfSeen.{shelf_names}
use Rattle.css_job.proofs.transform.trace.trace.Given as goal

abbrev pub invariant-loop-item : goal.invariant-loop-item
invariant-loop-item g l = string_bytes l.text ≡ trace (shelf_names l.shelf.items) (take l.item-index l.log)
