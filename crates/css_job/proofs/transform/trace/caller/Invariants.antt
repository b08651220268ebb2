use Rattle.std.proofs.Common.{◌≡◌, length}
use Rattle.css_job.specs.Trace.{caller}
use Rattle.css_job.specs.ShelfSeen.{shelf_names}
use Rattle.css_job.proofs.transform.trace.caller.Given as goal

abbrev pub decreases-loop-item : goal.decreases-loop-item
decreases-loop-item g l = length l.before

abbrev pub invariant-loop-item : goal.invariant-loop-item
invariant-loop-item g l = caller (shelf_names l.shelf.items) l.before ≡ caller (shelf_names l.shelf.items) l.log
