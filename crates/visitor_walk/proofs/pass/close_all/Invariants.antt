use Rattle.std.proofs.Common.{reverse, length}
use Rattle.visitor_walk.proofs.Closing.{IsClosing}
use Rattle.visitor_walk.proofs.pass.close_all.Given as goal

abbrev pub invariant-loop-visit : goal.invariant-loop-visit
invariant-loop-visit l = IsClosing l.fn.work l.work (reverse l.fn.stack.items) (reverse l.stack.items)

abbrev pub decreases-loop-visit : goal.decreases-loop-visit
decreases-loop-visit l = length l.stack.items
