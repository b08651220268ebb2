use Rattle.std.proofs.Common.{◌≡◌, ◌+◌, ◌≤◌, length, take, reverse}
use Rattle.rules_tree.specs.CommentWhitespaceInside.{stars}
use Rattle.rules_tree.proofs.stars.trailing_stars_start.Given as goal

abbrev pub invariant-loop-start : goal.invariant-loop-start
invariant-loop-start l = (l.start ≤ length l.s) × (l.start + stars (reverse l.s) ≡ length l.s + stars (reverse (take l.start l.s)))

abbrev pub decreases-loop-start : goal.decreases-loop-start
decreases-loop-start l = l.start
