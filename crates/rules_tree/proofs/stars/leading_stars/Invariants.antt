use Rattle.std.proofs.Common.{◌≡◌, ◌+◌, ◌-◌, ◌≤◌, length, drop}
use Rattle.rules_tree.specs.CommentWhitespaceInside.{stars}
use Rattle.rules_tree.proofs.stars.leading_stars.Given as goal

abbrev pub invariant-loop-count : goal.invariant-loop-count
invariant-loop-count l = (l.count ≤ length l.s) × (l.count + stars (drop l.count l.s) ≡ stars l.s)

abbrev pub decreases-loop-count : goal.decreases-loop-count
decreases-loop-count l = length l.s - l.count
