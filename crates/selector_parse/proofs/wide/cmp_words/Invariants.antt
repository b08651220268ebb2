use Rattle.std.proofs.Common.{◌≡◌}
use Rattle.std.specs.Ordering.{nat_cmp}
use Rattle.selector_parse.specs.Wide.{value}
use Rattle.selector_parse.proofs.wide.cmp_words.Given as goal

abbrev pub invariant-loop-i : goal.invariant-loop-i
invariant-loop-i l = l.order ≡ nat_cmp (value l.x l.i) (value l.y l.i)
