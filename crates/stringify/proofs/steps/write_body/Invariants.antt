use Rattle.std.proofs.Common.{◌≡◌, ◌+◌, MatchOption, Some, None}
use Rattle.stringify.specs.Sheet.{with_body}
use Rattle.stringify.specs.Follows.{IsStep, remaining, to_go}
use Rattle.stringify.proofs.steps.write_body.Given as goal

abbrev pub invariant-loop-at : goal.invariant-loop-at
invariant-loop-at l =
    MatchOption l.at
    (l.out ≡ with_body l.work.nodes l.fn.n l.fn.out)
    (λ s. IsStep l.work.nodes l.fn.n s × (remaining l.work.nodes l.fn.n s l.out ≡ with_body l.work.nodes l.fn.n l.fn.out))

abbrev pub decreases-loop-at : goal.decreases-loop-at
decreases-loop-at l = elim l.at [ None ↦ 0 | Some s ↦ 1 + to_go l.work.nodes l.fn.n s ]
