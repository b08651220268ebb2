use Rattle.std.proofs.Common.{◌≡◌, ◌∷◌, replicate}
use Rattle.stringify.specs.Sheet.{put}
use Rattle.stringify.proofs.output.Output.push_new_line.Given as goal

abbrev pub invariant-loop-i : goal.invariant-loop-i
invariant-loop-i l = l.self ≡ put (10 ∷ replicate l._i 32) l.fn.self
