use Rattle.std.proofs.Common.{◌≡◌, filter}
use Rattle.css_text.specs.Characters.{is_space}
use Rattle.stringify.specs.Sheet.{put}
use Rattle.stringify.proofs.output.Output.push_spaces.Given as goal

abbrev pub invariant-loop-c : goal.invariant-loop-c
invariant-loop-c l = l.self ≡ put (filter is_space l.yielded) l.fn.self
