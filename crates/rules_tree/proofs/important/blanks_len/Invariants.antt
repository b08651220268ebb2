use Rattle.std.proofs.Common.{◌≡◌, ◌≤◌, length, drop}
use Rattle.css_text.specs.Ahead.{ahead}
use Rattle.rules_tree.proofs.Blanks.{blank_end}
use Rattle.rules_tree.proofs.important.blanks_len.Given as goal

abbrev pub invariant-blanks : goal.invariant-blanks
invariant-blanks l = (l.at ≤ length l.src) × (blank_end l.at (ahead l.at (drop l.at l.src)).pieces ≡ blank_end 0 (ahead 0 l.src).pieces)

abbrev pub decreases-blanks : goal.decreases-blanks
decreases-blanks l = length (ahead l.at (drop l.at l.src)).pieces
