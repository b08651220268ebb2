use Rattle.std.proofs.Common.{◌≡◌, ◌+◌, ◌-◌, ◌≤◌, length, drop}
use Rattle.std.specs.Char.{is_ascii_alphabetic}
use Rattle.std.specs.List.{prefix_len}
use Rattle.rule_sites.proofs.keyframes.letter_count.Given as goal

abbrev pub invariant-loop-letters : goal.invariant-loop-letters
invariant-loop-letters l = (l.letters ≤ length l.name) × (l.letters + prefix_len is_ascii_alphabetic (drop l.letters l.name) ≡ prefix_len is_ascii_alphabetic l.name)

abbrev pub decreases-loop-letters : goal.decreases-loop-letters
decreases-loop-letters l = length l.name - l.letters
