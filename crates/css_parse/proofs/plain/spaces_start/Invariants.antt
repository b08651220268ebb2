use Rattle.std.proofs.Common.{◌<◌, ◌≤◌}
use Rattle.css_text.specs.Characters.{is_space}
use Rattle.css_text.specs.Shared.{part}
use Rattle.css_tree.specs.Classes.{Each}
use Rattle.css_parse.proofs.plain.spaces_start.Given as goal

abbrev pub invariant-loop-i : goal.invariant-loop-i
invariant-loop-i l = record { behind : l.from < l.i; before : l.i ≤ l.end; class : Each is_space (part l.bytes l.i l.end) }

abbrev pub decreases-loop-i : goal.decreases-loop-i
decreases-loop-i l = l.i
