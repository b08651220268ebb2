use Rattle.std.proofs.Common.{◌-◌, length}
use Rattle.std.specs.Str.{chars}
use Rattle.css_parse.specs.Going.{Going}
use Rattle.css_parse.proofs.read.read_pieces.Given as goal

abbrev pub invariant-statements : goal.invariant-statements
invariant-statements l = Going (chars l.src) l.src l.at l.parser

abbrev pub decreases-statements : goal.decreases-statements
decreases-statements l = length l.src - l.at
