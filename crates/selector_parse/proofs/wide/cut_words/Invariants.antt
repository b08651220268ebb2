use Rattle.std.proofs.Common.{◌≡◌, get_or}
use Rattle.selector_parse.specs.Wide.{value}
use Rattle.selector_parse.proofs.wide.cut_words.Given as goal

abbrev pub invariant-loop-i : goal.invariant-loop-i
invariant-loop-i l = value l.words l.i ≡ get_or l.words 0 0
