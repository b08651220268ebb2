use Rattle.std.proofs.Common.{ap, ◌∙◌, arith}
use Rattle.css_tree.specs.Pieces.{end_of}
use Rattle.css_parse.proofs.Standing.{end-none, last-at}
use Rattle.css_parse.proofs.texts.last_end.Goals as goal

pub returns-in-empty : goal.returns-in-empty
returns-in-empty c = end-none c.args.byte c.args.pieces.now c.in-empty.len_below

pub returns-in-len1-up : goal.returns-in-len1-up
returns-in-len1-up c = c.end.ensures.value ∙ (ap end_of c.last-item.is ∙ last-at c.args.byte c.args.pieces.now c.last-item.result (omega (arith, c.in-len1-up.len_at_least)))
