use Rattle.std.proofs.Common.{◌∙◌}
use Rattle.visitor_walk.proofs.AsciiCase.{same_star}
use Rattle.visitor_walk.proofs.reads.is_star.Goals as goal

pub returns : goal.returns
returns c = c.eq.ensures ∙ same_star _ c.args.text.now c.as_str.utf8 c.as_str.ensures.characters
