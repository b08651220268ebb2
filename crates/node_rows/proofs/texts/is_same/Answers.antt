use Rattle.std.proofs.Common.{◌∙◌}
use Rattle.node_rows.proofs.SameText.{same_chars}
use Rattle.node_rows.proofs.texts.is_same.Goals as goal

pub returns : goal.returns
returns c = c.eq.ensures ∙ same_chars _ c.args.s.now c.args.text.now c.as_str.utf8 c.utf8.s c.as_str.ensures.characters
