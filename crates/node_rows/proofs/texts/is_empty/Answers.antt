use Rattle.std.proofs.Common.{◌∙◌}
use Rattle.node_rows.proofs.SameText.{empty_chars}
use Rattle.node_rows.proofs.texts.is_empty.Goals as goal

pub returns : goal.returns
returns c = c.is_empty.ensures ∙ empty_chars c.args.s.now c.utf8.s
