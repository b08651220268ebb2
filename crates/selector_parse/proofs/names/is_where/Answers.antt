use Rattle.std.proofs.Common.{ap, ◌∙◌}
use Rattle.selector_parse.specs.Worth.{is_where}
use Rattle.selector_parse.proofs.KindBytes.{where_chars}
use Rattle.selector_parse.proofs.names.is_where.Goals as goal

pub returns : goal.returns
returns c = c.spells_where.ensures ∙ ap is_where c.as_bytes.ensures.value ∙ where_chars c.args.text.now c.utf8.text
