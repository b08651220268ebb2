use Rattle.std.proofs.Common.{ap, ◌∙◌}
use Rattle.selector_parse.specs.Names.{takes_list}
use Rattle.selector_parse.proofs.KindBytes.{list_chars}
use Rattle.selector_parse.proofs.names.is_logical_class.Goals as goal

pub returns : goal.returns
returns c = c.takes_list.ensures ∙ ap takes_list c.as_bytes.ensures.value ∙ list_chars c.args.text.now c.utf8.text
