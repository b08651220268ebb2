use Rattle.std.proofs.Common.{ap, ◌∙◌}
use Rattle.selector_parse.specs.Worth.{names_all}
use Rattle.selector_parse.proofs.Stars.{all_chars}
use Rattle.selector_parse.proofs.specificity.names_all.Goals as goal

pub returns : goal.returns
returns c = c.spells_all.ensures ∙ ap names_all c.as_bytes.ensures.value ∙ all_chars c.args.text.now c.utf8.text
