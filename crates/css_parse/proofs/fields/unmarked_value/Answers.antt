use Rattle.std.proofs.Common.{refl}
use Rattle.css_parse.proofs.FieldTexts.{value_unmarked}
use Rattle.css_parse.proofs.fields.unmarked_value.Goals as goal

pub returns : goal.returns
returns c = value_unmarked c.args.body.now _ c.in_ok-text.text c.requires.unmarked c.in_ok-source.ensures c.in_ok-text.ensures refl c.in_ok-important_raw.ensures
