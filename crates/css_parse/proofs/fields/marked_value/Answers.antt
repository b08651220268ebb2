use Rattle.std.proofs.Common.{refl}
use Rattle.css_parse.proofs.FieldTexts.{value_marked}
use Rattle.css_parse.proofs.NodeParts.{mark-inside}
use Rattle.css_parse.proofs.fields.marked_value.Goals as goal

pub value_len-end-requires : goal.value_len-end-requires
value_len-end-requires c = mark-inside c.args.mark.now c.args.body.now c.requires.mark.at

pub value_text-requires : goal.value_text-requires
value_text-requires c = record { parts = c.requires.parts; mark = c.requires.mark.at; end = c.value_len-end.ensures }

pub mark_text-requires : goal.mark_text-requires
mark_text-requires c = record { parts = c.requires.parts; mark = c.requires.mark.at; end = c.value_len-end.ensures }

pub returns : goal.returns
returns c = value_marked c.args.mark.now c.args.body.now c.value_len-end.result _ c.in_ok-text.text c.requires.mark c.value_len-end.ensures c.in_ok-source.ensures c.in_ok-text.ensures refl c.in_ok-important_raw.ensures
