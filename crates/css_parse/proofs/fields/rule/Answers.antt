use Rattle.std.proofs.Common.{◌-◌, length, ap, ◌∙◌}
use Rattle.css_tree.specs.Pieces.{join}
use Rattle.css_parse.specs.Standing.{sheet, gap_text}
use Rattle.css_parse.proofs.FieldTexts.{rule_made, rest-from}
use Rattle.css_parse.proofs.Standing.{behind-parts, parts-take, parts-between}
use Rattle.css_parse.proofs.NodeParts.{gap-made}
use Rattle.css_parse.proofs.fields.rule.Goals as goal

pub part-requires : goal.part-requires
part-requires c = c.requires.gap

pub text_of-requires : goal.text_of-requires
text_of-requires c = parts-take (sheet c.args.texts) c.solid_len-end.result c.args.run.now (behind-parts (sheet c.args.texts) c.args.before c.args.run.now c.requires)

pub text_of-requires-2 : goal.text_of-requires-2
text_of-requires-2 c =
    parts-between (sheet c.args.texts) c.solid_len-end.result (length c.args.run.now - c.solid_len-end.result) c.args.run.now (behind-parts (sheet c.args.texts) c.args.before c.args.run.now c.requires)

pub returns : goal.returns
returns c =
    rule_made (gap_text (sheet c.args.texts) c.args.before) c.args.run.now c.args.block c.solid_len-end.result _ _ _ _ (c.in_ok-before.ensures ∙ (gap-made (sheet c.args.texts) c.args.before c.args.run.now c.requires).text)
    c.in_ok-source.ensures c.in_ok-selector.ensures (c.in_ok-between.ensures ∙ ap join (rest-from c.solid_len-end.result c.args.run.now)) c.solid_len-end.ensures.front c.solid_len-end.ensures.back
