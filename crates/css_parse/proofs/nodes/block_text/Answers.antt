use Rattle.css_parse.specs.Standing.{sheet}
use Rattle.css_parse.proofs.NodeParts.{behind-split}
use Rattle.css_parse.proofs.nodes.block_text.Goals as goal

pub at_rule-requires-clause-behind : goal.at_rule-requires-clause-behind
at_rule-requires-clause-behind c = behind-split (sheet c.args.texts) c.args.gap c.args.run.now c.word-item.result c.in-len1-up.len_at_least c.word-item.is c.requires
