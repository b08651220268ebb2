use Rattle.std.proofs.Common.{arith}
use Rattle.css_parse.specs.Standing.{sheet}
use Rattle.css_parse.proofs.NodeParts.{behind-split}
use Rattle.css_parse.proofs.nodes.leaf_node.Goals as goal

pub at_rule-requires-clause-behind : goal.at_rule-requires-clause-behind
at_rule-requires-clause-behind c = behind-split (sheet c.args.texts) c.args.gap c.args.run.now c.index-run-0.result (omega (arith, c.requires.some)) c.index-run-0.is c.requires.behind

pub declaration-requires : goal.declaration-requires
declaration-requires c = behind-split (sheet c.args.texts) c.args.gap c.args.run.now c.index-run-0.result (omega (arith, c.requires.some)) c.index-run-0.is c.requires.behind
