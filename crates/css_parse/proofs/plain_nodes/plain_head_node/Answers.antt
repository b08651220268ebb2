use Rattle.std.proofs.Common.{arith}
use Rattle.css_parse.specs.Standing.{sheet}
use Rattle.css_parse.proofs.PlainParts.{HeadParts, head-parts}
use Rattle.css_parse.proofs.PlainNodes.{head-made}
use Rattle.css_parse.proofs.plain_nodes.plain_head_node.Goals as goal
use Rattle.css_parse.proofs.plain_nodes.plain_head_node.Goals.{Start}

parts : (c : Start) → HeadParts (sheet c.args.texts) c.args.gap.end c.args.plain.now
parts c = head-parts (sheet c.args.texts) c.args.gap.end c.args.plain.now c.requires.is_sheet c.requires.gap.ends c.requires.plain

pub overflow_cast-end : goal.overflow_cast-end
overflow_cast-end c =
    let p = parts (goal.at.overflow_cast-end c).Start in
    omega (arith, p.between.order, p.short)

pub plain_source-requires : goal.plain_source-requires
plain_source-requires c = (parts (goal.at.plain_source-requires c).Start).selector

pub part-requires-2 : goal.part-requires-2
part-requires-2 c = (parts (goal.at.part-requires-2 c).Start).between

pub returns-clause-node : goal.returns-clause-node
returns-clause-node c run h q a k =
    head-made (sheet c.args.texts) c.args.gap c.args.parent c.args.plain.now run q _ _ _ _ c.requires.is_sheet.utf8 c.requires.gap.ends h k
    c.in_ok-before.ensures c.in_ok-selector.ensures c.in_ok-between.ensures c.open_end.ensures
