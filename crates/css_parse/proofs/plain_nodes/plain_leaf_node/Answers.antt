use Rattle.std.proofs.Common.{arith}
use Rattle.css_parse.specs.Standing.{sheet}
use Rattle.css_parse.proofs.PlainParts.{LeafParts, leaf-parts}
use Rattle.css_parse.proofs.PlainNodes.{leaf-made}
use Rattle.css_parse.proofs.plain_nodes.plain_leaf_node.Goals as goal
use Rattle.css_parse.proofs.plain_nodes.plain_leaf_node.Goals.{Start}

parts : (c : Start) → LeafParts (sheet c.args.texts) c.args.gap.end c.args.plain.now
parts c = leaf-parts (sheet c.args.texts) c.args.gap.end c.args.plain.now c.requires.is_sheet c.requires.gap.ends c.requires.plain

pub overflow_cast-colon : goal.overflow_cast-colon
overflow_cast-colon c =
    let p = parts (goal.at.overflow_cast-colon c).Start in
    omega (arith, p.between.order, p.value.order, p.mark.order, p.short)

pub overflow_cast-value : goal.overflow_cast-value
overflow_cast-value c =
    let p = parts (goal.at.overflow_cast-value c).Start in
    omega (arith, p.value.order, p.mark.order, p.short)

pub overflow_cast-end : goal.overflow_cast-end
overflow_cast-end c =
    let p = parts (goal.at.overflow_cast-end c).Start in
    omega (arith, p.mark.order, p.short)

pub part-requires-2 : goal.part-requires-2
part-requires-2 c = (parts (goal.at.part-requires-2 c).Start).prop

pub part-requires-3 : goal.part-requires-3
part-requires-3 c = (parts (goal.at.part-requires-3 c).Start).between

pub plain_source-requires : goal.plain_source-requires
plain_source-requires c = (parts (goal.at.plain_source-requires c).Start).value

pub part-requires-4 : goal.part-requires-4
part-requires-4 c = (parts (goal.at.part-requires-4 c).Start).mark

pub returns-clause-node : goal.returns-clause-node
returns-clause-node c run h =
    leaf-made (sheet c.args.texts) c.args.gap c.args.parent c.args.plain.now run _ _ _ _ _ _ c.requires.is_sheet.utf8 h
    c.in_ok-before.ensures c.in_ok-prop.ensures c.in_ok-between.ensures c.in_ok-source.ensures c.in_ok-important_raw.ensures c.in_ok-tail.ensures
