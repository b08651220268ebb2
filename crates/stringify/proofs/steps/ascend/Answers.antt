use Rattle.std.proofs.Common.{sym, ◌∙◌, arith}
use Rattle.stringify.proofs.Children.{sibling-inside}
use Rattle.stringify.proofs.Turns.{depth-small, container-depth, follows-sibling, follows-parent}
use Rattle.stringify.proofs.steps.ascend.Goals as goal

pub begin_child-requires-clause-child : goal.begin_child-requires-clause-child
begin_child-requires-clause-child c =
    sibling-inside c.args.work.now.nodes c.facts.ensures.sound c.args.at.node c.in-Some.parent c.in-Some-next_sibling.sibling (sym c.parent_of.ensures ∙ c.in-Some.is) (sym c.next_sibling.ensures ∙ c.in-Some-next_sibling.is)

pub begin_child-requires-clause-depth : goal.begin_child-requires-clause-depth
begin_child-requires-clause-depth c = c.requires.step.depth ∙ container-depth c.args.work.now c.facts.ensures c.args.at.node c.in-Some.parent (sym c.parent_of.ensures ∙ c.in-Some.is)

pub begin_child-requires-clause-few : goal.begin_child-requires-clause-few
begin_child-requires-clause-few c = omega (arith, c.requires.step.depth, depth-small c.args.work.now c.facts.ensures c.args.at.node)

pub returns-in_ok-begin_child-in-Some-next_sibling : goal.returns-in_ok-begin_child-in-Some-next_sibling
returns-in_ok-begin_child-in-Some-next_sibling c =
    follows-sibling c.args.work.now c.facts.ensures c.args.top c.args.at c.requires.step c.in-Some.parent c.in-Some-next_sibling.sibling c.args.out.now c.begin_child.new.out c.requires.ended c.requires.below
    (sym c.parent_of.ensures ∙ c.in-Some.is) (sym c.next_sibling.ensures ∙ c.in-Some-next_sibling.is) c.in_ok-begin_child-in-Some-next_sibling.ensures

pub returns-in_ok-end_node-in-None-next_sibling : goal.returns-in_ok-end_node-in-None-next_sibling
returns-in_ok-end_node-in-None-next_sibling c =
    follows-parent c.args.work.now c.facts.ensures c.args.top c.args.at c.requires.step c.in-Some.parent c.depth_above-depth.result c.args.out.now c.end_node.new.out c.requires.ended c.requires.below
    (sym c.parent_of.ensures ∙ c.in-Some.is) (sym c.next_sibling.ensures ∙ c.in-None-next_sibling.is) c.depth_above-depth.ensures.value c.in_ok-end_node-in-None-next_sibling.ensures
