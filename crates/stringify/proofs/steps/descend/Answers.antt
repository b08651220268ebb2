use Rattle.std.proofs.Common.{sym, ◌∙◌, refl}
use Rattle.stringify.proofs.Children.{first-inside}
use Rattle.stringify.proofs.Turns.{follows-child, follows-empty}
use Rattle.stringify.proofs.steps.descend.Goals as goal

pub begin_child-requires-clause-child : goal.begin_child-requires-clause-child
begin_child-requires-clause-child c = first-inside c.args.work.now.nodes c.facts.ensures.sound c.args.at.node c.in-Some.child (sym c.first_child.ensures ∙ c.in-Some.is)

pub returns-in_ok-begin_child-in-Some : goal.returns-in_ok-begin_child-in-Some
returns-in_ok-begin_child-in-Some c =
    follows-child c.args.work.now c.facts.ensures c.args.top c.args.at c.requires.step c.in-Some.child c.depth_below-depth.result c.args.out.now c.begin_child.new.out c.requires.begun
    (sym c.first_child.ensures ∙ c.in-Some.is) c.depth_below-depth.ensures.value c.in_ok-begin_child-in-Some.ensures

pub returns-in_ok-end_node-in-None : goal.returns-in_ok-end_node-in-None
returns-in_ok-end_node-in-None c =
    follows-empty c.args.work.now c.facts.ensures c.args.top c.args.at c.requires.step c.args.at.depth c.args.out.now c.end_node.new.out c.requires.begun
    (sym c.first_child.ensures ∙ c.in-None.is) refl c.in_ok-end_node-in-None.ensures
