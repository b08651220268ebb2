use Rattle.std.proofs.Common.{arith}
use Rattle.node_rows.proofs.Edits.{parent-inside}
use Rattle.node_rows.proofs.Places.{place-inside}
use Rattle.node_rows.proofs.Short.{children-short}
use Rattle.node_store.proofs.Frames.{owed-taken, frames-taken, news-taken}
use Rattle.node_store.proofs.copying.plan_frame.Goals as goal

pub overflow_add-frame : goal.overflow_add-frame
overflow_add-frame c =
    let ns = c.args.rows.now in
    let q = c.requires.0 in
    omega (arith, c.requires.2, place-inside ns c.facts.ensures c.args.frame.node q c.requires.1, children-short ns q c.facts.ensures, c.facts.ensures.few)

pub returns-clause-owed : goal.returns-clause-owed
returns-clause-owed c =
    let ns = c.args.rows.now in
    let b = parent-inside ns c.args.frame.node c.requires.0 c.requires.1 in
    owed-taken ns c.facts.ensures c.args.stack.now.items c.push_frame.new.stack.items c.push_frame-2.new.stack.items c.args.frame c.args.number b c.args.plan.now.edits.items c.plan_node.new.plan.edits.items c.push.new.self.items c.next_sibling.result c.first_child.result c.new.result c.new-2.result
    c.in_ok-plan_node.ensures.edits c.in_ok-push.ensures.items c.new.ensures c.new-2.ensures c.next_sibling.ensures c.in_ok-push_frame.ensures c.first_child.ensures c.in_ok-push_frame-2.ensures

pub returns-clause-nodes : goal.returns-clause-nodes
returns-clause-nodes c = λ e.
    news-taken c.args.plan.now.edits.items c.plan_node.new.plan.edits.items c.push.new.self.items _ _ c.args.number c.new.result c.new-2.result c.args.frame.at _ _ c.in_ok-plan_node.ensures.edits c.in_ok-push.ensures.items c.in_ok-plan_node.ensures.nodes e

pub returns-clause-frames : goal.returns-clause-frames
returns-clause-frames c = λ all.
    frames-taken c.args.rows.now c.facts.ensures c.args.stack.now.items c.push_frame.new.stack.items c.push_frame-2.new.stack.items c.args.frame c.args.number c.next_sibling.result c.first_child.result c.requires
    c.next_sibling.ensures c.in_ok-push_frame.ensures c.first_child.ensures c.in_ok-push_frame-2.ensures all
