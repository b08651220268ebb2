use Rattle.std.proofs.Common.{◌≡◌, ◌+◌, ◌++◌, ◌∷◌, [], ap, sym, ◌∙◌, arith, length, map, length-append}
use Rattle.std.proofs.lemmas.List.{length-map}
use Rattle.node_rows.specs.Growth.{made}
use Rattle.node_rows.specs.Nodes.{Node, new_node, text_of, span_of}
use Rattle.node_store.specs.declared.item.Edit.TheVariants.{New}
use Rattle.node_store.specs.Copies.{copied}
use Rattle.node_store.specs.Growth.{owed, frame_list}
use Rattle.node_store.proofs.Frames.{whole-first, whole-kept, frames-first, frame-last, frames-before, news-few, news-one}
use Rattle.node_store.proofs.copying.plan_tree.Goals as goal

pub loop-frame-init : goal.loop-frame-init
loop-frame-init c =
    let ns = c.args.rows.now in
    let top = c.args.top in
    let first = c.len-first.result in
    let x : Node = new_node (text_of ns top) (span_of ns top) in
    let edits = c.in_ok-plan_node.ensures.edits ∙ ap (λ l. l ++ New first (text_of ns top) (span_of ns top) ∷ []) c.new.ensures.items in
    let nodes : map made c.plan_node.new.plan.nodes.items ≡ x ∷ [] = c.in_ok-plan_node.ensures.nodes ∙ ap (λ l. map made l ++ x ∷ []) c.new-2.ensures.items in
    let stack = c.in_ok-push_frame.ensures ∙ ap (λ l. l ++ frame_list c.first_child.result first 0) c.new-stack.ensures.items in
    let one : length c.plan_node.new.plan.nodes.items ≡ 1 = let e = ap length nodes in omega (arith, length-map c.plan_node.new.plan.nodes.items made) in
    record {
      whole = whole-first ns c.facts.ensures top first (length c.plan_node.new.plan.nodes.items) c.plan_node.new.plan.edits.items c.first_child.result c.push_frame.new.stack.items c.len-first.ensures one edits c.first_child.ensures stack;
      nodes = nodes ∙ sym (news-one c.plan_node.new.plan.edits.items first (text_of ns top) (span_of ns top) edits);
      frames = frames-first ns c.facts.ensures top first c.first_child.result c.push_frame.new.stack.items c.first_child.ensures stack;
    }

pub overflow_cast-number : goal.overflow_cast-number
overflow_cast-number c =
    let ns = c.args.rows.now in
    let plan = c.loop-frame.plan in
    let e = news-few ns c.args.top plan.edits.items (owed ns c.loop-frame.stack.items (length ns + length plan.nodes.items)) (map made plan.nodes.items) c.loop-frame.invariant.whole c.loop-frame.invariant.nodes in
    omega (arith, e, length-map plan.nodes.items made, c.requires.few, c.len.ensures, plan.nodes.ok.0)

pub overflow_add-number : goal.overflow_add-number
overflow_add-number c =
    let ns = c.args.rows.now in
    let plan = c.loop-frame.plan in
    let e = news-few ns c.args.top plan.edits.items (owed ns c.loop-frame.stack.items (length ns + length plan.nodes.items)) (map made plan.nodes.items) c.loop-frame.invariant.whole c.loop-frame.invariant.nodes in
    omega (arith, e, length-map plan.nodes.items made, c.requires.few, c.len.ensures, c.len-first.ensures, plan.nodes.ok.0)

pub plan_frame-requires : goal.plan_frame-requires
plan_frame-requires c = frame-last c.args.rows.now c.facts.ensures c.pop.new.self.items c.loop-frame.stack.items c.in-Some.frame c.in-Some.ensures.items c.loop-frame.invariant.frames

pub loop-frame-smaller : goal.loop-frame-smaller
loop-frame-smaller c =
    let ns = c.args.rows.now in
    let plan = c.loop-frame.plan in
    let later = c.plan_frame.new.plan in
    let done = c.in_ok-plan_frame.ensures in
    let number = c.len-first.result + c.len.result in
    let is : number ≡ length ns + length plan.nodes.items = omega (arith, c.len.ensures, c.len-first.ensures, plan.nodes.ok.0) in
    let whole = whole-kept ns c.facts.ensures plan.edits.items later.edits.items (copied ns c.args.top) c.loop-frame.stack.items c.pop.new.self.items c.plan_frame.new.stack.items c.in-Some.frame number (length plan.nodes.items) (length later.nodes.items)
    done.owed c.in-Some.ensures.items is done.count c.loop-frame.invariant.whole in
    let size = ap length whole in
    omega (arith, done.longer, size, length-append later.edits.items (owed ns c.plan_frame.new.stack.items (length ns + length later.nodes.items)))

pub loop-frame-preserved : goal.loop-frame-preserved
loop-frame-preserved c =
    let ns = c.args.rows.now in
    let plan = c.loop-frame.plan in
    let later = c.plan_frame.new.plan in
    let done = c.in_ok-plan_frame.ensures in
    let number = c.len-first.result + c.len.result in
    let is : number ≡ length ns + length plan.nodes.items = omega (arith, c.len.ensures, c.len-first.ensures, plan.nodes.ok.0) in
    record {
      whole = whole-kept ns c.facts.ensures plan.edits.items later.edits.items (copied ns c.args.top) c.loop-frame.stack.items c.pop.new.self.items c.plan_frame.new.stack.items c.in-Some.frame number (length plan.nodes.items) (length later.nodes.items)
          done.owed c.in-Some.ensures.items is done.count c.loop-frame.invariant.whole;
      nodes = done.nodes c.loop-frame.invariant.nodes;
      frames = done.frames (frames-before ns c.facts.ensures c.pop.new.self.items c.loop-frame.stack.items c.in-Some.frame c.in-Some.ensures.items c.loop-frame.invariant.frames);
    }
