use Rattle.std.proofs.Common.{◌∙◌, map, ap, sym}
use Rattle.node_rows.specs.Nodes.{parent_of, place_of, previous_sibling_of, unlinked}
use Rattle.node_store.specs.declared.item.Edit.TheVariants.{Remove}
use Rattle.node_store.specs.Passing.{seat_without}
use Rattle.node_store.proofs.Stores.{edited-taken}
use Rattle.node_store.proofs.Views.{view-edited}
use Rattle.node_store.proofs.work.Work.take_out.Goals as goal

pub invariant_of-self-2 : goal.invariant_of-self-2
invariant_of-self-2 c =
    let ns = c.self.inside.rows in
    let ss = c.self.inside.seats.items in
    let p = c.in-Some.parent in
    let before = c.previous_sibling-before.result in
    let n = c.number-n.ensures in
    (edited-taken c.self.inside.text ns ss c.self.invariant p c.args.node before c.unlink.new.self c.mark.new.self c.pass_back.new.seats.items
    (ap (parent_of ns) (sym n) ∙ (sym c.parent.ensures ∙ c.in-Some.is)) (c.previous_sibling-before.ensures ∙ ap (previous_sibling_of ns) n)
    (c.unlink.ensures ∙ ap (λ m. unlinked ns p (place_of ns p m) m) n) c.mark.ensures (c.pass_back.ensures ∙ ap (λ m. map (seat_without m before) ss) n)).0.stored

pub returns-clause-edit : goal.returns-clause-edit
returns-clause-edit c =
    let ns = c.self.inside.rows in
    let ss = c.self.inside.seats.items in
    let p = c.in-Some.parent in
    let before = c.previous_sibling-before.result in
    let n = c.number-n.ensures in
    let done = edited-taken c.self.inside.text ns ss c.self.invariant p c.args.node before c.unlink.new.self c.mark.new.self c.pass_back.new.seats.items
    (ap (parent_of ns) (sym n) ∙ (sym c.parent.ensures ∙ c.in-Some.is)) (c.previous_sibling-before.ensures ∙ ap (previous_sibling_of ns) n)
    (c.unlink.ensures ∙ ap (λ m. unlinked ns p (place_of ns p m) m) n) c.mark.ensures (c.pass_back.ensures ∙ ap (λ m. map (seat_without m before) ss) n) in
    view-edited c.args.self.now _ _ _ _ _ _ c.self.view_is (Remove c.args.node) c.mark.new.self c.pass_back.new.seats.items c.reserve.new.self.items c.push_reserved.new.self.items done.1 done.0.shown c.in_ok-reserve.ensures.items c.push_reserved.ensures.items
