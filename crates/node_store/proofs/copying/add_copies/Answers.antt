use Rattle.std.proofs.Common.{◌≡◌, ◌<◌, ap, ◌∙◌, arith, length, get_or}
use Rattle.std.proofs.lemmas.List.{length-map}
use Rattle.node_rows.specs.Growth.{made}
use Rattle.node_store.proofs.Growing.{plan-few, turn-graft, turn-grown, turn-plan}
use Rattle.node_store.proofs.copying.add_copies.Goals as goal

pub add_all-requires : goal.add_all-requires
add_all-requires c =
    let e = ap length c.requires.nodes in
    omega (arith, plan-few c.args.edits.now.items c.args.rows.now c.requires.plan c.facts.ensures.few, length-map c.args.nodes.items made)

pub graft-requires : goal.graft-requires
graft-requires c =
    let es = c.args.edits.now.items in
    let i = c.loop-edit.edit-index in
    let e = c.edit-item.result in
    let all = c.deref-edit-items.ensures.value in
    let b : i < length es = let l = ap length all in omega (arith, c.loop-edit-test.true) in
    let is : e ≡ get_or es i e = c.edit-item.is ∙ ap (λ l. get_or l i e) all in
    turn-graft c.args.rows.now c.loop-edit.rows es i e b is c.loop-edit.invariant.grown c.loop-edit.invariant.plan

pub loop-edit-preserved : goal.loop-edit-preserved
loop-edit-preserved c =
    let es = c.args.edits.now.items in
    let i = c.loop-edit.edit-index in
    let e = c.edit-item.result in
    let all = c.deref-edit-items.ensures.value in
    let b : i < length es = let l = ap length all in omega (arith, c.loop-edit-test.true) in
    let is : e ≡ get_or es i e = c.edit-item.is ∙ ap (λ l. get_or l i e) all in
    record {
      grown = turn-grown c.args.rows.now c.loop-edit.rows es i e b is c.loop-edit.invariant.grown c.loop-edit.invariant.plan c.graft.new.rows c.graft.ensures;
      plan = turn-plan c.args.rows.now c.loop-edit.rows es i e b is c.loop-edit.invariant.grown c.loop-edit.invariant.plan;
    }
