use Rattle.transforms.proofs.Planned.{some_of, unrefused-plan, front, behind-plan}
use Rattle.transforms.proofs.edits.move_behind.Goals as goal

pub unrefused-requires : goal.unrefused-requires
unrefused-requires c =
    let f = c.args.work.now in
    let p = some_of _ c.requires.rule in
    unrefused-plan _ _ f c.insert_after.new.work c.insert_after.result (behind-plan f c.args.rule c.args.child p.0 c.facts.ensures c.requires.child p.1) c.insert_after.ensures

pub returns : goal.returns
returns c = λ p e.
    let f = c.args.work.now in
    front _ _ f c.insert_after.new.work c.insert_after.result c.unrefused.result (behind-plan f c.args.rule c.args.child p c.facts.ensures c.requires.child e) c.insert_after.ensures c.unrefused.ensures
