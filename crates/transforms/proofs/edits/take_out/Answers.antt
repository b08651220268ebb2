use Rattle.transforms.proofs.Planned.{unrefused-plan, front, removing-plan}
use Rattle.transforms.proofs.edits.take_out.Goals as goal

pub unrefused-requires : goal.unrefused-requires
unrefused-requires c =
    let f = c.args.work.now in
    unrefused-plan _ _ f c.remove.new.work c.remove.result (removing-plan f c.args.n c.facts.ensures c.requires) c.remove.ensures.answer

pub returns : goal.returns
returns c =
    let f = c.args.work.now in
    front _ _ f c.remove.new.work c.remove.result c.unrefused.result (removing-plan f c.args.n c.facts.ensures c.requires) c.remove.ensures.answer c.unrefused.ensures
