use Rattle.std.specs.Str.{chars}
use Rattle.css_tree.specs.declared.node.Field.TheVariants as F
use Rattle.transforms.proofs.Planned.{unrefused-plan, front, setting-plan}
use Rattle.transforms.proofs.edits.set_value.Goals as goal

pub unrefused-requires : goal.unrefused-requires
unrefused-requires c =
    let f = c.args.work.now in
    unrefused-plan _ _ f c.set_value.new.work c.set_value.result (setting-plan f.nodes c.args.n F.Value (chars c.args.text.now) c.requires.parent c.requires.kind) c.set_value.ensures

pub returns : goal.returns
returns c =
    let f = c.args.work.now in
    front _ _ f c.set_value.new.work c.set_value.result c.unrefused.result (setting-plan f.nodes c.args.n F.Value (chars c.args.text.now) c.requires.parent c.requires.kind) c.set_value.ensures c.unrefused.ensures
