use Rattle.std.specs.Str.{chars}
use Rattle.css_tree.specs.declared.node.Field.TheVariants as F
use Rattle.transforms.proofs.Planned.{unrefused-plan, front, setting-plan}
use Rattle.transforms.proofs.edits.set_selector.Goals as goal

pub unrefused-requires : goal.unrefused-requires
unrefused-requires c =
    let f = c.args.work.now in
    unrefused-plan _ _ f c.set_selector.new.work c.set_selector.result (setting-plan f.nodes c.args.n F.Selector (chars c.args.text.now) c.requires.parent c.requires.kind) c.set_selector.ensures

pub returns : goal.returns
returns c =
    let f = c.args.work.now in
    front _ _ f c.set_selector.new.work c.set_selector.result c.unrefused.result (setting-plan f.nodes c.args.n F.Selector (chars c.args.text.now) c.requires.parent c.requires.kind) c.set_selector.ensures c.unrefused.ensures
