use Rattle.std.proofs.Common.{◌≡◌, length, ◌∙◌, ap, arith, length-set}
use Rattle.node_store.proofs.Allowed.{insertable}
use Rattle.node_store.proofs.Shapes.{dirtied-same}
use Rattle.node_store.proofs.edits.insert.Goals as goal

pub mark-requires : goal.mark-requires
mark-requires c =
    let i = insertable c.args.rows.now c.args.node c.args.parent c.args.at c.requires in
    let d = ap length c.dirty_tree.ensures ∙ (dirtied-same c.link.new.self c.number-3.result).links.same_length in
    let l : length c.link.new.self ≡ length c.args.rows.now = ap length c.link.ensures ∙ (length-set _ _ _ ∙ length-set _ _ _) in
    omega (arith, i.parent_in, d, l, c.number-4.ensures)
