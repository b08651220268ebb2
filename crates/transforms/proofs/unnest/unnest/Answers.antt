use Rattle.std.proofs.Common.{sym, ◌∙◌}
use Rattle.std.specs.Prelude.{filter, reverse}
use Rattle.std.specs.List.{flat_map}
use Rattle.node_rows.specs.Nodes.{text_of, parent_of, children_of}
use Rattle.plugin_api.specs.declared.visitor.Duty.TheVariants as D
use Rattle.plugin_api.specs.Effect.{moved_out, is_movable}
use Rattle.transforms.specs.Reads.{selector_of}
use Rattle.transforms.proofs.Planned.{some_of}
use Rattle.transforms.proofs.Duties.{met-front, unnest-effect}
use Rattle.transforms.proofs.unnest.unnest.Goals as goal

pub returns : goal.returns
returns c =
    let f = c.args.work.now in
    let ns = f.nodes in
    let m = c.args.moment in
    let n = m.node in
    let yes = c.if-not-unnests.false in
    let p = some_of (parent_of ns n) (c.unnests.ensures.parent yes) in
    let es = flat_map (moved_out ns n p.0 (selector_of (text_of ns n))) (reverse (filter (λ x. is_movable (text_of ns x)) (children_of ns n))) in
    let effect = unnest-effect ns n p.0 m.event p.1 (c.unnests.ensures.rule yes) in
    met-front D.Unnest f c.move_all.new.work m es c.move_all.result c.map_err.result effect (λ all h. h ∙ sym effect) (c.move_all.ensures p.0 p.1) c.map_err.ensures.cases
