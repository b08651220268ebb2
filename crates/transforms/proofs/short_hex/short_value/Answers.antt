use Rattle.std.proofs.Common.{refl, sym, ◌∙◌}
use Rattle.node_rows.specs.Nodes.{text_of, parent_of}
use Rattle.transforms.proofs.NoHash.{stays}
use Rattle.transforms.proofs.short_hex.short_value.Goals as goal

pub returns-in-Some-clause-effect : goal.returns-in-Some-clause-effect
returns-in-Some-clause-effect c =
    let ns = c.args.work.now.nodes in
    let n = c.args.node in
    stays ns n c.args.event (text_of ns n) (parent_of ns n) c.in-Some.value.now refl c.in-Some.ensures.value (sym c.stays.ensures ∙ c.if-stays.true)
