use Rattle.std.proofs.Common.{ap, ◌∙◌, subst}
use Rattle.node_rows.specs.Nodes.{holds}
use Rattle.node_store.specs.Growth.{IsGraft}
use Rattle.node_store.proofs.Growing.{graft-apart}
use Rattle.node_store.proofs.copying.graft.Goals as goal

pub link-requires-clause-apart : goal.link-requires-clause-apart
link-requires-clause-apart c =
    let rows = c.args.rows.now in
    let g = subst (IsGraft rows) c.in-Insert.is c.requires in
    let e = graft-apart rows c.in-Insert.node c.in-Insert.parent c.in-Insert.at g c.facts.ensures in
    ap (λ n. holds rows n c.number.result) c.number-in-Insert.ensures ∙ (ap (holds rows c.in-Insert.node) c.number.ensures ∙ e)
