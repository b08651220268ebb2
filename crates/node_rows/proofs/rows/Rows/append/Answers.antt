use Rattle.std.proofs.Common.{◌<◌, ◌++◌, ◌∷◌, [], length, Some, refl, ap, ◌∙◌, arith}
use Rattle.node_rows.specs.Nodes.{new_node, holds}
use Rattle.node_rows.proofs.Holds.{apart-pushed}
use Rattle.node_rows.proofs.rows.Rows.append.Goals as goal

pub link_last-requires-clause-apart : goal.link_last-requires-clause-apart
link_last-requires-clause-apart c =
    let ns = c.args.self.now in
    let p = c.args.node.parent in
    let some : p < length ns = c.requires.earlier (omega (arith, c.if-not-is_root.true, c.len-is_root.ensures)) in
    ap (λ ms. holds ms c.in_ok-n.n p) c.in_ok-n.ensures.1
    ∙ (ap (λ n. holds (ns ++ new_node c.args.node.text (Some c.args.node.span) ∷ []) n p) c.in_ok-n.ensures.0
    ∙ apart-pushed ns (new_node c.args.node.text (Some c.args.node.span)) refl refl c.requires.few c.facts.ensures p some)
