use Rattle.std.proofs.Common.{◌<◌, length, ap, ◌∙◌, arith}
use Rattle.std.proofs.lemmas.Bool.{lt-ltb}
use Rattle.stringify.specs.Sheet.{with_body}
use Rattle.stringify.proofs.Pieces.{body-shown, nodes_in, ats_in}
use Rattle.stringify.proofs.printed.print_node.Goals as goal

pub returns-in-Ok-finish : goal.returns-in-Ok-finish
returns-in-Ok-finish c =
    let f = c.args.work.now in
    let n = c.args.n in
    let given : n < length f.nodes = omega (arith, c.if-number-node_total.false, c.number.ensures, c.node_total.ensures) in
    let s = body-shown f.nodes n c.write_body.new.out (c.in-Ok.ensures ∙ ap (with_body f.nodes n) c.new-out.ensures) in (
      lt-ltb n (length f.nodes) given,
      record { text = c.in-Ok-finish.ensures.text ∙ s.text; nodes = ap nodes_in c.in-Ok-finish.ensures.starts ∙ s.nodes; starts = ap ats_in c.in-Ok-finish.ensures.starts ∙ s.ats },
    )
