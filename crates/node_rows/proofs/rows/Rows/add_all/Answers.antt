use Rattle.std.proofs.Common.{◌+◌, ◌≤◌, ◌++◌, length, map, subst, sym, ap, ◌∙◌, arith}
use Rattle.node_rows.specs.Growth.{made}
use Rattle.node_rows.specs.Shown.{shown_rows, IsLinked}
use Rattle.node_rows.specs.Fingers.{IsFinger}
use Rattle.node_rows.proofs.Fingers.{IsFinger-grown}
use Rattle.node_rows.proofs.Join.{length-shown}
use Rattle.node_rows.proofs.Grown.{rows-grown}
use Rattle.node_rows.proofs.rows.Rows.add_all.Goals as goal

pub invariant_of-self-2 : goal.invariant_of-self-2
invariant_of-self-2 c =
    let rs = c.self.inside.items.items in
    let few : length rs + length c.args.nodes.items ≤ 67108865 = let e = length-shown rs in let f = ap length c.self.view_is in omega (arith, c.requires) in
    let e = c.in_ok-append.ensures.items ∙ ap (λ l. rs ++ l) c.in_ok-rows.ensures in
    let g = rows-grown c.args.nodes.items rs c.self.invariant.0 few in
    subst (λ l. IsLinked l × IsFinger (shown_rows l) c.self.inside.finger) (sym e) (g.0, subst (λ l. IsFinger l c.self.inside.finger) (sym g.1) (IsFinger-grown c.args.nodes.items (shown_rows rs) c.self.inside.finger c.self.invariant.1))

pub returns : goal.returns
returns c =
    let rs = c.self.inside.items.items in
    let few : length rs + length c.args.nodes.items ≤ 67108865 = let e = length-shown rs in let f = ap length c.self.view_is in omega (arith, c.requires) in
    let e = c.in_ok-append.ensures.items ∙ ap (λ l. rs ++ l) c.in_ok-rows.ensures in
    ap shown_rows e ∙ ((rows-grown c.args.nodes.items rs c.self.invariant.0 few).1 ∙ ap (λ l. l ++ map made c.args.nodes.items) c.self.view_is)
